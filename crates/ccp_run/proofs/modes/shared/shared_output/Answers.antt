use Rattle.ccp_run.proofs.modes.shared.shared_output.Goals as goal

pub returns : goal.returns
returns g c =
    let scene = c.in_ok-scene.scene in
    let made = c.in_ok-run_together.ensures in
    record {
      programs = scene.scene.programs;
      cases = scene.scene.cases;
      link = scene.link;
      rounds = scene.rounds;
      scenario = c.in_ok-scene.ensures.found;
      written = made.text;
      no_books = made.books;
      no_programs = made.programs;
      idle = made.ran;
    }
