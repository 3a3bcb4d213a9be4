use Rattle.std.proofs.Common.{◌∙◌}
use Rattle.ccp_run.proofs.modes.check.check_output.Goals as goal

pub returns : goal.returns
returns c =
    let built = c.in_ok-built in
    let made = c.with_programs.ensures in
    record {
      built = built.built;
      program = built.ensures.found;
      lean_code = built.ensures.lean;
      written = made.text ∙ c.in_ok-text.ensures;
      kept = made.programs ∙ c.in_ok-programs.ensures;
      no_books = made.books;
      idle = made.ran;
    }
