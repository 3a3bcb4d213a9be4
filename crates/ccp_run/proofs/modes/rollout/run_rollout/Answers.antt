use Rattle.std.proofs.Common.{◌∙◌}
use Rattle.live_install.specs.WholeBooks.{flows_of}
use Rattle.ccp_run.proofs.RolloutLemmas.{flow_cases, all_right, all_histories}
use Rattle.ccp_run.proofs.modes.rollout.run_rollout.Goals as goal

pub returns : goal.returns
returns g c =
    let books = c.in_ok-books.books in
    let whole = c.in_ok-books.ensures.whole in
    record {
      histories = flows_of books;
      each = flow_cases books ∙ c.in_ok-books.ensures.cases;
      whole = all_histories books whole;
      written = c.text.ensures.text ∙ c.in_ok-text.ensures.rollout (all_right books whole);
      no_books = c.text.ensures.books;
      no_programs = c.text.ensures.programs;
      idle = c.text.ensures.ran;
    }
