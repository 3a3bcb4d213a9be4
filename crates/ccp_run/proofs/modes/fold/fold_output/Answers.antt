use Rattle.std.proofs.Common.{refl, ◌∙◌, ap}
use Rattle.portus_core.specs.ProgramForm.{form_of}
use Rattle.fold_run.specs.Ran.{ran_of}
use Rattle.ccp_run.specs.Fold.{folded_text}
use Rattle.ccp_run.proofs.modes.fold.fold_output.Goals as goal

pub returns-in_ok-run_fold-in-Ok : goal.returns-in_ok-run_fold-in-Ok
returns-in_ok-run_fold-in-Ok c =
    let cut = c.in-Some.cut in
    let built = c.in_ok-built.built in
    let form = form_of built.program in
    record {
      form = form;
      acks = c.in-Ok.acks;
      input = record {
        cut = record { program = cut.program.now; rest = cut.rest.now; next = cut.next };
        at_separator = c.in-Some.ensures.found;
        program = c.in_ok-built.ensures.found;
        lines = c.in-Ok.ensures.ok;
      };
      written = c.in_ok-run_fold-in-Ok.ensures.text ∙ ap (folded_text form) c.as_slice.ensures;
      built = built;
      program = refl;
      kept = c.in_ok-run_fold-in-Ok.ensures.programs;
      no_books = c.in_ok-run_fold-in-Ok.ensures.books;
      counted = c.in_ok-run_fold-in-Ok.ensures.ran ∙ ap (ran_of built.code.code) c.as_slice.ensures;
    }
