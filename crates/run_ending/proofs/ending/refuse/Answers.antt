use Rattle.std.proofs.Common.{◌≡◌, ◌∙◌, List, ℕ, ap, sym, subst}
use Rattle.run_ending.specs.declared.status.Status.TheVariants as status
use Rattle.run_ending.specs.Endings.{Ends}
use Rattle.run_ending.specs.ErrorLine.{refusal_line}
use Rattle.run_ending.specs.Streams.{stream_change}
use Rattle.run_ending.proofs.ending.refuse.Goals as goal

pub returns-in-TooLong : goal.returns-in-TooLong
returns-in-TooLong g c =
    let line : c.line.result.now ≡ refusal_line c.args.refusal = c.line.ensures ∙ ap refusal_line (sym c.in-TooLong.is) in
    record {
      told = λ _. subst (λ (line : List ℕ). Ends (stream_change g.E.Sink.written g.E.Sink.faults c.args.errors.now c.end_without.new.errors) c.end_without.result status.InputRefused line) line c.end_without.ensures;
      failed = λ other. absurd (other c.end_without.ensures.status);
      too_long = λ _ _. c.end_without.ensures.status;
    }

pub returns-in-Ok : goal.returns-in-Ok
returns-in-Ok g c =
    let line : c.as_slice.result.now ≡ refusal_line c.args.refusal = c.as_slice.ensures ∙ c.in-Ok.ensures in
    record {
      told = λ _. subst (λ (line : List ℕ). Ends (stream_change g.E.Sink.written g.E.Sink.faults c.args.errors.now c.end_without-in-Ok.new.errors) c.end_without-in-Ok.result status.InputRefused line) line c.end_without-in-Ok.ensures;
      failed = λ other. absurd (other c.end_without-in-Ok.ensures.status);
      too_long = λ _ _. c.end_without-in-Ok.ensures.status;
    }
