use Rattle.std.proofs.Common.{List, ℕ, sym, ◌∙◌, ap, length, ◌≡◌, Ok, Err, arith}
use Rattle.std.proofs.lemmas.Result.{err_from_is_err_and}
use Rattle.ccp_base.specs.Parts.{parts_of}
use Rattle.ccp_base.specs.declared.parts.Separator.TheVariants as separator
use Rattle.link_model.specs.Traces.{period}
use Rattle.link_model.specs.TraceText.{times_of, text_lines}
use Rattle.link_model.proofs.TraceLemmas.{are_trace}
use Rattle.link_model.proofs.TraceTextLemmas.{trace_of-bad, trace_of-empty, trace_of-falls, trace_of-zero, trace_of-times, other_than_ok}
use Rattle.link_model.proofs.trace.Trace.read.Goals as goal

pub returns-in_err-reading-clause-first : goal.returns-in_err-reading-clause-first
returns-in_err-reading-clause-first c =
    λ f is.
    let gave = err_from_is_err_and c.from_residual.result c.from_residual.ensures.1 in
    let bad = trace_of-bad c.args.text.now c.in_err-reading.field-0.0 c.in_err-reading.ensures.bad c.in_err-reading.ensures.at in
    gave.1 ∙ ap Err gave.2 ∙ sym bad ∙ is

pub returns-then-reading-eq0-clause-err : goal.returns-then-reading-eq0-clause-err
returns-then-reading-eq0-clause-err c =
    λ other. trace_of-empty c.args.text.now c.in_ok-reading.ensures.good (omega (arith, c.in_ok-reading.ensures.count, c.if-reading-eq0.true))

pub returns-then-reading-eq0-clause-first : goal.returns-then-reading-eq0-clause-first
returns-then-reading-eq0-clause-first c =
    λ f is. sym (trace_of-empty c.args.text.now c.in_ok-reading.ensures.good (omega (arith, c.in_ok-reading.ensures.count, c.if-reading-eq0.true))) ∙ is

pub returns-in-Some-clause-err : goal.returns-in-Some-clause-err
returns-in-Some-clause-err c =
    λ other. trace_of-falls c.args.text.now c.in_ok-reading.ensures.good (omega (arith, c.in_ok-reading.ensures.count, c.if-reading-eq0.false))
    c.in-Some.line (sym c.in_ok-reading.ensures.fall ∙ c.in-Some.is)

pub returns-in-Some-clause-first : goal.returns-in-Some-clause-first
returns-in-Some-clause-first c =
    λ f is. sym (trace_of-falls c.args.text.now c.in_ok-reading.ensures.good (omega (arith, c.in_ok-reading.ensures.count, c.if-reading-eq0.false))
    c.in-Some.line (sym c.in_ok-reading.ensures.fall ∙ c.in-Some.is)) ∙ is

pub returns-then-reading-eq0-2-clause-err : goal.returns-then-reading-eq0-2-clause-err
returns-then-reading-eq0-2-clause-err c =
    λ other. trace_of-zero c.args.text.now c.in_ok-reading.ensures.good (omega (arith, c.in_ok-reading.ensures.count, c.if-reading-eq0.false))
    (sym c.in_ok-reading.ensures.fall ∙ c.in_default.is) (omega (arith, c.in_ok-reading.ensures.last, c.if-reading-eq0-2.true))

pub returns-then-reading-eq0-2-clause-first : goal.returns-then-reading-eq0-2-clause-first
returns-then-reading-eq0-2-clause-first c =
    λ f is. sym (trace_of-zero c.args.text.now c.in_ok-reading.ensures.good (omega (arith, c.in_ok-reading.ensures.count, c.if-reading-eq0.false))
    (sym c.in_ok-reading.ensures.fall ∙ c.in_default.is) (omega (arith, c.in_ok-reading.ensures.last, c.if-reading-eq0-2.true))) ∙ is

pub returns-in-Some-refused-clause-first : goal.returns-in-Some-refused-clause-first
returns-in-Some-refused-clause-first c =
    λ f is.
    absurd (other_than_ok (times_of (text_lines c.args.text.now)) f
    (sym (trace_of-times c.args.text.now c.in_ok-reading.ensures.good (omega (arith, c.in_ok-reading.ensures.count, c.if-reading-eq0.false))
    (sym c.in_ok-reading.ensures.fall ∙ c.in_default.is) (omega (arith, c.in_ok-reading.ensures.last, c.if-reading-eq0-2.false))) ∙ is))

pub invariant_of-result : goal.invariant_of-result
invariant_of-result c =
    let times = c.in_ok-reading.reading.times.items in
    let same : times ≡ times_of (text_lines c.args.text.now) = c.in_ok-reading.ensures.times c.in_default-refused.is in
    are_trace (parts_of separator.LineFeed c.args.text.now) times same (sym c.in_ok-reading.ensures.fall ∙ c.in_default.is)
    (omega (arith, ap (λ (xs : List ℕ). length xs) same, c.in_ok-reading.ensures.count, c.if-reading-eq0.false))
    (omega (arith, ap (λ (xs : List ℕ). period xs) same, c.in_ok-reading.ensures.last, c.if-reading-eq0-2.false))

pub returns-clause-ok : goal.returns-clause-ok
returns-clause-ok c =
    trace_of-times c.args.text.now c.in_ok-reading.ensures.good (omega (arith, c.in_ok-reading.ensures.count, c.if-reading-eq0.false))
    (sym c.in_ok-reading.ensures.fall ∙ c.in_default.is) (omega (arith, c.in_ok-reading.ensures.last, c.if-reading-eq0-2.false))
    ∙ ap Ok (sym (c.in_ok-reading.ensures.times c.in_default-refused.is))

pub returns-clause-first : goal.returns-clause-first
returns-clause-first c =
    λ f is.
    absurd (other_than_ok (times_of (text_lines c.args.text.now)) f
    (sym (trace_of-times c.args.text.now c.in_ok-reading.ensures.good (omega (arith, c.in_ok-reading.ensures.count, c.if-reading-eq0.false))
    (sym c.in_ok-reading.ensures.fall ∙ c.in_default.is) (omega (arith, c.in_ok-reading.ensures.last, c.if-reading-eq0-2.false))) ∙ is))
