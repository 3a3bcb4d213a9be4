use Rattle.std.proofs.Common.{◌∙◌, Some, ap, sym}
use Rattle.fold_run.specs.AckLine.{some_if, with_line_value}
use Rattle.fold_run.proofs.ack_line.read_word.Goals as goal

pub returns-in_default-clause-wrong : goal.returns-in_default-clause-wrong
returns-in_default-clause-wrong c = c.in_default.ensures.none c.args.values.now

pub returns-in_default-read_number-clause-wrong : goal.returns-in_default-read_number-clause-wrong
returns-in_default-read_number-clause-wrong c =
    c.in-Some.ensures.gives.word c.args.values.now
    ∙ ap (with_line_value c.args.values.now (Some c.in-Some.item.number)) c.in_default-read_number.ensures.wrong

pub returns-then-take-clause-word : goal.returns-then-take-clause-word
returns-then-take-clause-word c =
    c.in-Some.ensures.gives.word c.args.values.now
    ∙ ap (with_line_value c.args.values.now (Some c.in-Some.item.number)) c.in-Some-read_number.ensures.number
    ∙ sym c.take.ensures
    ∙ ap (λ b. some_if b c.take.new.self) c.if-take.true

pub returns-then-take-clause-after : goal.returns-then-take-clause-after
returns-then-take-clause-after c = c.in-Some-read_number.ensures.after ∙ sym c.in-Some.ensures.gives.after

pub returns-else-take-clause-wrong : goal.returns-else-take-clause-wrong
returns-else-take-clause-wrong c =
    c.in-Some.ensures.gives.word c.args.values.now
    ∙ ap (with_line_value c.args.values.now (Some c.in-Some.item.number)) c.in-Some-read_number.ensures.number
    ∙ sym c.take.ensures
    ∙ ap (λ b. some_if b c.take.new.self) c.if-take.false
