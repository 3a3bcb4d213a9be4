use Rattle.std.proofs.Common.{◌≡◌, ◌++◌, ◌∷◌, [], ap, ◌∙◌}
use Rattle.std.proofs.lemmas.Result.{err_from_is_err_and}
use Rattle.reply_frames.specs.Parts.{repeated_at}
use Rattle.reply_frames.proofs.Loops.{goes_on, stops, is_done}
use Rattle.ccp_messages.specs.Decoding.{code_instr_at}
use Rattle.ccp_messages.proofs.Reading.{answers-stop}
use Rattle.ccp_messages.proofs.read_code.instrs.Goals as goal

pub returns-in_err-item : goal.returns-in_err-item
returns-in_err-item c =
    let p = err_from_is_err_and c.from_residual-in_err-item.result c.from_residual-in_err-item.ensures.1 in
    answers-stop _ c.from_residual-in_err-item.result p.0 c.in_err-item.field-0.0 (repeated_at code_instr_at c.args.count c.args.bytes.now) p.1 p.2
    (stops code_instr_at c.in_err-item.field-0.0 c.loop.items c.args.count c.loop.counter c.loop.rest.now (repeated_at code_instr_at c.args.count c.args.bytes.now) c.loop-test.true c.in_err-item.ensures c.loop.invariant)

pub loop-preserved : goal.loop-preserved
loop-preserved c =
    let pushed : c.push.new.self ≡ c.loop.items ++ c.in_ok-item.item ∷ [] = c.in_ok-push.ensures.ok ∙ ap (λ item. c.loop.items ++ item ∷ []) c.new.ensures in
    rw pushed (goes_on code_instr_at c.loop.items c.args.count c.loop.counter c.loop.rest.now c.in_ok-item.item c.in_ok-item.after.now (repeated_at code_instr_at c.args.count c.args.bytes.now) c.loop-test.true c.in_ok-item.ensures c.loop.invariant)

pub returns : goal.returns
returns c = is_done code_instr_at c.loop.items c.args.count c.loop.counter c.loop.rest.now (repeated_at code_instr_at c.args.count c.args.bytes.now) c.loop-test.false c.loop.invariant
