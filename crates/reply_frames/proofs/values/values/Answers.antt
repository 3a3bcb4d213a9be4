use Rattle.std.proofs.Common.{◌∷◌, [], arith, length-append}
use Rattle.std.proofs.lemmas.Result.{err_from_is_err_and}
use Rattle.ccp_base.specs.FieldReg.{Pair}
use Rattle.reply_frames.specs.Parts.{repeated_at}
use Rattle.reply_frames.specs.Frames.{value_at, values_at}
use Rattle.reply_frames.proofs.Loops.{goes_on, stops, is_done}
use Rattle.reply_frames.proofs.values.values.Goals as goal

pub returns-in_err-reg-clause-read : goal.returns-in_err-reg-clause-read
unfolding values_at
returns-in_err-reg-clause-read c =
    let p = err_from_is_err_and c.from_residual.result c.from_residual.ensures.1 in
    rw (p.1, p.2) (stops value_at c.in_err-reg.field-0.0 c.loop.read c.args.count c.loop.counter c.loop.rest.now (repeated_at value_at c.args.count c.args.bytes.now) c.loop-test.true c.in_err-reg.ensures c.loop.invariant.read)

pub loop-preserved : goal.loop-preserved
loop-preserved c =
    let n : Pair = (c.in_ok-reg.reg, c.in_ok-reg.number) in
    record {
      read = rw c.push.ensures (goes_on value_at c.loop.read c.args.count c.loop.counter c.loop.rest.now n c.in_ok-reg.after.now (repeated_at value_at c.args.count c.args.bytes.now) c.loop-test.true c.in_ok-reg.ensures c.loop.invariant.read);
      counted = rw c.push.ensures (omega (arith, c.loop.invariant.counted, length-append c.loop.read (n ∷ [])));
    }

pub returns-clause-read : goal.returns-clause-read
unfolding values_at
returns-clause-read c = is_done value_at c.loop.read c.args.count c.loop.counter c.loop.rest.now (repeated_at value_at c.args.count c.args.bytes.now) c.loop-test.false c.loop.invariant.read
