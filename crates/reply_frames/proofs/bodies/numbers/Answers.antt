use Rattle.std.proofs.Common.{◌∷◌, [], arith, length-append}
use Rattle.std.specs.Int.{w64}
use Rattle.std.proofs.lemmas.Result.{err_from_is_err_and}
use Rattle.reply_frames.specs.Parts.{number_at, repeated_at}
use Rattle.reply_frames.proofs.Loops.{goes_on, stops, is_done}
use Rattle.reply_frames.proofs.bodies.numbers.Goals as goal

pub returns-in_err-number-clause-read : goal.returns-in_err-number-clause-read
returns-in_err-number-clause-read c =
    let p = err_from_is_err_and c.from_residual.result c.from_residual.ensures.1 in
    rw (p.1, p.2) (stops (number_at w64) c.in_err-number.field-0.0 c.loop.numbers c.args.count c.loop.counter c.loop.rest.now (repeated_at (number_at w64) c.args.count c.args.bytes.now) c.loop-test.true c.in_err-number.ensures c.loop.invariant.read)

pub loop-preserved : goal.loop-preserved
loop-preserved c = record {
  read = rw c.push.ensures (goes_on (number_at w64) c.loop.numbers c.args.count c.loop.counter c.loop.rest.now c.in_ok-number.number c.in_ok-number.after.now (repeated_at (number_at w64) c.args.count c.args.bytes.now) c.loop-test.true c.in_ok-number.ensures c.loop.invariant.read);
  counted = rw c.push.ensures (omega (arith, c.loop.invariant.counted, length-append c.loop.numbers (c.in_ok-number.number ∷ [])));
}

pub returns-clause-read : goal.returns-clause-read
returns-clause-read c = is_done (number_at w64) c.loop.numbers c.args.count c.loop.counter c.loop.rest.now (repeated_at (number_at w64) c.args.count c.args.bytes.now) c.loop-test.false c.loop.invariant.read
