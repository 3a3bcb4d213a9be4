use Rattle.std.proofs.Common.{ap}
use Rattle.std.proofs.lemmas.Result.{err_from_is_err_and}
use Rattle.reply_frames.specs.Parts.{passed, repeated_at}
use Rattle.reply_frames.specs.Frames.{start_at}
use Rattle.reply_frames.proofs.Loops.{passes_on, passing_stops, passing_is_done}
use Rattle.reply_frames.proofs.install_parts.starts.Goals as goal

pub returns-in_err-after : goal.returns-in_err-after
returns-in_err-after c =
    let p = err_from_is_err_and c.from_residual.result c.from_residual.ensures.1 in
    rw (p.1, p.2) (passing_stops start_at c.in_err-after.field-0.0 c.args.count c.loop.counter c.loop.rest.now (passed (repeated_at start_at c.args.count c.args.bytes.now)) c.loop-test.true (ap passed c.in_err-after.ensures) c.loop.invariant)

pub loop-preserved : goal.loop-preserved
loop-preserved c = passes_on start_at c.args.count c.loop.counter c.loop.rest.now c.in_ok-after.after.now (passed (repeated_at start_at c.args.count c.args.bytes.now)) c.loop-test.true (ap passed c.in_ok-after.ensures) c.loop.invariant

pub returns : goal.returns
returns c = passing_is_done start_at c.args.count c.loop.counter c.loop.rest.now (passed (repeated_at start_at c.args.count c.args.bytes.now)) c.loop-test.false c.loop.invariant
