use Rattle.std.proofs.Common.{rules, ◌∙◌}
use Rattle.feed_core.proofs.AckFrames.{one-more, all-read}
use Rattle.feed_core.proofs.ack_frame.numbers.Goals as goal

pub loop-number-init : goal.loop-number-init
loop-number-init c = record { full = search rules; read = search rules }

pub loop-number-preserved : goal.loop-number-preserved
loop-number-preserved c = record {
  full = search rules;
  read = one-more c.loop-number.numbers c.args.frame.now c.loop-number.number c.number64.result c.fits-frame c.told-frame c.loop-number.invariant.full c.loop-number-test.true c.number64.ensures ∙ c.loop-number.invariant.read;
}

pub returns : goal.returns
returns c = all-read c.loop-number.numbers c.args.frame.now c.loop-number.number c.told-frame c.loop-number.invariant.full c.loop-number-test.false c.loop-number.invariant.read
