use Rattle.std.proofs.Common.{rules}
use Rattle.reply_frames.specs.declared.outline.Version.TheVariants.{One, Two}
use Rattle.feed_core.proofs.AckFrames.{head-spelled}
use Rattle.feed_core.proofs.ack_frame.head.Goals as goal

pub returns-in-263 : goal.returns-in-263
returns-in-263 c = head-spelled One c.number32-flow.result c.args.frame.now c.fits-frame c.told-frame (search rules) c.number32-flow.ensures (search rules)

pub returns-in-519 : goal.returns-in-519
returns-in-519 c = head-spelled Two c.number32-flow.result c.args.frame.now c.fits-frame c.told-frame (search rules) c.number32-flow.ensures (search rules)
