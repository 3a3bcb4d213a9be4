use Rattle.std.proofs.Common.{◌≡◌, ◌≤◌, length, sym, ◌∙◌, arith}
use Rattle.reply_frames.specs.declared.outline.Version.TheVariants.{One}
use Rattle.reply_frames.specs.Replies.{update_bytes}
use Rattle.agent_core.proofs.FrameLemmas.{length-update_bytes, IsPadded-written, take-written}
use Rattle.agent_core.proofs.frame.Frame.update.Goals as goal

pub invariant_of-result : goal.invariant_of-result
invariant_of-result c =
    let count = c.in-Ok.count in
    let wrote = c.in-Ok.ensures.ok in
    let sized : length (update_bytes One c.args.flow c.args.values.now) ≡ count = length-update_bytes c.args.flow c.args.values.now ∙ sym wrote.0 in
    let fits : count ≤ 64 = omega (arith, wrote.0) in
    IsPadded-written (update_bytes One c.args.flow c.args.values.now) _ count sized fits wrote.1

pub returns : goal.returns
returns c =
    let count = c.in-Ok.count in
    let wrote = c.in-Ok.ensures.ok in
    let sized : length (update_bytes One c.args.flow c.args.values.now) ≡ count = length-update_bytes c.args.flow c.args.values.now ∙ sym wrote.0 in
    let fits : count ≤ 64 = omega (arith, wrote.0) in
    take-written (update_bytes One c.args.flow c.args.values.now) _ count sized fits wrote.1
