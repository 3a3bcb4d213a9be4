use Rattle.std.proofs.Common.{◌≡◌, ◌+◌, ◌*◌, length, ap, ◌∙◌, refl, arith}
use Rattle.reply_frames.specs.declared.outline.FrameKind.TheVariants.{Update}
use Rattle.reply_frames.specs.declared.outline.Version.TheVariants.{One}
use Rattle.reply_frames.specs.Frames as body
use Rattle.reply_frames.specs.ValueBytes.{values_bytes}
use Rattle.reply_frames.specs.FrameBytes.{counts, outline_bytes, outline_of}
use Rattle.reply_frames.specs.Writing.{placed, over}
use Rattle.reply_frames.proofs.Placing.{over-then}
use Rattle.reply_frames.proofs.ReplyLaws.{written-update}
use Rattle.reply_frames.proofs.encode.encode_update.Goals as goal

pub returns-clause-ok : goal.returns-clause-ok
returns-clause-ok c =
    let flow = c.args.flow in
    let values = c.args.values.now in
    let old = c.args.out.now in
    let len : c.len-count.result ≡ length values = c.len-count.ensures.len in
    let front = outline_bytes (outline_of One flow (body.Update values)) in
    let head : c.put_outline.new.out ≡ over front old =
    c.put_outline.ensures ∙ ap (λ head. over (outline_bytes head) old) (c.head_with_count.ensures ∙ ap (λ n. record { kind = Update; version = One; counts = counts n 0 0 0; flow = flow }) len) in
    let rest : c.put_values.new.out ≡ placed 16 (values_bytes values) c.put_outline.new.out = c.put_values.ensures.placed in
    (ap (λ n. 16 + 10 * n) len, over-then front (values_bytes values) c.put_outline.new.out c.put_values.new.out old 16 refl head rest)

pub returns-clause-read_back : goal.returns-clause-read_back
returns-clause-read_back c =
    written-update c.args.flow c.args.values.now c.args.out.now c.put_values.new.out (omega (arith, c.ranges.flow.fits))
    (omega (arith, c.len-count.ensures.within)) c.requires c.put_values.ensures.typed (returns-clause-ok c).1
