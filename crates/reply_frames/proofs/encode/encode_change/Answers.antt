use Rattle.std.proofs.Common.{◌≡◌, ◌+◌, ◌*◌, length, ap, ◌∙◌, refl, arith}
use Rattle.std.specs.Int.{w32, to_le_bytes}
use Rattle.reply_frames.specs.declared.outline.FrameKind.TheVariants.{Change}
use Rattle.reply_frames.specs.declared.outline.Version.TheVariants.{One}
use Rattle.reply_frames.specs.Frames as body
use Rattle.reply_frames.specs.ValueBytes.{values_bytes}
use Rattle.reply_frames.specs.FrameBytes.{counts, outline_bytes, outline_of}
use Rattle.reply_frames.specs.Writing.{placed, over}
use Rattle.reply_frames.proofs.Placing.{over-values}
use Rattle.reply_frames.proofs.ReplyLaws.{written-change}
use Rattle.reply_frames.proofs.encode.encode_change.Goals as goal

pub returns-clause-ok : goal.returns-clause-ok
returns-clause-ok c =
    let flow = c.args.flow in
    let values = c.args.values.now in
    let old = c.args.out.now in
    let program = to_le_bytes w32 c.args.program in
    let len : c.len-count.result ≡ length values = c.len-count.ensures.len in
    let front = outline_bytes (outline_of One flow (body.Change c.args.program values)) in
    let head : c.put_outline.new.out ≡ over front old =
    c.put_outline.ensures ∙ ap (λ head. over (outline_bytes head) old) (c.head_with_count.ensures ∙ ap (λ n. record { kind = Change; version = One; counts = counts n 0 0 0; flow = flow }) len) in
    let put : c.put.new.out ≡ placed 16 program c.put_outline.new.out = c.put.ensures ∙ ap (λ bytes. placed 16 bytes c.put_outline.new.out) c.to_le_bytes.ensures in
    let rest : c.put_values.new.out ≡ placed 20 (values_bytes values) c.put.new.out = c.put_values.ensures.placed in (
      ap (λ n. 20 + 10 * n) len,
      over-values front program (values_bytes values) c.put_outline.new.out c.put.new.out c.put_values.new.out old 16 20 refl refl head put rest,
    )

pub returns-clause-read_back : goal.returns-clause-read_back
returns-clause-read_back c =
    written-change c.args.flow c.args.program c.args.values.now c.args.out.now c.put_values.new.out (omega (arith, c.ranges.flow.fits)) (omega (arith, c.ranges.program.fits))
    (omega (arith, c.len-count.ensures.within)) c.requires c.put_values.ensures.typed (returns-clause-ok c).1
