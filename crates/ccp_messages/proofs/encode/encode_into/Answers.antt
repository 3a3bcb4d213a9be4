use Rattle.std.proofs.Common.{◌≡◌, length, take, drop, ap, sym, ◌∙◌, arith, refl}
use Rattle.std.proofs.lemmas.List.{take_at}
use Rattle.reply_frames.specs.declared.outline.Outline.{Outline}
use Rattle.reply_frames.specs.Kinds.{size_of}
use Rattle.reply_frames.specs.FrameBytes.{outline_of, outline_bytes, body_bytes}
use Rattle.reply_frames.specs.Writing.{over}
use Rattle.reply_frames.proofs.Placing.{over-wrote}
use Rattle.ccp_messages.specs.Messages.{message_flow, message_body, frame_bytes}
use Rattle.ccp_messages.proofs.Encoding.{length-frame}
use Rattle.ccp_messages.proofs.DecodeLaws.{one_frame}
use Rattle.ccp_messages.proofs.encode.encode_into.Goals as goal

pub returns-then-out-size-clause-short : goal.returns-then-out-size-clause-short
returns-then-out-size-clause-short c =
    let size : c.frame_size-size.result ≡ length (frame_bytes c.args.version c.args.message.now) = c.frame_size-size.ensures ∙ ap (λ (head : Outline). size_of head.kind head.version head.counts) c.head_of-head.ensures.head ∙ sym (length-frame c.args.version c.args.message.now) in
    ap (λ n. record { 0 = n }) size

pub returns-then-out-size-clause-only_short : goal.returns-then-out-size-clause-only_short
returns-then-out-size-clause-only_short c =
    let size : c.frame_size-size.result ≡ length (frame_bytes c.args.version c.args.message.now) = c.frame_size-size.ensures ∙ ap (λ (head : Outline). size_of head.kind head.version head.counts) c.head_of-head.ensures.head ∙ sym (length-frame c.args.version c.args.message.now) in
    (λ e. omega (arith, size, c.if-out-size.true), λ lt. refl)

pub returns-clause-one_frame : goal.returns-clause-one_frame
returns-clause-one_frame c = one_frame c.args.version c.args.message.now (c.head_of-head.ensures.typed, c.put_body.ensures.typed) c.requires

pub returns-clause-frame : goal.returns-clause-frame
returns-clause-frame c =
    let message = c.args.message.now in
    let old = c.args.out.now in
    let front = outline_bytes (outline_of c.args.version (message_flow message) (message_body message)) in
    let text = frame_bytes c.args.version message in
    let head : c.put_outline.new.out ≡ over front old = c.put_outline.ensures ∙ ap (λ head. over (outline_bytes head) old) c.head_of-head.ensures.head in
    let both = over-wrote front (body_bytes c.args.version (message_body message)) old c.put_outline.new.out c.put_body.new.out 16 c.put_body.result refl head c.put_body.ensures.wrote in
    (c.requires, ap (λ n. take n c.put_body.new.out) both.0 ∙ ap (take (length text)) both.1 ∙ take_at text (drop (length text) old) (length text) refl)
