use Rattle.std.proofs.Common.{◌≡◌, ℕ, List, [], ◌∷◌, ◌++◌, ap, ◌∙◌, refl}
use Rattle.std.specs.Int.{w16, w32, to_le_bytes}
use Rattle.reply_frames.specs.Kinds.{kind_number, version_number, size_of}
use Rattle.reply_frames.specs.Writing.{placed, over}
use Rattle.reply_frames.proofs.Placing.{over-then}
use Rattle.reply_frames.proofs.encode.put_outline.Goals as goal

pub returns : goal.returns
returns c =
    let head = c.args.head in
    let old = c.args.out.now in
    let first : List ℕ = kind_number head.kind ∷ version_number head.version ∷ head.counts.n1 ∷ head.counts.n2 ∷ [] in
    let n3 = to_le_bytes w16 head.counts.n3 in
    let n4 = to_le_bytes w16 head.counts.n4 in
    let flow = to_le_bytes w32 head.flow in
    let size = to_le_bytes w32 (size_of head.kind head.version head.counts) in
    let a : c.put.new.out ≡ over first old = c.put.ensures ∙ ap (λ bytes. placed 0 bytes old) (ap (λ k. k ∷ c.version_number.result ∷ head.counts.n1 ∷ head.counts.n2 ∷ []) c.kind_number.ensures ∙ ap (λ v. kind_number head.kind ∷ v ∷ head.counts.n1 ∷ head.counts.n2 ∷ []) c.version_number.ensures) in
    let b : c.put-2.new.out ≡ placed 4 n3 c.put.new.out = c.put-2.ensures ∙ ap (λ bytes. placed 4 bytes c.put.new.out) c.to_le_bytes.ensures in
    let d : c.put-3.new.out ≡ placed 6 n4 c.put-2.new.out = c.put-3.ensures ∙ ap (λ bytes. placed 6 bytes c.put-2.new.out) c.to_le_bytes-2.ensures in
    let e : c.put-4.new.out ≡ placed 8 flow c.put-3.new.out = c.put-4.ensures ∙ ap (λ bytes. placed 8 bytes c.put-3.new.out) c.to_le_bytes-3.ensures in
    let f : c.put-5.new.out ≡ placed 12 size c.put-4.new.out = c.put-5.ensures ∙ ap (λ bytes. placed 12 bytes c.put-4.new.out) (c.to_le_bytes-4.ensures ∙ ap (to_le_bytes w32) c.frame_size-size.ensures) in
    over-then (first ++ n3 ++ n4 ++ flow) size c.put-4.new.out c.put-5.new.out old 12 refl
    (over-then (first ++ n3 ++ n4) flow c.put-3.new.out c.put-4.new.out old 8 refl
    (over-then (first ++ n3) n4 c.put-2.new.out c.put-3.new.out old 6 refl
    (over-then first n3 c.put.new.out c.put-2.new.out old 4 refl a b) d) e) f
