-- How long the frames of an answer are, and what a buffer holds that one was written over.
use Rattle.std.proofs.Common.{◌≡◌, ℕ, ◌+◌, ◌*◌, ◌≤◌, List, ◌++◌, length, take, drop, ap, sym, subst, ◌∙◌, arith}
use Rattle.std.specs.Prelude.{replicate}
use Rattle.std.proofs.Math.Seq.{take-append_seam}
use Rattle.std.proofs.lemmas.List.{drop-replicate}
use Rattle.ccp_base.specs.FieldReg.{Pair}
use Rattle.ccp_base.specs.InPlace.{IsPadded, pad, IsPadded-pad}
use Rattle.reply_frames.specs.declared.outline.Version.TheVariants.{One}
use Rattle.reply_frames.specs.Replies.{update_bytes, change_bytes}
use Rattle.reply_frames.proofs.Placing.{length-values_bytes}

pub length-update_bytes : (flow : ℕ) (values : List Pair) → length (update_bytes One flow values) ≡ 16 + 10 * length values
length-update_bytes flow values = omega (arith, length-values_bytes values)

pub length-change_bytes : (flow program : ℕ) (values : List Pair) → length (change_bytes One flow program values) ≡ 20 + 10 * length values
length-change_bytes flow program values = omega (arith, length-values_bytes values)

module _ (bytes out : List ℕ) (size : ℕ) (sized : length bytes ≡ size) (fits : size ≤ 64) (over : out ≡ bytes ++ drop (length bytes) (replicate 64 0)) where
  is_padded : out ≡ pad 64 0 bytes
  is_padded = over ∙ ap (λ rest. bytes ++ rest) (drop-replicate (length bytes) 64 0)

  -- a buffer of zeros over which bytes were written holds them
  pub IsPadded-written : IsPadded 64 0 out size
  IsPadded-written =
      subst (λ (places : List ℕ). IsPadded 64 0 places size) (sym is_padded)
      (subst (λ (n : ℕ). IsPadded 64 0 (pad 64 0 bytes) n) sized (IsPadded-pad 64 0 bytes (omega arith)))

  pub take-written : take size out ≡ bytes
  take-written =
      ap (λ n. take n out) (sym sized)
      ∙ ap (take (length bytes)) over
      ∙ take-append_seam bytes (drop (length bytes) (replicate 64 0))
