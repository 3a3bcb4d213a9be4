-- Labels of one length, and what is copied of them.
use Rattle.std.proofs.Common.{◌≡◌, ◌∙◌, ◌++◌, ◌+◌, ◌-◌, ◌≤◌, ◌<◌, ℕ, zero, suc, List, [], length, take, drop, slice_index_or, refl, sym, ap, subst, arith, inl, inr, eq-zero-or-pos, length-take-le}
use Rattle.std.proofs.lemmas.List.{drop-drop, drop_at, drop-append-le}
use borrow.Rule.Slice.PartMut.{put_mid}
use Rattle.campaign_report.specs.AckLabels.{label_at}
use Rattle.campaign_report.specs.declared.ack_line.TheConstants.{LABELS, LENGTHS}

-- the last bytes of a row that was copied, and what stands after it
pub pasted : (line row : List ℕ) (count end : ℕ) → length row ≡ 20 → count ≤ 20 → 20 ≤ end → end ≤ length line
    → drop (end - count) (put_mid (end - 20) (end - (end - 20)) line row) ≡ drop (20 - count) row ++ drop end line
pasted line row count end wide short above within =
    let at : ℕ = end - 20 in
    let skip : ℕ = 20 - count in
    let rest : List ℕ = drop (end - at) (drop at line) in
    let sum : end - count ≡ at + skip = omega arith in
    let whole : at + (end - at) ≡ end = omega arith in
    let front : length (take at line) ≡ at = length-take-le at line (omega arith) in
    let seam : drop at (take at line ++ (row ++ rest)) ≡ row ++ rest = drop_at (take at line) (row ++ rest) at front in
    ap (λ n. drop n (put_mid at (end - at) line row)) sum
    ∙ sym (drop-drop skip at (take at line ++ (row ++ rest)))
    ∙ ap (drop skip) seam
    ∙ drop-append-le skip row rest (omega (arith, wide))
    ∙ ap (λ (bytes : List ℕ). drop skip row ++ bytes) (drop-drop (end - at) at line ∙ ap (λ n. drop n line) whole)

-- a fact of every number below a bound
abbrev AllBelow : (ℕ → Type 0) → ℕ → Type 0
AllBelow P zero = Unit {0}
AllBelow P (suc n) = P n × AllBelow P n

below : (P : ℕ → Type 0) (n p : ℕ) → AllBelow P n → p < n → P p
below P zero p all h = absurd (omega arith)
below P (suc n) p all h =
    elim (eq-zero-or-pos (n - p)) [
      | inl z ↦ let e : p ≡ n = omega arith in subst P (sym e) all.0
      | inr g ↦ below P n p all.1 (omega arith)
    ]

-- the end of a row is the label of its primitive
abbrev IsLabel : ℕ → Type 0
IsLabel n = (slice_index_or LENGTHS n 0 ≤ 20) × (drop (20 - slice_index_or LENGTHS n 0) (slice_index_or LABELS n []) ≡ label_at n)

pub labels : (n : ℕ) → n < 15 → IsLabel n
labels n h =
    below IsLabel 15 n ((omega arith, refl), ((omega arith, refl), ((omega arith, refl), ((omega arith, refl), ((omega arith, refl), ((omega arith, refl), ((omega arith, refl), ((omega arith, refl), ((omega arith, refl), ((omega arith, refl), ((omega arith, refl), ((omega arith, refl), ((omega arith, refl), ((omega arith, refl), ((omega arith, refl), tt))))))))))))))) h
