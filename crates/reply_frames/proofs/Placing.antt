-- What is written in turn is written at once.
use Rattle.std.proofs.Common.{◌≡◌, ℕ, ◌+◌, ◌*◌, ◌≤◌, ◌<◌, List, [], ◌∷◌, ◌++◌, length, take, drop, get_or, refl, sym, ap, subst, ◌∙◌, append_assoc, arith, length-append}
use Rattle.std.specs.List.{flat_map}
use Rattle.std.specs.Int.{w64, to_le_bytes}
use Rattle.std.proofs.lemmas.List.{take_at, drop_at, drop-drop, length-take-le, take_more, append-nil}
use Rattle.std.proofs.lemmas.List.Concat.{flat_map-cons, flat_map-append}
use Rattle.ccp_base.specs.declared.fields.FieldReg.{FieldReg}
use Rattle.ccp_base.specs.declared.fields.FieldReg.TheVariants.{Cwnd, Rate, Control}
use Rattle.ccp_base.specs.FieldReg.{Pair}
use Rattle.reply_frames.specs.ValueBytes.{target_bytes, value_bytes, values_bytes}
use Rattle.reply_frames.specs.Writing.{placed, over, Wrote}

-- plain form: bytes after a front that is written
joined : (front next tail : List ℕ) (n end : ℕ) → n ≡ length front → end ≡ n + length next → take n (front ++ tail) ++ next ++ drop end (front ++ tail) ≡ (front ++ next) ++ drop (length next) tail
joined front next tail n end long is =
    let back : drop end (front ++ tail) ≡ drop (length next) tail = ap (λ k. drop k (front ++ tail)) is ∙ sym (drop-drop (length next) n (front ++ tail)) ∙ ap (drop (length next)) (drop_at front tail n (sym long)) in
    ap (λ xs. xs ++ next ++ drop end (front ++ tail)) (take_at front tail n (sym long)) ∙ ap (λ xs. (front ++ next) ++ xs) back

pub over-placed : (first next old : List ℕ) (n : ℕ) → n ≡ length first → placed n next (over first old) ≡ over (first ++ next) old
over-placed first next old n long =
    joined first next (drop (length first) old) n (n + length next) long refl
    ∙ ap (λ xs. (first ++ next) ++ xs) (drop-drop (length next) (length first) old ∙ ap (λ k. drop k old) (sym (length-append first next)))

pub placed-placed : (at : ℕ) (first next old : List ℕ) (n : ℕ) → n ≡ at + length first → at ≤ length old → placed n next (placed at first old) ≡ placed at (first ++ next) old
placed-placed at first next old n is within =
    let long : n ≡ length (take at old ++ first) = omega (arith, length-append (take at old) first, length-take-le at old within) in
    joined (take at old ++ first) next (drop (at + length first) old) n (n + length next) long refl
    ∙ ap (λ xs. ((take at old ++ first) ++ next) ++ xs) (drop-drop (length next) (at + length first) old ∙ ap (λ k. drop k old) (let e : at + length first + length next ≡ at + length (first ++ next) = omega (arith, length-append first next) in e))
    ∙ ap (λ xs. xs ++ drop (at + length (first ++ next)) old) (append_assoc (take at old) first next)

length-target_bytes : (reg : FieldReg) → length (target_bytes reg) ≡ 2
length-target_bytes (Control number) = refl
length-target_bytes Cwnd = refl
length-target_bytes Rate = refl

pub length-value_bytes : (value : Pair) → length (value_bytes value) ≡ 10
length-value_bytes value = omega (arith, length-append (target_bytes value.0) (to_le_bytes w64 value.1), length-target_bytes value.0)

pub length-values_bytes : (values : List Pair) → length (values_bytes values) ≡ 10 * length values
length-values_bytes [] = refl
length-values_bytes (value ∷ values) =
    ap length (flat_map-cons value_bytes value values)
    ∙ length-append (value_bytes value) (values_bytes values)
    ∙ omega (arith, length-value_bytes value, length-values_bytes values)

pub placed-value : (at end : ℕ) (reg : FieldReg) (number : ℕ) (old : List ℕ) → end ≡ at + 2 → at ≤ length old → placed end (to_le_bytes w64 number) (placed at (target_bytes reg) old) ≡ placed at (value_bytes (reg, number)) old
placed-value at end reg number old is within = placed-placed at (target_bytes reg) (to_le_bytes w64 number) old end (omega (arith, length-target_bytes reg)) within

pub placed-values : (at end i : ℕ) (values : List Pair) (other : Pair) (old : List ℕ) → end ≡ at + 10 * i → i < length values → at ≤ length old
    → placed end (value_bytes (get_or values i other)) (placed at (values_bytes (take i values)) old) ≡ placed at (values_bytes (take (i + 1) values)) old
placed-values at end i values other old is lt within =
    let value : Pair = get_or values i other in
    let len : length (values_bytes (take i values)) ≡ 10 * i = length-values_bytes (take i values) ∙ ap (λ n. 10 * n) (length-take-le i values (omega arith)) in
    let more : values_bytes (take (i + 1) values) ≡ values_bytes (take i values) ++ value_bytes value =
    ap values_bytes (take_more values i other lt) ∙ flat_map-append value_bytes (take i values) (value ∷ []) ∙ ap (λ xs. values_bytes (take i values) ++ xs) (flat_map-cons value_bytes value [] ∙ append-nil (value_bytes value)) in
    placed-placed at (values_bytes (take i values)) (value_bytes value) old end (omega (arith, len)) within ∙ ap (λ bytes. placed at bytes old) (sym more)

pub over-values : (head next values out out' out'' old : List ℕ) (n m : ℕ) → n ≡ length head → m ≡ n + length next → out ≡ over head old → out' ≡ placed n next out → out'' ≡ placed m values out' → out'' ≡ over (head ++ next ++ values) old
over-values head next values out out' out'' old n m long is a b c =
    c ∙ ap (placed m values) (b ∙ ap (placed n next) a ∙ over-placed head next old n long) ∙ over-placed (head ++ next) values old m (omega (arith, length-append head next))

-- one more text after a front that is written
pub over-then : (front next out out' old : List ℕ) (n : ℕ) → n ≡ length front → out ≡ over front old → out' ≡ placed n next out → out' ≡ over (front ++ next) old
over-then front next out out' old n long a b = b ∙ ap (placed n next) a ∙ over-placed front next old n long

-- and the same from a place on
pub placed-then : (at : ℕ) (front next out out' old : List ℕ) (n : ℕ) → n ≡ at + length front → at ≤ length old → out ≡ placed at front old → out' ≡ placed n next out → out' ≡ placed at (front ++ next) old
placed-then at front next out out' old n long within a b = b ∙ ap (placed n next) a ∙ placed-placed at front next old n long within

-- one more text after those that were written
pub wrote-then : {at : ℕ} {a b old out out' : List ℕ} {end end' : ℕ} → Wrote at a old out end → Wrote end b out out' end' → at ≤ length old → Wrote at (a ++ b) old out' end'
wrote-then {at = at} {a = a} {b = b} {old = old} {out = out} {out' = out'} {end = end} {end' = end'} first next within = record {
  is = placed-then at a b out out' old end first.end_is within first.is next.is;
  end_is = omega (arith, first.end_is, next.end_is, length-append a b);
}

-- one more item of a list
pub wrote-more : {A : Type 0} (text : A → List ℕ) (items : List A) (i at : ℕ) (item : A) (old out out' : List ℕ) (end end' : ℕ) → i < length items → at ≤ length old
    → Wrote at (flat_map text (take i items)) old out end → Wrote end (text (get_or items i item)) out out' end' → Wrote at (flat_map text (take (i + 1) items)) old out' end'
wrote-more text items i at item old out out' end end' lt within first next =
    let more : flat_map text (take i items) ++ text (get_or items i item) ≡ flat_map text (take (i + 1) items) =
    ap (λ xs. flat_map text (take i items) ++ xs) (sym (flat_map-cons text (get_or items i item) [] ∙ append-nil (text (get_or items i item)))) ∙ sym (flat_map-append text (take i items) (get_or items i item ∷ [])) ∙ ap (flat_map text) (sym (take_more items i item lt)) in
    subst (λ bytes. Wrote at bytes old out' end') more (wrote-then first next within)

-- what follows a head
pub over-wrote : (head body old out out' : List ℕ) (n end : ℕ) → n ≡ length head → out ≡ over head old → Wrote n body out out' end → (end ≡ length (head ++ body)) × (out' ≡ over (head ++ body) old)
over-wrote head body old out out' n end long first next =
    (omega (arith, next.end_is, long, length-append head body), over-then head body out out' old n long first next.is)
