-- The items of an acknowledgement, each with a blank before it, are its line.
use Rattle.std.proofs.Common.{◌≡◌, ◌∙◌, ◌++◌, ◌+◌, ◌-◌, ◌≤◌, ◌<◌, ◌||◌, ℕ, zero, suc, Bool, true, false, List, [], ◌∷◌, length, drop, slice_index, decimal, codes, refl, sym, ap, subst, arith, append_assoc, length-append, cond}
use Rattle.std.proofs.lemmas.List.{append-nil}
use Rattle.ccp_base.specs.declared.ack.Ack.{Ack}
use Rattle.ccp_base.specs.Acknowledgement.{prim, primitives}
use Rattle.ccp_base.specs.PrimitiveNames.{PrimitiveName, primitive_names}
use Rattle.campaign_report.specs.AcksText.{is_shown, item_text, items_text}
use Rattle.campaign_report.specs.AckLabels.{item_of, first_items}

-- texts one after another, grouped from the front and from the back
abbrev front : (ℕ → List ℕ) → ℕ → List ℕ
front text zero = []
front text (suc n) = front text n ++ text n

abbrev back : (ℕ → List ℕ) → ℕ → ℕ → List ℕ
back text n zero = []
back text n (suc k) = text n ++ back text (suc n) k

front-back : (text : ℕ → List ℕ) (n k : ℕ) → front text n ++ back text n k ≡ front text (n + k)
front-back text n zero = append-nil (front text n) ∙ ap (front text) (let e : n ≡ n + 0 = omega arith in e)
front-back text n (suc k) =
    sym (append_assoc (front text n) (text n) (back text (suc n) k))
    ∙ front-back text (suc n) k
    ∙ ap (front text) (let e : suc n + k ≡ n + suc k = omega arith in e)

-- all items, by the walk over their numbers and by the walk over their names
pub items-first : (ack : Ack) → first_items 15 (primitives ack) ≡ items_text true 0 primitive_names ack
items-first ack =
    let text : ℕ → List ℕ = λ n. item_of n (slice_index (primitives ack) n) in
    let both : back text 0 15 ≡ front text 15 = front-back text 0 15 in
    sym both

by-case : (shown : Bool) (text : List ℕ) (after : Bool → List ℕ) (rest : List ℕ)
    → 1 ≤ length (cond shown (32 ∷ text) [] ++ after true)
    → (1 ≤ length (after true) → drop 1 (after true ++ rest) ≡ after false ++ rest)
    → drop 1 ((cond shown (32 ∷ text) [] ++ after true) ++ rest) ≡ (cond shown text [] ++ after (false || shown)) ++ rest
by-case true text after rest some later = refl
by-case false text after rest some later = later some

-- without its first blank the text of items is that of items which none stands before
drop-blank : (number : ℕ) (names : List PrimitiveName) (ack : Ack) (rest : List ℕ) → 1 ≤ length (items_text true number names ack)
    → drop 1 (items_text true number names ack ++ rest) ≡ items_text false number names ack ++ rest
drop-blank number [] ack rest some = absurd (omega (arith, some))
drop-blank number (known ∷ names) ack rest some =
    let value = prim number ack in
    by-case (is_shown number value) (known.1 ++ (codes "=" ++ decimal value)) (λ follows. items_text follows (number + 1) names ack) rest some
    (drop-blank (number + 1) names ack rest)

headed : (byte : ℕ) (bytes : List ℕ) → 1 ≤ length (byte ∷ bytes)
headed byte bytes = omega arith

some-more : (number : ℕ) (known : PrimitiveName) (names : List PrimitiveName) (ack : Ack)
    → 1 ≤ length (items_text true (number + 1) names ack) → 1 ≤ length (items_text true number (known ∷ names) ack)
some-more number known names ack some =
    let first : List ℕ = item_text true number known.1 (prim number ack) in
    let rest : List ℕ = items_text true (number + 1) names ack in
    omega (arith, length-append first rest, some)

some-now : (known : PrimitiveName) (names : List PrimitiveName) (ack : Ack) → 1 ≤ length (items_text true 7 (known ∷ names) ack)
some-now known names ack = headed 32 ((known.1 ++ (codes "=" ++ decimal (prim 7 ack))) ++ items_text true 8 names ack)

-- there is an item, since `now` is always shown
some-item : (k number : ℕ) (names : List PrimitiveName) (ack : Ack) → number + k ≡ 7 → k < length names → 1 ≤ length (items_text true number names ack)
some-item k number [] ack e within = absurd (omega (arith, within))
some-item zero number (known ∷ names) ack e within =
    let is : 7 ≡ number = omega (arith, e) in
    subst (λ (n : ℕ). 1 ≤ length (items_text true n (known ∷ names) ack)) is (some-now known names ack)
some-item (suc k) number (known ∷ names) ack e within =
    some-more number known names ack (some-item k (number + 1) names ack (omega (arith, e)) (omega (arith, within)))

-- the line, as it is written
pub line-written : (ack : Ack) → drop 1 (first_items 15 (primitives ack) ++ 10 ∷ []) ≡ items_text false 0 primitive_names ack ++ 10 ∷ []
line-written ack =
    ap (λ (items : List ℕ). drop 1 (items ++ 10 ∷ [])) (items-first ack)
    ∙ drop-blank 0 primitive_names ack (10 ∷ []) (some-item 7 0 primitive_names ack refl (omega arith))

-- one item more
pub item-more : (number : ℕ) (values : List ℕ) → 0 < number
    → first_items number values ≡ first_items (number - 1) values ++ item_of (number - 1) (slice_index values (number - 1))
item-more zero values h = absurd (omega (arith, h))
item-more (suc n) values h = ap (λ k. first_items k values ++ item_of k (slice_index values k)) (let e : n ≡ suc n - 1 = omega arith in e)
