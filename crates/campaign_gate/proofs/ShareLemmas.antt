-- What the workers' shares have, side by side.
use Rattle.std.specs.Prelude.{◌≡◌, ℕ, zero, suc, ◌+◌, ◌-◌, ◌<◌, ◌≤◌, Option, Some, None, unwrap_or, List, [], ◌∷◌, ◌++◌, drop, length, slice_get, refl}
use Rattle.std.proofs.Common.{arith, ap, sym, ◌∙◌, append_assoc, append-nil, length-append}
use Rattle.std.proofs.lemmas.List.{drop-drop, drop_more}
use Rattle.std.proofs.lemmas.Option.{slice_get_within, get_or_from_slice_get}
use Rattle.worker_desk.specs.EveryNth.{every}
use Rattle.campaign_gate.specs.Shares.{shares_from, shares, front_of, turned}

-- the item at a place, and those after it
pub drop-next : {X : Type 0} (xs : List X) (n : ℕ) (x : X) → slice_get xs n ≡ Some x → drop n xs ≡ x ∷ drop (n + 1) xs
drop-next {X} xs n x at =
    drop_more xs n x (slice_get_within xs n x at) ∙ ap (λ (one : X). one ∷ drop (n + 1) xs) (get_or_from_slice_get xs n x x at)

at-drop : {X : Type 0} (xs : List X) (n : ℕ) → slice_get (drop n xs) 0 ≡ slice_get xs n
at-drop [] zero = refl
at-drop [] (suc n) = refl
at-drop (x ∷ rest) zero = refl
at-drop (x ∷ rest) (suc n) = at-drop rest n

pub none-left : {X : Type 0} (xs : List X) → slice_get xs 0 ≡ None → xs ≡ []
none-left [] none = refl
none-left (x ∷ rest) none = absurd (let wrong : Some x ≡ None = none in (cc))

-- ---- the shares side by side

shares-shift : {X : Type 0} (workers worker more : ℕ) (x : X) (rest : List X)
    → shares_from workers (suc worker) more (x ∷ rest) ≡ shares_from workers worker more rest
shares-shift workers worker zero x rest = refl
shares-shift workers worker (suc more) x rest =
    ap (λ (queues : List (List _)). every workers worker rest ∷ queues) (shares-shift workers (suc worker) more x rest)

shares-append : {X : Type 0} (workers worker more : ℕ) (xs : List X)
    → shares_from workers worker more xs ++ every workers (worker + more) xs ∷ [] ≡ shares_from workers worker (suc more) xs
shares-append workers worker zero xs =
    let same : worker + zero ≡ worker = omega arith in
    ap (λ (n : ℕ). every workers n xs ∷ []) same
shares-append workers worker (suc more) xs =
    let same : worker + suc more ≡ suc worker + more = omega arith in
    ap (λ (n : ℕ). every workers worker xs ∷ (shares_from workers (suc worker) more xs ++ every workers n xs ∷ [])) same
    ∙ ap (λ (queues : List (List _)). every workers worker xs ∷ queues) (shares-append workers (suc worker) more xs)

-- one more worker's queue
pub queues-go-on : {X : Type 0} (workers : ℕ) (all : List X) (queues next : List (List X)) (made : List X)
    → queues ≡ shares_from workers 0 (length queues) all → made ≡ every workers (length queues) all → next ≡ queues ++ made ∷ []
    → next ≡ shares_from workers 0 (length next) all
queues-go-on workers all queues next made before is put =
    let count = length queues in
    let same : 0 + count ≡ count = omega arith in
    let more : suc count ≡ length next = sym (ap (λ (qs : List (List _)). length qs) put ∙ length-append queues (made ∷ []) ∙ omega arith) in
    put ∙ (λ i. before i ++ (is ∙ ap (λ (n : ℕ). every workers n all) (sym same)) i ∷ [])
    ∙ shares-append workers 0 count all
    ∙ ap (λ (n : ℕ). shares_from workers 0 n all) more

-- the parts that are left, after the first of them
pub parts-go-on : {X Y : Type 0} (parts left rest : List X) (queues next : List Y) (part : X) (queue : Y)
    → left ≡ drop (length queues) parts → Some part ≡ slice_get left 0 → rest ≡ drop 1 left → next ≡ queues ++ queue ∷ []
    → (slice_get parts (length queues) ≡ Some part) × (rest ≡ drop (length next) parts) × (length next + length rest ≡ length queues + length left)
parts-go-on parts left rest queues next part queue is first after put =
    let at = sym (at-drop parts (length queues)) ∙ sym (ap (λ (xs : List _). slice_get xs 0) is) ∙ sym first in
    let count : length queues + 1 ≡ length next = sym (ap (λ (xs : List _). length xs) put ∙ length-append queues (queue ∷ [])) in
    let split : left ≡ part ∷ rest = is ∙ drop-next parts (length queues) part at ∙ ap (λ (xs : List _). part ∷ xs) (sym (after ∙ ap (drop 1) is ∙ drop-drop 1 (length queues) parts)) in
    let lengths = ap (λ (xs : List _). length xs) split in (
      at,
      after ∙ ap (drop 1) is ∙ drop-drop 1 (length queues) parts ∙ ap (λ (n : ℕ). drop n parts) count,
      omega (arith, count, lengths),
    )

-- the first item comes first, and its queue last
front-is : {X : Type 0} (workers : ℕ) (left : List X) → 1 ≤ workers → front_of (shares workers left) ≡ slice_get left 0
front-is zero left some = absurd (omega (arith, some))
front-is (suc more) [] some = refl
front-is (suc more) (x ∷ rest) some = refl

turned-is : {X : Type 0} (workers : ℕ) (x : X) (rest : List X) → 1 ≤ workers → turned (shares workers (x ∷ rest)) ≡ shares workers rest
turned-is zero x rest some = absurd (omega (arith, some))
turned-is (suc more) x rest some =
    let less : suc more - 1 ≡ 0 + more = omega arith in
    (λ i. shares-shift (suc more) 0 more x rest i ++ every (suc more) (less i) rest ∷ [])
    ∙ shares-append (suc more) 0 more rest

-- ---- the merge

-- the front is merged, and the queues have the rest
pub record AreMerged {X : Type 0} (workers : ℕ) (all : List X) (queues : List (List X)) (made : List X) : Type 0 where
  pub left : queues ≡ shares workers (drop (length made) all)
  pub whole : made ++ drop (length made) all ≡ all

-- one more comes, and it is the next of all
pub merged-next : {X : Type 0} (workers : ℕ) (all : List X) (queues : List (List X)) (made : List X) (one : X)
    → 1 ≤ workers → AreMerged workers all queues made → Some one ≡ front_of queues → slice_get all (length made) ≡ Some one
merged-next workers all queues made one some merged front =
    let left = drop (length made) all in
    let here : slice_get left 0 ≡ Some one =
    sym (front-is workers left some) ∙ sym (ap front_of merged.left) ∙ sym front in
    sym (at-drop all (length made)) ∙ here

pub merged-fewer : {X : Type 0} (workers : ℕ) (all : List X) (queues : List (List X)) (made : List X) (one : X)
    → 1 ≤ workers → AreMerged workers all queues made → Some one ≡ front_of queues → length made < length all
merged-fewer workers all queues made one some merged front =
    slice_get_within all (length made) one (merged-next workers all queues made one some merged front)

pub merged-goes-on : {X : Type 0} (workers : ℕ) (all : List X) (queues turned_queues : List (List X)) (made next : List X) (one : X)
    → 1 ≤ workers → AreMerged workers all queues made → Some one ≡ front_of queues → turned_queues ≡ turned queues → next ≡ made ++ one ∷ []
    → AreMerged workers all turned_queues next
merged-goes-on workers all queues turned_queues made next one some merged front turns put =
    let left = drop (length made + 1) all in
    let at = merged-next workers all queues made one some merged front in
    let split : drop (length made) all ≡ one ∷ left = drop-next all (length made) one at in
    let count : length made + 1 ≡ length next = sym (ap (λ (xs : List _). length xs) put ∙ length-append made (one ∷ [])) in
    record {
      left =
          turns ∙ ap turned (merged.left ∙ ap (shares workers) split) ∙ turned-is workers one left some
          ∙ ap (λ (n : ℕ). shares workers (drop n all)) count;
      whole =
          (λ i. put i ++ drop (sym count i) all)
          ∙ append_assoc made (one ∷ []) left
          ∙ ap (λ (xs : List _). made ++ xs) (sym split)
          ∙ merged.whole;
    }

pub merged-ends : {X : Type 0} (workers : ℕ) (all : List X) (queues : List (List X)) (made : List X)
    → 1 ≤ workers → AreMerged workers all queues made → None ≡ front_of queues → made ≡ all
merged-ends workers all queues made some merged front =
    let left = drop (length made) all in
    let here : slice_get left 0 ≡ None =
    sym (front-is workers left some) ∙ sym (ap front_of merged.left) ∙ sym front in
    sym (append-nil made) ∙ ap (λ (xs : List _). made ++ xs) (sym (none-left left here)) ∙ merged.whole
