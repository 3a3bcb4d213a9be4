-- Reading parts of one form one after the other, as a loop does.
use Rattle.std.proofs.Common.{◌≡◌, ℕ, suc, ◌-◌, ◌+◌, ◌≤◌, ◌<◌, List, [], ◌∷◌, ◌++◌, Result, Ok, Err, refl, sym, ap, ◌∙◌, append_assoc, arith}
use Rattle.std.proofs.lemmas.List.{append-nil}
use Rattle.reply_frames.specs.declared.fault.Stop.{Stop}
use Rattle.reply_frames.specs.Parts.{Read, ◌>>=◌, passed, repeated_at}

-- what was read before, and what is still read
abbrev pub with_front : {A : Type 0} → List A → Read (List A) → Read (List A)
with_front front read = read >>= λ x. Ok (front ++ x.0, x.1)

regroup : {A : Type 0} (front : List A) (item : A) (read : Read (List A)) → with_front front (read >>= λ x. Ok (item ∷ x.0, x.1)) ≡ with_front (front ++ item ∷ []) read
regroup front item (Ok x) = ap (λ (items : List _). Ok (items, x.1)) (simp append_assoc)
regroup front item (Err stop) = refl

pub goes_on : {A : Type 0} (part : List ℕ → Read A) (front : List A) (count i : ℕ) (bytes : List ℕ) (item : A) (after : List ℕ) (total : Read (List A)) → i < count → part bytes ≡ Ok (item, after)
    → with_front front (repeated_at part (count - i) bytes) ≡ total → with_front (front ++ item ∷ []) (repeated_at part (count - (i + 1)) after) ≡ total
unfolding repeated_at
goes_on part front count i bytes item after total lt is so_far =
    let k : count - i ≡ suc (count - (i + 1)) = omega arith in
    let one : with_front front (repeated_at part (count - i) bytes) ≡ with_front (front ++ item ∷ []) (repeated_at part (count - (i + 1)) after) = rw (k, is) (regroup front item (repeated_at part (count - (i + 1)) after)) in
    sym one ∙ so_far

pub stops : {A : Type 0} (part : List ℕ → Read A) (stop : Stop) (front : List A) (count i : ℕ) (bytes : List ℕ) (total : Read (List A)) → i < count → part bytes ≡ Err stop
    → with_front front (repeated_at part (count - i) bytes) ≡ total → total ≡ Err stop
unfolding repeated_at
stops part stop front count i bytes total lt is so_far =
    let k : count - i ≡ suc (count - (i + 1)) = omega arith in
    let one : with_front front (repeated_at part (count - i) bytes) ≡ Err stop = rw (k, is) refl in
    sym so_far ∙ one

pub is_done : {A : Type 0} (part : List ℕ → Read A) (front : List A) (count i : ℕ) (bytes : List ℕ) (total : Read (List A)) → count ≤ i → with_front front (repeated_at part (count - i) bytes) ≡ total → total ≡ Ok (front, bytes)
unfolding repeated_at
is_done part front count i bytes total le so_far =
    let k : count - i ≡ 0 = omega arith in
    let one : with_front front (repeated_at part (count - i) bytes) ≡ Ok (front, bytes) = rw k (ap (λ (items : List _). Ok (items, bytes)) (append-nil front)) in
    sym so_far ∙ one

-- ---- parts that are ignored

-- a part that is ignored, before what reads the bytes after it alone
pub passed-then : {A B : Type 0} (read : Read A) (after : List ℕ) (next : A × List ℕ → Read B) (others : List ℕ → Result (List ℕ) Stop)
    → ((x : A × List ℕ) → passed (next x) ≡ others x.1) → passed read ≡ Ok after → passed (read >>= next) ≡ others after
passed-then (Ok x) after next others same is = same x ∙ ap others (let e : x.1 ≡ after = cc in e)
passed-then (Err stop) after next others same is = absurd cc

pub passed-stops : {A B : Type 0} (read : Read A) (stop : Stop) (next : A × List ℕ → Read B) → passed read ≡ Err stop → passed (read >>= next) ≡ Err stop
passed-stops (Ok x) stop next is = absurd cc
passed-stops (Err other) stop next is = let e : other ≡ stop = cc in ap Err e

passed-item : {A : Type 0} (item : A) (read : Read (List A)) → passed (read >>= λ x. Ok (item ∷ x.0, x.1)) ≡ passed read
passed-item item (Ok x) = refl
passed-item item (Err stop) = refl

pub passes_on : {A : Type 0} (part : List ℕ → Read A) (count i : ℕ) (bytes after : List ℕ) (total : Result (List ℕ) Stop) → i < count → passed (part bytes) ≡ Ok after
    → passed (repeated_at part (count - i) bytes) ≡ total → passed (repeated_at part (count - (i + 1)) after) ≡ total
unfolding repeated_at
passes_on part count i bytes after total lt is so_far =
    let k : count - i ≡ suc (count - (i + 1)) = omega arith in
    let one : passed (repeated_at part (suc (count - (i + 1))) bytes) ≡ passed (repeated_at part (count - (i + 1)) after) =
    passed-then (part bytes) after (λ x. repeated_at part (count - (i + 1)) x.1 >>= λ others. Ok (x.0 ∷ others.0, others.1)) (λ rest. passed (repeated_at part (count - (i + 1)) rest))
    (λ x. passed-item x.0 (repeated_at part (count - (i + 1)) x.1)) is in
    sym one ∙ ap (λ n. passed (repeated_at part n bytes)) (sym k) ∙ so_far

pub passing_stops : {A : Type 0} (part : List ℕ → Read A) (stop : Stop) (count i : ℕ) (bytes : List ℕ) (total : Result (List ℕ) Stop) → i < count → passed (part bytes) ≡ Err stop
    → passed (repeated_at part (count - i) bytes) ≡ total → total ≡ Err stop
unfolding repeated_at
passing_stops part stop count i bytes total lt is so_far =
    let k : count - i ≡ suc (count - (i + 1)) = omega arith in
    let one : passed (repeated_at part (suc (count - (i + 1))) bytes) ≡ Err stop =
    passed-stops (part bytes) stop (λ x. repeated_at part (count - (i + 1)) x.1 >>= λ others. Ok (x.0 ∷ others.0, others.1)) is in
    sym so_far ∙ ap (λ n. passed (repeated_at part n bytes)) k ∙ one

pub passing_is_done : {A : Type 0} (part : List ℕ → Read A) (count i : ℕ) (bytes : List ℕ) (total : Result (List ℕ) Stop) → count ≤ i → passed (repeated_at part (count - i) bytes) ≡ total → total ≡ Ok bytes
unfolding repeated_at
passing_is_done part count i bytes total le so_far =
    let k : count - i ≡ 0 = omega arith in
    let one : passed (repeated_at part 0 bytes) ≡ Ok bytes = refl in
    sym so_far ∙ ap (λ n. passed (repeated_at part n bytes)) k ∙ one
