-- What holds of each item that a loop has passed holds of all items in the end.
use Rattle.std.proofs.Common.{ℕ, ◌+◌, ◌≤◌, ◌<◌, List, length, take, get_or, subst}
use Rattle.std.specs.List.{AllByRecursion}
use Rattle.std.proofs.lemmas.List.{take_all}
use Rattle.std.proofs.lemmas.List.Elements.{All-more, All-from_recursion, recursion_from_All}

pub all-more : {A : Type 0} (P : A → Type 0) (xs : List A) (i : ℕ) (other : A) → i < length xs → AllByRecursion P (take i xs) → P (get_or xs i other) → AllByRecursion P (take (i + 1) xs)
all-more P xs i other lt all one = recursion_from_All P (take (i + 1) xs) (All-more P xs i other lt (All-from_recursion P (take i xs) all) one)

pub all-taken : {A : Type 0} (P : A → Type 0) (xs : List A) (i : ℕ) → length xs ≤ i → AllByRecursion P (take i xs) → AllByRecursion P xs
all-taken P xs i le all = subst (AllByRecursion P) (take_all i xs le) all
