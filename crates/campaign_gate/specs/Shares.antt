-- How workers share a list: each has every n-th item, and the shares of all workers side by side are the list.
use Rattle.std.specs.Prelude.{ℕ, zero, suc, ◌++◌, Option, Some, None, List, [], ◌∷◌}
use Rattle.worker_desk.specs.EveryNth.{every}

-- the shares of `count` workers from `worker` on, of `workers` in all
abbrev pub shares_from : {X : Type 0} → ℕ → ℕ → ℕ → List X → List (List X)
shares_from workers worker zero xs = []
shares_from workers worker (suc count) xs = every workers worker xs ∷ shares_from workers (suc worker) count xs

-- the shares of all workers, in their order
abbrev pub shares : {X : Type 0} → ℕ → List X → List (List X)
shares workers xs = shares_from workers 0 workers xs

-- the first item of the first queue, or none
abbrev pub front_of : {X : Type 0} → List (List X) → Option X
front_of [] = None
front_of ([] ∷ queues) = None
front_of ((x ∷ rest) ∷ queues) = Some x

-- the queues after that item was taken: its queue comes last
abbrev pub turned : {X : Type 0} → List (List X) → List (List X)
turned [] = []
turned ([] ∷ queues) = queues ++ [] ∷ []
turned ((x ∷ rest) ∷ queues) = queues ++ rest ∷ []
