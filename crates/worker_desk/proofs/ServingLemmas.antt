-- What a worker did from a place on, and so what it did in all.
use Rattle.std.proofs.Common.{◌≡◌, ℕ, suc, ◌+◌, ◌-◌, ◌<◌, Some, None, option_map, List, ◌∷◌, ◌++◌, length, take, drop, slice_index, sym, ap, ◌∙◌, subst, append_assoc, drop-cons, add-one, arith}
use Rattle.std.specs.Prelude.{Option}
use Rattle.worker_desk.specs.declared.event.Heard.{Heard}
use Rattle.worker_desk.specs.Logs.{KnownLog, Logs}
use Rattle.worker_desk.specs.Serving.{turn, again, served, Serves}

-- what is put at the end in turn is put there at once
pub Logs-append : {E : Type 0} (old middle new : Option (List E)) (first next : List E) → Logs old middle first → Logs middle new next → Logs old new (first ++ next)
Logs-append None middle new first next before after = cc
Logs-append (Some done) middle new first next before after =
    after ∙ ap (option_map (λ events. events ++ next)) before ∙ ap Some (append_assoc done first next)

-- the turn of the first flow, and then those of the others and of itself
pub turn-then : (worker flow : ℕ) (row : List ℕ) (answer : Heard) (old middle end : KnownLog)
    → Logs old middle (turn worker flow answer) → Serves worker (row ++ again flow answer) middle end
    → Serves worker (flow ∷ row) old end
turn-then worker flow row answer old middle end logs then =
    record {
      answers = answer ∷ then.answers;
      logs = Logs-append old middle end (turn worker flow answer) (served worker (row ++ again flow answer) then.answers) logs then.logs;
      ends = then.ends;
    }

-- the flows from a place on are the one there and those after it
from-place : (row : List ℕ) (count place : ℕ) → place < count → place < length row
    → take (count - place) (drop place row) ≡ slice_index row place ∷ take (count - (place + 1)) (drop (place + 1) row)
from-place row count place before within =
    let more : count - place ≡ suc (count - (place + 1)) = omega arith in
    ap (λ n. take n (drop place row)) more
    ∙ ap (take (suc (count - (place + 1)))) (drop-cons row place 0 within)
    ∙ ap (λ n. slice_index row place ∷ take (count - (place + 1)) (drop n row)) (sym (add-one place))

-- the turn of the flow at a place, and then what is left of the round
pub place-then : (worker count place kept kept' : ℕ) (row row' : List ℕ) (answer : Heard) (old middle end : KnownLog)
    → place < count → place < length row
    → take kept' row' ≡ take kept row ++ again (slice_index row place) answer
    → drop (place + 1) row' ≡ drop (place + 1) row
    → Logs old middle (turn worker (slice_index row place) answer)
    → Serves worker (take (count - (place + 1)) (drop (place + 1) row') ++ take kept' row') middle end
    → Serves worker (take (count - place) (drop place row) ++ take kept row) old end
place-then worker count place kept kept' row row' answer old middle end before within front later logs then =
    let flow : ℕ = slice_index row place in
    let left : List ℕ = take (count - (place + 1)) (drop (place + 1) row) in
    let same : take (count - (place + 1)) (drop (place + 1) row') ++ take kept' row' ≡ (left ++ take kept row) ++ again flow answer =
    ap (λ (xs : List ℕ). take (count - (place + 1)) xs ++ take kept' row') later
    ∙ ap (λ (xs : List ℕ). left ++ xs) front
    ∙ sym (append_assoc left (take kept row) (again flow answer)) in
    let here : Serves worker (flow ∷ (left ++ take kept row)) old end =
    turn-then worker flow (left ++ take kept row) answer old middle end logs
    (subst (λ (xs : List ℕ). Serves worker xs middle end) same then) in
    subst (λ (xs : List ℕ). Serves worker (xs ++ take kept row) old end)
    (sym (from-place row count place before within)) here
