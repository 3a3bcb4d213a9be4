-- What a flow's bare state says of its letters: how many are left, and whether an answer is due.
use Rattle.std.specs.Prelude.{ℕ, ◌+◌, ◌-◌, ◌*◌, nat_lt, nat_le, Bool, false, not, ◌||◌}
use Rattle.std.specs.Prelude.{Option, Some, None, option_map, length}
use Rattle.flow_core.specs.Words.{most_letters}
use Rattle.flow_core.specs.States.{some_count}
use Rattle.flow_core.specs.Bares.{BareState}

-- how many letters the word can have yet
abbrev pub left_in : BareState → ℕ
left_in bare =
    let s = bare.summary in
    most_letters (bare.case.acks - s.acks) + (2 * (length s.waiting + some_count s.untold) + some_count s.out)

-- an answer is due, by whether an acknowledgement is left, and at how many the ticket that is out was taken
abbrev pub due_to : Bool → ℕ → ℕ → Option ℕ → Bool
due_to more lag acks None = false
due_to more lag acks (Some taken) = not more || nat_le (taken + lag) acks

abbrev pub is_due_in : BareState → Bool
is_due_in bare =
    let s = bare.summary in
    due_to (nat_lt s.acks bare.case.acks) bare.case.lag s.acks (option_map (λ issued. issued.taken) s.out)
