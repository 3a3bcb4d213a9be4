-- Which parts of a round each worker does.
use Rattle.std.specs.Prelude.{◌≡◌, ℕ, ◌%◌, ◌==◌, ◌<◌, Bool, true, false, ◌&&◌, Some}
use Rattle.std.specs.Prelude.{List, [], ◌∷◌, ◌++◌, length, slice_get}
use Rattle.std.specs.List.{filter, enumerate_from}
use Rattle.ccp_base.specs.declared.ack.Ack.{Ack}

-- a flow's part of a round: its number and its acknowledgements
abbrev pub FlowPart : Type 0
FlowPart = ℕ × List Ack

-- what worker `worker` of `workers` is to do in the round that comes after `round` rounds
pub record OrderState : Type 0 where
  pub worker : ℕ
  pub workers : ℕ
  pub round : ℕ
  pub parts : List FlowPart

abbrev pub with_flow_part : FlowPart → OrderState → OrderState
with_flow_part part order = record {
  worker = order.worker;
  workers = order.workers;
  round = order.round;
  parts = order.parts ++ part ∷ [];
}

abbrev pub has_any : List Ack → Bool
has_any [] = false
has_any (ack ∷ rest) = true

-- flow `f` has acknowledgements in the round, and `f mod workers = worker`
abbrev pub is_done_by : ℕ → ℕ → FlowPart → Bool
is_done_by workers worker part = has_any part.1 && (part.0 % workers == worker)

-- of the acknowledgements of all flows in a round, those of the parts of a worker, in the order of the flows
abbrev pub parts_of_worker : ℕ → ℕ → List (List Ack) → List FlowPart
parts_of_worker workers worker lists = filter (is_done_by workers worker) (enumerate_from 0 lists)

abbrev pub order_of : ℕ → ℕ → ℕ → List (List Ack) → OrderState
order_of workers worker round lists =
    record { worker = worker; workers = workers; round = round; parts = parts_of_worker workers worker lists }

-- the workers' orders, in order: each has the parts of its worker, and all lists that aren't empty are in one of them
abbrev pub AreDealt : ℕ → ℕ → List (List Ack) → List OrderState → Type 0
AreDealt workers round lists orders =
    (worker : ℕ) → worker < workers → slice_get orders worker ≡ Some (order_of workers worker round lists)

-- the order in this place, if there is one
abbrev pub IsDealtAt : ℕ → ℕ → List (List Ack) → List OrderState → ℕ → Type 0
IsDealtAt workers round lists orders worker =
    worker < workers → slice_get orders worker ≡ Some (order_of workers worker round lists)

-- the orders have the parts of the flows before this one
abbrev pub IsDealtBefore : ℕ → ℕ → ℕ → List OrderState → Type 0
IsDealtBefore workers round number orders =
    (lists : List (List Ack)) × (length lists ≡ number) × AreDealt workers round lists orders

-- and then that of this one too
abbrev pub DealsOne : ℕ → ℕ → FlowPart → List OrderState → List OrderState → Type 0
DealsOne workers round part old new =
    (lists : List (List Ack)) → length lists ≡ part.0 → AreDealt workers round lists old
    → AreDealt workers round (lists ++ part.1 ∷ []) new

-- ---- orders of a round

-- the first orders have no part
abbrev pub AreIdle : ℕ → List OrderState → Type 0
AreIdle first orders =
    (worker : ℕ) (order : OrderState) → worker < first → slice_get orders worker ≡ Some order → order.parts ≡ []

-- the first orders are as before
abbrev pub IsSameFront : ℕ → List OrderState → List OrderState → Type 0
IsSameFront first old new = (worker : ℕ) → worker < first → slice_get new worker ≡ slice_get old worker

-- of the orders that were sent the newest is this one
abbrev pub IsOneMore : OrderState → List OrderState → List OrderState → Type 0
IsOneMore order old new = new ≡ old ++ order ∷ []
