-- What an agent worker does: it tends each flow whose number it receives, until no more come.
use Rattle.std.specs.Prelude.{ℕ, cond, nat_lt, Option, Some, None, List, [], ◌∷◌, ◌++◌}
use Rattle.ccp_base.specs.declared.gate.Point.TheVariants.{AfterTake, AfterSettle}
use Rattle.agent_core.specs.declared.ticket.Ticket.{Ticket}
use Rattle.worker_desk.specs.declared.event.Event.{Event}
use Rattle.worker_desk.specs.declared.event.Event.TheVariants.{Passed, Locked, Unlocked, Received, Took, Settled}
use Rattle.worker_desk.specs.Logs.{KnownLog, Logs}

-- a flow's ticket is taken under its lock, if there is one
abbrev pub taking : ℕ → Option Ticket → List Event
taking flow taken = Locked flow ∷ Took flow taken ∷ Unlocked flow ∷ []

-- the answer to a ticket is settled under the flow's lock
abbrev pub settling : ℕ → Ticket → List Event
settling flow ticket = Locked flow ∷ Settled flow ticket ∷ Unlocked flow ∷ []

-- what follows when a flow's ticket was taken
abbrev pub answering : ℕ → ℕ → Option Ticket → List Event
answering worker flow None = []
answering worker flow (Some ticket) = settling flow ticket ++ Passed worker AfterSettle flow ∷ []

-- a flow is tended
abbrev pub tending : ℕ → ℕ → Option Ticket → List Event
tending worker flow taken = taking flow taken ++ Passed worker AfterTake flow ∷ [] ++ answering worker flow taken

-- a number that a worker received, and the ticket that it took of the flow
pub record Errand : Type 0 where
  pub flow : ℕ
  pub taken : Option Ticket

-- an errand: a number that is no flow's is ignored
abbrev pub errand : ℕ → ℕ → Errand → List Event
errand worker flows e = Received (Some e.flow) ∷ cond (nat_lt e.flow flows) (tending worker e.flow e.taken) []

-- errands in order, until no more numbers come
abbrev pub attended : ℕ → ℕ → List Errand → List Event
attended worker flows [] = Received None ∷ []
attended worker flows (e ∷ errands) = errand worker flows e ++ attended worker flows errands

-- a worker tended a flow
pub record Tends (worker flow : ℕ) (old new : KnownLog) : Type 0 where
  pub taken : Option Ticket
  pub logs : Logs old new (tending worker flow taken)

-- a worker did errands until no more numbers came
pub record Attends (worker flows : ℕ) (old new : KnownLog) : Type 0 where
  pub errands : List Errand
  pub logs : Logs old new (attended worker flows errands)
