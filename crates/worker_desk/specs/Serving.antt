-- What a datapath worker does: it goes round its flows again and again.
use Rattle.std.specs.Prelude.{◌≡◌, ◌==◌, ℕ, zero, suc, ◌%◌, cond, List, [], ◌∷◌, ◌++◌}
use Rattle.ccp_base.specs.declared.gate.Point.TheVariants.{BeforeAck, InAck, AfterAck}
use Rattle.worker_desk.specs.declared.event.Heard.{Heard}
use Rattle.worker_desk.specs.declared.event.Heard.TheVariants.{Quiet, Reported, Faulted, Ended}
use Rattle.worker_desk.specs.declared.event.Event.{Event}
use Rattle.worker_desk.specs.declared.event.Event.TheVariants.{Passed, Locked, Unlocked, Acked, Nudged}
use Rattle.worker_desk.specs.Logs.{KnownLog, Logs}

-- the flows below a number that are a worker's: the flows `f` with `f mod datapaths = worker`
abbrev pub flows_of_worker : ℕ → ℕ → ℕ → List ℕ
flows_of_worker worker datapaths zero = []
flows_of_worker worker datapaths (suc flow) =
    flows_of_worker worker datapaths flow ++ cond ((flow % datapaths) == worker) (flow ∷ []) []

-- how many acknowledgements an answer was
abbrev pub heard_count : Heard → ℕ
heard_count Quiet = 1
heard_count Reported = 1
heard_count Faulted = 1
heard_count Ended = 0

-- the nudge after an answer
abbrev pub nudge : ℕ → Heard → List Event
nudge flow Quiet = []
nudge flow Reported = Nudged flow ∷ []
nudge flow Faulted = Nudged flow ∷ []
nudge flow Ended = []

-- an acknowledgement of a flow under its lock, with its answer
abbrev pub hearing_events : ℕ → ℕ → Heard → List Event
hearing_events worker flow answer =
    Locked flow ∷ Acked worker flow answer ∷ Passed worker InAck flow ∷ Unlocked flow ∷ []

-- one turn of a flow, with its answer
abbrev pub turn : ℕ → ℕ → Heard → List Event
turn worker flow answer =
    Passed worker BeforeAck flow ∷ hearing_events worker flow answer
    ++ nudge flow answer ++ Passed worker AfterAck flow ∷ []

-- the flow comes again after its answer, at the end of the row
abbrev pub again : ℕ → Heard → List ℕ
again flow Quiet = flow ∷ []
again flow Reported = flow ∷ []
again flow Faulted = flow ∷ []
again flow Ended = []

-- the turns of flows that stand in a row, as far as there are answers
abbrev pub served : ℕ → List ℕ → List Heard → List Event
served worker row [] = []
served worker [] (answer ∷ answers) = []
served worker (flow ∷ row) (answer ∷ answers) =
    turn worker flow answer ++ served worker (row ++ again flow answer) answers

-- the flows that still stand in the row after these answers
abbrev pub left : List ℕ → List Heard → List ℕ
left row [] = row
left [] (answer ∷ answers) = []
left (flow ∷ row) (answer ∷ answers) = left (row ++ again flow answer) answers

-- a worker did the turns of the flows in the row, one answer each, until none stood there
pub record Serves (worker : ℕ) (row : List ℕ) (old new : KnownLog) : Type 0 where
  pub answers : List Heard
  pub logs : Logs old new (served worker row answers)
  pub ends : left row answers ≡ []
