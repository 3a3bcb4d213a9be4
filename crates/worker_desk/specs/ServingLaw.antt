-- What holds of the events of a datapath worker, whatever the answers were.
use Rattle.std.specs.Prelude.{◌≡◌, ◌==◌, ℕ, ◌%◌, ◌≤◌, nat_lt, Bool, true, false, cond, ◌&&◌, Option, Some, None}
use Rattle.std.specs.Prelude.{List, [], ◌∷◌, ◌++◌, length}
use Rattle.worker_desk.specs.declared.event.Heard.{Heard}
use Rattle.worker_desk.specs.declared.event.Heard.TheVariants.{Quiet, Reported, Faulted, Ended}
use Rattle.worker_desk.specs.declared.event.Event.{Event}
use Rattle.worker_desk.specs.declared.event.Event.TheVariants as event
use Rattle.worker_desk.specs.Serving.{flows_of_worker, served, left}

-- ---- which flows are asked

-- a flow was asked for an acknowledgement, and answered this
pub record Ask : Type 0 where
  pub flow : ℕ
  pub answer : Heard

-- the asks among events, in order
abbrev pub asks : List Event → List Ask
asks [] = []
asks (event.Acked worker flow answer ∷ events) = record { flow = flow; answer = answer } ∷ asks events
asks (event.Passed worker point flow ∷ events) = asks events
asks (event.Locked flow ∷ events) = asks events
asks (event.Unlocked flow ∷ events) = asks events
asks (event.Nudged flow ∷ events) = asks events
asks (event.Received flow ∷ events) = asks events
asks (event.Took flow ticket ∷ events) = asks events
asks (event.Settled flow ticket ∷ events) = asks events
asks (event.Built flow step built ∷ events) = asks events
asks (event.Installed flow step installed ∷ events) = asks events
asks (event.Changed flow changed ∷ events) = asks events

-- an answer, if it is the flow's
abbrev pub answer_to_flow : ℕ → Ask → List Heard
answer_to_flow flow ask = cond (ask.flow == flow) (ask.answer ∷ []) []

-- a flow's answers, in order
abbrev pub answers_to_flow : ℕ → List Ask → List Heard
answers_to_flow flow [] = []
answers_to_flow flow (ask ∷ rest) = answer_to_flow flow ask ++ answers_to_flow flow rest

abbrev pub is_ended : Heard → Bool
is_ended Quiet = false
is_ended Reported = false
is_ended Faulted = false
is_ended Ended = true

abbrev pub has_ended : List Heard → Bool
has_ended [] = false
has_ended (answer ∷ answers) = cond (is_ended answer) true (has_ended answers)

abbrev pub is_empty : List Heard → Bool
is_empty [] = true
is_empty (answer ∷ answers) = false

-- the last answer is Ended, and no other one is
abbrev pub ends_once : List Heard → Bool
ends_once [] = false
ends_once (answer ∷ answers) = cond (is_ended answer) (is_empty answers) (ends_once answers)

-- ---- which nudges there are

-- the flow of which an agent worker must be sent a nudge after an answer
abbrev pub due : ℕ → Heard → Option ℕ
due flow Quiet = None
due flow Reported = Some flow
due flow Faulted = Some flow
due flow Ended = None

-- a nudge to this flow is due
abbrev pub is_due : Option ℕ → ℕ → Bool
is_due None flow = false
is_due (Some nudge) flow = nudge == flow

abbrev pub is_none_due : Option ℕ → Bool
is_none_due None = true
is_none_due (Some nudge) = false

-- if this nudge is due, it comes before the next ask and before the end; no nudge comes but after a report or a fault
abbrev pub nudges_well : Option ℕ → List Event → Bool
nudges_well nudge [] = is_none_due nudge
nudges_well nudge (event.Acked worker flow answer ∷ events) = is_none_due nudge && nudges_well (due flow answer) events
nudges_well nudge (event.Nudged flow ∷ events) = is_due nudge flow && nudges_well None events
nudges_well nudge (event.Passed worker point flow ∷ events) = nudges_well nudge events
nudges_well nudge (event.Locked flow ∷ events) = nudges_well nudge events
nudges_well nudge (event.Unlocked flow ∷ events) = nudges_well nudge events
nudges_well nudge (event.Received flow ∷ events) = nudges_well nudge events
nudges_well nudge (event.Took flow ticket ∷ events) = nudges_well nudge events
nudges_well nudge (event.Settled flow ticket ∷ events) = nudges_well nudge events
nudges_well nudge (event.Built flow step built ∷ events) = nudges_well nudge events
nudges_well nudge (event.Installed flow step installed ∷ events) = nudges_well nudge events
nudges_well nudge (event.Changed flow changed ∷ events) = nudges_well nudge events

-- ---- the law

-- a flow below a number is the worker's
abbrev pub is_of : ℕ → ℕ → ℕ → ℕ → Bool
is_of worker datapaths flows flow = nat_lt flow flows && ((flow % datapaths) == worker)

pub record IsServed (worker datapaths flows : ℕ) (events : List Event) : Type 0 where
  -- each flow of the worker is asked until it answered Ended, and not again
  pub each : (flow : ℕ) → is_of worker datapaths flows flow ≡ true
      → ends_once (answers_to_flow flow (asks events)) ≡ true
  -- no other flow is asked
  pub own : (flow : ℕ) → is_of worker datapaths flows flow ≡ false → answers_to_flow flow (asks events) ≡ []
  -- while a flow of the worker that hasn't ended isn't asked, no flow is asked twice
  pub in_turn : (flow other : ℕ) (before middle after : List Ask) → is_of worker datapaths flows other ≡ true
      → asks events ≡ before ++ (middle ++ after) → has_ended (answers_to_flow other before) ≡ false
      → answers_to_flow other middle ≡ [] → length (answers_to_flow flow middle) ≤ 1
  -- a nudge comes after each report and each fault, before the next ask, and no other nudge
  pub nudges : nudges_well None events ≡ true

-- what a worker did that went round its flows until none was left, whatever the answers were
abbrev pub ServingLaw : Type 0
ServingLaw = (worker datapaths flows : ℕ) (answers : List Heard)
    → left (flows_of_worker worker datapaths flows) answers ≡ []
    → IsServed worker datapaths flows (served worker (flows_of_worker worker datapaths flows) answers)
