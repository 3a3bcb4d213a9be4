-- Over code that simulates a program, an epoch stands as it does over the program.
use Rattle.std.specs.Prelude.{◌≡◌, ℕ, Bool, true, false, Option, Some, None, option_map, unwrap_or, List, [], ◌∷◌, map, slice_get, refl}
use Rattle.std.proofs.Common.{ap, sym, ◌∙◌}
use Rattle.std.proofs.lemmas.Option.{none-some}
use Rattle.ccp_base.specs.declared.ack.Ack.{Ack}
use Rattle.ccp_base.specs.declared.arithmetic.FaultKind.{FaultKind}
use Rattle.ccp_base.specs.declared.place.Place.{Place}
use Rattle.portus_core.specs.declared.env.Env.{Env}
use Rattle.portus_core.specs.declared.env.Mean.{Mean}
use Rattle.portus_core.specs.declared.env.Mean.TheVariants.{Fault}
use Rattle.portus_core.specs.declared.program.Decl.{Decl}
use Rattle.portus_core.specs.Programs.{Form}
use Rattle.portus_core.specs.Value.{Cause}
use Rattle.portus_core.specs.OneAcknowledgement.{IsEnvOf}
use Rattle.portus_core.proofs.EnvShapes.{IsEnvOf-one_of, IsEnvOf-with_values}
use Rattle.portus_core.specs.Epoch as epoch
use Rattle.portus_core.specs.Epoch.{Event, acknowledged, updated, Outcome, quiet, reported, held, failed, stopped, Track, Reading, by_source, declared_env, heard, stops, next_first, after_outcome, after_event, after}
use Rattle.reg_code.specs.declared.code.Code.{Code}
use Rattle.reg_code.specs.declared.code.Start.{Start}
use Rattle.reg_code.specs.CodeStep as steps
use Rattle.reg_code.specs.CodeStart.{declared_kept}
use Rattle.reg_compiler.specs.Simulation.{Simulates, seen, register_start}
use Rattle.flow_core.specs.Readings.{env_of, outcome_of, by_code}
use Rattle.flow_core.specs.Lift.{missing_place, place_at}

-- ---- one acknowledgement

-- an outcome with a fault's place in place of its instruction
abbrev pub outcome_placed : (ℕ → Place) → Outcome (FaultKind × ℕ) → Outcome Cause
outcome_placed place quiet = quiet
outcome_placed place (reported fields) = reported fields
outcome_placed place held = held
outcome_placed place (failed fault) = failed (fault.0, place fault.1)
outcome_placed place stopped = stopped

abbrev pub met_placed : (ℕ → Place) → Outcome (FaultKind × ℕ) × Env → Outcome Cause × Env
met_placed place met = (outcome_placed place met.0, met.1)

abbrev outcome_by : Option Mean → Outcome Cause
outcome_by (Some mean) = epoch.outcome_of mean
outcome_by None = stopped

fault-seen : (kind : FaultKind) (place : Option Place) (mean : Mean)
    → option_map (λ place. Fault kind place) place ≡ Some mean
    → failed (kind, unwrap_or place missing_place) ≡ epoch.outcome_of mean
fault-seen kind (Some place) mean same = ap outcome_by same
fault-seen kind None mean same = absurd (none-some mean same)

outcome-seen : (places : List Place) (outcome : steps.CodeOutcome) (mean : Mean)
    → seen places outcome ≡ Some mean
    → outcome_placed (place_at places) (outcome_of outcome) ≡ epoch.outcome_of mean
outcome-seen places steps.quiet mean same = ap outcome_by same
outcome-seen places (steps.reported fields) mean same = ap outcome_by same
outcome-seen places steps.held mean same = ap outcome_by same
outcome-seen places (steps.faulted kind index) mean same = fault-seen kind (slice_get places index) mean same
outcome-seen places steps.lost mean same = absurd (none-some mean same)

met-simulated : (form : Form) (code : Code) (places : List Place) → Simulates form code places
    → (env : Env) (ack : Ack) (room : Bool) → IsEnvOf form env
    → met_placed (place_at places) (by_code code env ack room) ≡ by_source form env ack room
met-simulated form code places simulates env ack room shape =
    let alike = simulates.3 env ack room shape in
    λ i. (outcome-seen places _ _ alike.0 i, env_of (alike.1 i))

-- ---- events

pub heard-simulated : (form : Form) (code : Code) (places : List Place) → Simulates form code places
    → (is_stopped : Bool) (env : Env) (ack : Ack) (room : Bool) → IsEnvOf form env
    → met_placed (place_at places) (heard (by_code code) is_stopped env ack room) ≡ heard (by_source form) is_stopped env ack room
heard-simulated form code places simulates true env ack room shape = refl
heard-simulated form code places simulates false env ack room shape = met-simulated form code places simulates env ack room shape

-- how an epoch stands after an acknowledgement doesn't depend on a fault's site
after_outcome-placed : (place : ℕ → Place) (outcome : Outcome (FaultKind × ℕ)) (env : Env) (track : Track)
    → after_outcome (met_placed place (outcome, env)) track ≡ after_outcome (outcome, env) track
after_outcome-placed place quiet env track = refl
after_outcome-placed place (reported fields) env track = refl
after_outcome-placed place held env track = refl
after_outcome-placed place (failed fault) env track = refl
after_outcome-placed place stopped env track = refl

event-simulated : (form : Form) (code : Code) (places : List Place) → Simulates form code places
    → (event : Event) (track : Track) → IsEnvOf form track.env
    → after_event (by_code code) event track ≡ after_event (by_source form) event track
event-simulated form code places simulates (acknowledged ack room) track shape =
    let met = heard (by_code code) track.is_stopped track.env ack room in
    sym (after_outcome-placed (place_at places) met.0 met.1 track)
    ∙ ap (λ (m : Outcome Cause × Env). after_outcome m track) (heard-simulated form code places simulates track.is_stopped track.env ack room shape)
event-simulated form code places simulates (updated values) track shape = refl

IsEnvOf-heard : (form : Form) (is_stopped : Bool) (env : Env) (ack : Ack) (room : Bool) → IsEnvOf form env
    → IsEnvOf form (heard (by_source form) is_stopped env ack room).1
IsEnvOf-heard form true env ack room shape = shape
IsEnvOf-heard form false env ack room shape = IsEnvOf-one_of form env ack room shape

IsEnvOf-after_event : (form : Form) (event : Event) (track : Track) → IsEnvOf form track.env
    → IsEnvOf form (after_event (by_source form) event track).env
IsEnvOf-after_event form (acknowledged ack room) track shape = IsEnvOf-heard form track.is_stopped track.env ack room shape
IsEnvOf-after_event form (updated values) track shape = IsEnvOf-with_values form values track.env shape

-- ---- epochs

pub after-simulated : (form : Form) (code : Code) (places : List Place) → Simulates form code places
    → (events : List Event) (track : Track) → IsEnvOf form track.env
    → after (by_code code) events track ≡ after (by_source form) events track
after-simulated form code places simulates [] track shape = refl
after-simulated form code places simulates (event ∷ rest) track shape =
    ap (λ (t : Track). after (by_code code) rest t) (event-simulated form code places simulates event track shape)
    ∙ after-simulated form code places simulates rest (after_event (by_source form) event track) (IsEnvOf-after_event form event track shape)

pub IsEnvOf-after : (form : Form) (events : List Event) (track : Track) → IsEnvOf form track.env
    → IsEnvOf form (after (by_source form) events track).env
IsEnvOf-after form [] track shape = shape
IsEnvOf-after form (event ∷ rest) track shape =
    IsEnvOf-after form rest (after_event (by_source form) event track) (IsEnvOf-after_event form event track shape)

values-of-starts : (decls : List Decl) → map (λ (start : Start). start.value) (map register_start decls) ≡ map (λ (decl : Decl). decl.start) decls
values-of-starts [] = refl
values-of-starts (decl ∷ rest) = ap (λ (values : List ℕ). decl.start ∷ values) (values-of-starts rest)

-- an epoch's declared values are the same
pub declared-simulated : (form : Form) (code : Code) (places : List Place) → Simulates form code places
    → (cwnd rate now : ℕ) → env_of (declared_kept code cwnd rate now) ≡ declared_env form cwnd rate now
declared-simulated form code places simulates cwnd rate now =
    let values = λ (starts : List Start). map (λ (start : Start). start.value) starts in
    let fields = ap values simulates.2.0 ∙ values-of-starts form.fields in
    let controls = ap values simulates.2.1 ∙ values-of-starts form.controls in
    λ i. record { fields = fields i; controls = controls i; cwnd = cwnd; rate = rate; zero = now }
