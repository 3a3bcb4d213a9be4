-- What a step of a flow makes of its state, with each fault's place for its instruction.
use Rattle.std.specs.Prelude.{◌≡◌, ℕ, is_some, Option, Some, None, option_map, List, [], ◌∷◌, map, refl}
use Rattle.ccp_base.specs.declared.ack.Ack.{Ack}
use Rattle.ccp_base.specs.declared.arithmetic.FaultKind.{FaultKind}
use Rattle.ccp_base.specs.declared.place.Place.{Place}
use Rattle.ccp_base.specs.declared.exchange.Report.{Report}
use Rattle.ccp_base.specs.RunningEpochs.{Reporter}
use Rattle.portus_core.specs.declared.env.Env.{Env}
use Rattle.portus_core.specs.Epoch.{Outcome, quiet, reported, held, failed, stopped, Track}
use Rattle.portus_core.specs.Reports.{reports_met}
use Rattle.flow_core.specs.World.{Failure, World, failures_met, untold_after, held_met, takeable, with_taken, after_take}
use Rattle.flow_core.specs.Lift.{Placing, map_failure, map_world}
use Rattle.flow_core.proofs.SimulatedEpochs.{outcome_placed, met_placed}

-- without an acknowledgement, a placing changes nothing that is taken
take-placed : (place : Placing) (w : World ℕ) (waiting : List Report) (untold : Option (Failure ℕ))
    → map_world place (with_taken (takeable waiting untold) w)
    ≡ with_taken (takeable waiting (option_map (map_failure place) untold)) (map_world place w)
take-placed place w (report ∷ rest) untold = refl
take-placed place w [] (Some failure) = refl
take-placed place w [] None = refl

pub take-lifts : (place : Placing) (w : World ℕ) → map_world place (after_take w) ≡ after_take (map_world place w)
take-lifts place w = take-placed place w w.waiting w.untold

pub can-placed : (place : Placing) (waiting : List Report) (untold : Option (Failure ℕ))
    → is_some (takeable waiting untold) ≡ is_some (takeable waiting (option_map (map_failure place) untold))
can-placed place (report ∷ rest) untold = refl
can-placed place [] (Some failure) = refl
can-placed place [] None = refl

pub failures-placed : (place : Placing) (program epoch at : ℕ) (ack : Ack) (outcome : Outcome (FaultKind × ℕ)) (env : Env)
    → map (map_failure place) (failures_met program epoch at ack (outcome, env))
    ≡ failures_met program epoch at ack (met_placed (place program) (outcome, env))
failures-placed place program epoch at ack quiet env = refl
failures-placed place program epoch at ack (reported fields) env = refl
failures-placed place program epoch at ack held env = refl
failures-placed place program epoch at ack (failed fault) env = refl
failures-placed place program epoch at ack stopped env = refl

pub reports-placed : (place : ℕ → Place) (epoch : Reporter) (track : Track) (ack : Ack) (outcome : Outcome (FaultKind × ℕ)) (env : Env)
    → reports_met epoch track ack outcome env ≡ reports_met epoch track ack (outcome_placed place outcome) env
reports-placed place epoch track ack quiet env = refl
reports-placed place epoch track ack (reported fields) env = refl
reports-placed place epoch track ack held env = refl
reports-placed place epoch track ack (failed fault) env = refl
reports-placed place epoch track ack stopped env = refl

pub held-placed : (place : ℕ → Place) (outcome : Outcome (FaultKind × ℕ)) → held_met outcome ≡ held_met (outcome_placed place outcome)
held-placed place quiet = refl
held-placed place (reported fields) = refl
held-placed place held = refl
held-placed place (failed fault) = refl
held-placed place stopped = refl

pub untold-placed : (place : Placing) (failures : List (Failure ℕ)) (untold : Option (Failure ℕ))
    → option_map (map_failure place) (untold_after failures untold)
    ≡ untold_after (map (map_failure place) failures) (option_map (map_failure place) untold)
untold-placed place [] untold = refl
untold-placed place (failure ∷ rest) untold = refl
