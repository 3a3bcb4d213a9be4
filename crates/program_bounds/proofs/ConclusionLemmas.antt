-- What the events of an epoch lead to, one event after another.
use Rattle.std.proofs.Common.{◌≡◌, ℕ, ◌+◌, ◌≤◌, ◌<◌, Bool, true, false, Option, Some, List, [], ◌∷◌, ◌++◌, subst, arith}
use Rattle.std.specs.Option.{option_or}
use Rattle.ccp_base.specs.declared.ack.Ack.{Ack}
use Rattle.ccp_base.specs.RunningEpochs.{Reporter}
use Rattle.ccp_base.specs.FieldReg.{Pair}
use Rattle.portus_core.specs.declared.env.Env.{Env}
use Rattle.portus_core.specs.declared.env.Mean.{Mean}
use Rattle.portus_core.specs.declared.env.Mean.TheVariants.{Quiet, Reported, Held, Fault}
use Rattle.portus_core.specs.Programs.{Form}
use Rattle.portus_core.specs.Value.{Cause}
use Rattle.portus_core.specs.OneAcknowledgement.{IsEnvOf, one_of}
use Rattle.portus_core.specs.Epoch.{Event, acknowledged, updated, Outcome, quiet, reported, held, failed, stopped, outcome_of, Track, heard, by_source, after, after_outcome, with_value, with_values}
use Rattle.portus_core.specs.Reports.{reports, reports_met, fault_met, epoch_fault}
use Rattle.portus_core.proofs.EnvShapes.{IsEnvOf-with_value, IsEnvOf-with_values, IsEnvOf-one_of}
use Rattle.range_cases.specs.declared.case.Kept.{Kept}
use Rattle.range_cases.specs.Cases.{IsKept}
use Rattle.range_cases.specs.Listing.{IsListed}
use Rattle.program_bounds.specs.declared.found.Found.{Found}
use Rattle.program_bounds.specs.declared.premises.Premises.{Premises}
use Rattle.program_bounds.specs.Premises.{AreUpdates}
use Rattle.program_bounds.specs.Bounded.{ShowsIn, Shows, Each}
use Rattle.program_bounds.specs.Turns.{IsMet, Turned, IsTurn, IsWithin, IsUpdated, IsConcluded, IsGoodFrom}

one_some : {A : Type 0} (x y : A) → Some x ≡ Some y → x ≡ y
one_some x y same = cc

-- what was heard of an acknowledgement was found
abbrev IsHeard : Found → ℕ → Outcome Cause → Env → Type 0
IsHeard found count quiet env = Unit {0}
IsHeard found count (reported fields) env = ShowsIn found.report fields env.cwnd env.rate
IsHeard found count held env = Unit {0}
IsHeard found count (failed fault) env = IsListed found.faults fault count
IsHeard found count stopped env = Unit {0}

-- what an acknowledgement that was heard so and the rest of an epoch lead to was found
record IsConcludedBy (form : Form) (found : Found) (now : Kept) (ack : Ack) (rest : List Event) (track : Track) (met : Outcome Cause × Env) : Type 0 where
  faults : (at : ℕ) (cause : Cause) → option_or (fault_met met.0 track.count) (epoch_fault (by_source form) rest (after_outcome met track)) ≡ Some (at, cause) → IsListed found.faults cause at
  reports : (reporter : Reporter) → Each (Shows found.report) (reports_met reporter track ack met.0 met.1 ++ reports (by_source form) reporter rest (after_outcome met track))
  kept : IsKept now (after (by_source form) rest (after_outcome met track)).env

first_fault : (found : Found) (count : ℕ) (fault : Cause) (at : ℕ) (cause : Cause) → IsListed found.faults fault count → ◌≡◌ {A = Option (ℕ × Cause)} (Some (count, fault)) (Some (at, cause)) → IsListed found.faults cause at
first_fault found count fault at cause listed same =
    let met : ℕ × Cause = (count, fault) in
    let asked : ℕ × Cause = (at, cause) in
    let pair : met ≡ asked = one_some met asked same in
    subst (λ (p : ℕ × Cause). IsListed found.faults p.1 p.0) pair listed

concluded_by : (form : Form) (found : Found) (now : Kept) (ack : Ack) (rest : List Event) (track : Track) (outcome : Outcome Cause) (env : Env)
    → IsHeard found track.count outcome env → IsConcluded form found now rest (after_outcome (outcome, env) track) → IsConcludedBy form found now ack rest track (outcome, env)
concluded_by form found now ack rest track quiet env met later = record { faults = later.faults; reports = later.reports; kept = later.kept }
concluded_by form found now ack rest track (reported fields) env met later = record { faults = later.faults; reports = λ reporter. (met, later.reports reporter); kept = later.kept }
concluded_by form found now ack rest track held env met later = record { faults = later.faults; reports = later.reports; kept = later.kept }
concluded_by form found now ack rest track (failed fault) env met later = record { faults = λ at cause same. first_fault found track.count fault at cause met same; reports = later.reports; kept = later.kept }
concluded_by form found now ack rest track stopped env met later = record { faults = later.faults; reports = later.reports; kept = later.kept }

heard_met : (found : Found) (turn count : ℕ) (mean : Mean) (env : Env) → turn ≤ count → IsMet found turn (mean, env) → IsHeard found count (outcome_of mean) env
heard_met found turn count Quiet env early met = tt
heard_met found turn count (Reported fields) env early met = met
heard_met found turn count Held env early met = tt
heard_met found turn count (Fault kind place) env early met = record { first = met.first; early = omega arith; there = met.there }

-- an acknowledgement on ranges and the rest, whether the epoch was stopped or not
concluded_heard : (form : Form) (given : Premises) (found : Found) (now : Kept) (turn : ℕ) (state next : Kept) (ack : Ack) (room : Bool) (rest : List Event) (track : Track) (is_stopped : Bool)
    → turn ≤ track.count → IsEnvOf form track.env → IsKept state track.env → IsWithin state next → Turned found turn next (one_of form track.env ack room)
    → ((later : Track) → IsEnvOf form later.env → IsKept next later.env → turn + 1 ≤ later.count → IsConcluded form found now rest later)
    → IsConcludedBy form found now ack rest track (heard (by_source form) is_stopped track.env ack room)
concluded_heard form given found now turn state next ack room rest track true early shape kept within turned later =
    concluded_by form found now ack rest track stopped track.env tt (later (after_outcome {F = Cause} (stopped, track.env) track) shape (within track.env kept) (omega arith))
concluded_heard form given found now turn state next ack room rest track false early shape kept within turned later =
    concluded_by form found now ack rest track (outcome_of (one_of form track.env ack room).0) (one_of form track.env ack room).1
    (heard_met found turn track.count (one_of form track.env ack room).0 (one_of form track.env ack room).1 early turned.met)
    (later (after_outcome {F = Cause} (outcome_of (one_of form track.env ack room).0, (one_of form track.env ack room).1) track) (IsEnvOf-one_of form track.env ack room shape) turned.kept (omega arith))

concluded_ack : (form : Form) (given : Premises) (found : Found) (now : Kept) (turn : ℕ) (state next : Kept) (ack : Ack) (room : Bool) (rest : List Event) (track : Track)
    → turn ≤ track.count → IsEnvOf form track.env → IsKept state track.env → IsWithin state next → Turned found turn next (one_of form track.env ack room)
    → ((later : Track) → IsEnvOf form later.env → IsKept next later.env → turn + 1 ≤ later.count → IsConcluded form found now rest later)
    → IsConcluded form found now (acknowledged ack room ∷ rest) track
concluded_ack form given found now turn state next ack room rest track early shape kept within turned later =
    let by = concluded_heard form given found now turn state next ack room rest track track.is_stopped early shape kept within turned later in
    record { faults = by.faults; reports = by.reports; kept = by.kept }

concluded_update : (form : Form) (found : Found) (now : Kept) (values : List Pair) (rest : List Event) (track : Track)
    → IsConcluded form found now rest (record track { env = with_values values track.env }) → IsConcluded form found now (updated values ∷ rest) track
concluded_update form found now values rest track later = record { faults = later.faults; reports = later.reports; kept = later.kept }

updates_keep : (form : Form) (given : Premises) (state : Kept) (values : List Pair) (env : Env) → IsUpdated form given state → IsEnvOf form env → IsKept state env → AreUpdates given values → IsKept state (with_values values env)
updates_keep form given state [] env updates shape kept allowed = kept
updates_keep form given state (pair ∷ rest) env updates shape kept allowed =
    updates_keep form given state rest (with_value pair.0 pair.1 env) updates (IsEnvOf-with_value form pair.0 pair.1 env shape) (updates env pair shape kept allowed.0) allowed.1

-- an acknowledgement on ranges: from here it is good if it is good from the next ranges on
pub good_turn : (form : Form) (given : Premises) (found : Found) (now : Kept) (turn : ℕ) (state next : Kept) → turn < given.acks
    → IsTurn form given found turn state next → IsWithin state next → IsUpdated form given state
    → IsGoodFrom form given found now (turn + 1) next → IsGoodFrom form given found now turn state
good_turn form given found now turn state next before turns within updates good [] track since few follows shape kept early =
    record {
      faults = λ at cause same. cc;
      reports = λ reporter. tt;
      kept = (good [] (record track { count = track.count + 1 }) since (omega arith) tt shape (within track.env kept) (omega arith)).kept;
    }
good_turn form given found now turn state next before turns within updates good (acknowledged ack room ∷ rest) track since few follows shape kept early =
    concluded_ack form given found now turn state next ack room rest track early shape kept within (turns track.env ack room shape kept follows.0 follows.2)
    (λ later whole has count. good rest later ack.now (omega arith) follows.3 whole has count)
good_turn form given found now turn state next before turns within updates good (updated values ∷ rest) track since few follows shape kept early =
    concluded_update form found now values rest track
    (good_turn form given found now turn state next before turns within updates good rest (record track { env = with_values values track.env }) since few follows.1
    (IsEnvOf-with_values form values track.env shape) (updates_keep form given state values track.env updates shape kept follows.0) early)

-- ranges that an acknowledgement leaves as they are
pub good_steady : (form : Form) (given : Premises) (found : Found) (turn : ℕ) (state : Kept)
    → IsTurn form given found turn state state → IsUpdated form given state → IsGoodFrom form given found state turn state
good_steady form given found turn state turns updates [] track since few follows shape kept early =
    record { faults = λ at cause same. cc; reports = λ reporter. tt; kept = kept }
good_steady form given found turn state turns updates (acknowledged ack room ∷ rest) track since few follows shape kept early =
    concluded_ack form given found state turn state state ack room rest track early shape kept (λ env has. has) (turns track.env ack room shape kept follows.0 follows.2)
    (λ later whole has count. good_steady form given found turn state turns updates rest later ack.now (omega arith) follows.3 whole has (omega arith))
good_steady form given found turn state turns updates (updated values ∷ rest) track since few follows shape kept early =
    concluded_update form found state values rest track
    (good_steady form given found turn state turns updates rest (record track { env = with_values values track.env }) since few follows.1
    (IsEnvOf-with_values form values track.env shape) (updates_keep form given state values track.env updates shape kept follows.0) early)

-- after the last acknowledgement
pub good_end : (form : Form) (given : Premises) (found : Found) (turn : ℕ) (state : Kept) → given.acks ≤ turn
    → IsUpdated form given state → IsGoodFrom form given found state turn state
good_end form given found turn state last updates [] track since few follows shape kept early =
    record { faults = λ at cause same. cc; reports = λ reporter. tt; kept = kept }
good_end form given found turn state last updates (acknowledged ack room ∷ rest) track since few follows shape kept early = absurd (omega arith)
good_end form given found turn state last updates (updated values ∷ rest) track since few follows shape kept early =
    concluded_update form found state values rest track
    (good_end form given found turn state last updates rest (record track { env = with_values values track.env }) since few follows.1
    (IsEnvOf-with_values form values track.env shape) (updates_keep form given state values track.env updates shape kept follows.0) early)
