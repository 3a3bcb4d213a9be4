-- One acknowledgement on ranges.
use Rattle.std.proofs.Common.{◌≡◌, ℕ, ◌≤◌, Bool, true, false, Result, Ok, Err, List, inl, inr, ◌&&◌, nat_le, length}
use Rattle.std.specs.Prelude.{IfOk}
use Rattle.std.proofs.lemmas.Bool.{and_parts}
use Rattle.std.proofs.lemmas.Bool.Decides.{leb_tells}
use Rattle.ccp_base.specs.declared.ack.Ack.{Ack}
use Rattle.portus_core.specs.declared.env.Env.{Env}
use Rattle.portus_core.specs.declared.env.Mean.{Mean}
use Rattle.portus_core.specs.declared.env.Mean.TheVariants.{Quiet, Reported, Held, Fault}
use Rattle.portus_core.specs.Programs.{Form}
use Rattle.portus_core.specs.ValidPrograms.{is_valid, are_parts, known_of}
use Rattle.portus_core.specs.Value.{Cause}
use Rattle.portus_core.specs.Command.{Going}
use Rattle.portus_core.specs.OneAcknowledgement.{IsEnvOf, answered, settled, one_of}
use Rattle.range_cases.specs.declared.case.Case.{Case}
use Rattle.range_cases.specs.declared.case.Kept.{Kept}
use Rattle.range_cases.specs.Cases.{IsKept, IsAmong, LeadsTo}
use Rattle.program_bounds.specs.declared.found.Found.{Found}
use Rattle.program_bounds.specs.declared.premises.Premises.{Premises}
use Rattle.program_bounds.specs.Turns.{IsShown, IsMet, Turned, IsTurn, IsWithin, IsSettled, KeepsFound}

met_answered : (form : Form) (found : Found) (turn : ℕ) (asked room : Bool) (env : Env) → IsShown found.report (answered form asked room env) → IsMet found turn (answered form asked room env)
met_answered form found turn false room env shown = tt
met_answered form found turn true true env shown = shown
met_answered form found turn true false env shown = tt

-- what a run leads to is settled
pub turned_run : (form : Form) (found : Found) (turn : ℕ) (left next : Kept) (ends : List Case) (ack : Ack) (env : Env) (room : Bool) (run : Result Going Cause)
    → LeadsTo found.faults turn ends ack run → IfOk run (λ (going : Going). IsEnvOf form going.env)
    → ((going : Going) → IsAmong ends ack going → IsEnvOf form going.env → IsSettled found.report left (answered form going.asked room going.env))
    → IsWithin left next → IsKept next env → Turned found turn next (settled form env room run)
turned_run form found turn left next ends ack env room (Ok going) leads shape settles within kept =
    let done = settles going leads shape in
    record { met = met_answered form found turn going.asked room going.env done.shown; kept = within (answered form going.asked room going.env).1 done.kept }
turned_run form found turn left next ends ack env room (Err cause) leads shape settles within kept = record { met = leads; kept = kept }

met_keeps : (old new : Found) (turn : ℕ) (mean : Mean) (env : Env) → KeepsFound old new → IsMet old turn (mean, env) → IsMet new turn (mean, env)
met_keeps old new turn Quiet env keeps met = tt
met_keeps old new turn (Reported fields) env keeps met = keeps.report fields env.cwnd env.rate met
met_keeps old new turn Held env keeps met = tt
met_keeps old new turn (Fault kind place) env keeps met = keeps.faults (kind, place) turn met

pub turn_keeps : (form : Form) (given : Premises) (old new : Found) (turn : ℕ) (state next : Kept) → KeepsFound old new → IsTurn form given old turn state next → IsTurn form given new turn state next
turn_keeps form given old new turn state next keeps turns env ack room shape kept meets has_room =
    let turned = turns env ack room shape kept meets has_room in
    record { met = met_keeps old new turn (one_of form env ack room).0 (one_of form env ack room).1 keeps turned.met; kept = turned.kept }

pub turn_within : (form : Form) (given : Premises) (found : Found) (turn : ℕ) (state next large : Kept) → IsWithin next large → IsTurn form given found turn state next → IsTurn form given found turn state large
turn_within form given found turn state next large within turns env ack room shape kept meets has_room =
    let turned = turns env ack room shape kept meets has_room in
    record { met = turned.met; kept = within (one_of form env ack room).1 turned.kept }

pub found_then : (first second third : Found) → KeepsFound first second → KeepsFound second third → KeepsFound first third
found_then first second third a b = record {
  faults = λ cause at listed. b.faults cause at (a.faults cause at listed);
  report = λ fields cwnd rate shown. b.report fields cwnd rate (a.report fields cwnd rate shown);
}

pub found_same : (found : Found) → KeepsFound found found
found_same found = record { faults = λ cause at listed. listed; report = λ fields cwnd rate shown. shown }

le_from : (a b : ℕ) → nat_le a b ≡ true → a ≤ b
le_from a b test =
    elim (leb_tells a b) [
      | inl low ↦ low.1
      | inr high ↦ absurd (cc (test, high.0))
    ]

-- a valid program has few control variables
pub few_controls : (form : Form) → is_valid form ≡ true → length form.controls ≤ 64
few_controls form valid =
    let rest = (and_parts (nat_le (length form.fields) 64 && nat_le (length form.controls) 64 && nat_le (length form.blocks) 64) (are_parts (known_of form) form.blocks) valid).0 in
    let two = (and_parts (nat_le (length form.fields) 64 && nat_le (length form.controls) 64) (nat_le (length form.blocks) 64) rest).0 in
    le_from (length form.controls) 64 (and_parts (nat_le (length form.fields) 64) (nat_le (length form.controls) 64) two).1
