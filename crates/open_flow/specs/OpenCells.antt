-- A flow of a rollout: its case, its library and its word.
use Rattle.std.specs.Prelude.{◌≡◌, ℕ, ◌+◌, ◌*◌, ◌≤◌, Bool, true, Option, Some, None, option_map, ⊤}
use Rattle.std.specs.Prelude.{List, [], ◌∷◌, ◌++◌, length, slice_get}
use Rattle.ccp_base.specs.declared.ack.Ack.{Ack}
use Rattle.portus_core.specs.Value.{Cause}
use Rattle.portus_core.specs.Epoch.{Outcome, quiet, reported, held, failed, stopped}
use Rattle.reg_compiler.specs.declared.built.Built.{Built}
use Rattle.fold_machine.specs.declared.acked.Acked.{Acked}
use Rattle.fold_machine.specs.declared.acked.Acked.TheVariants as acked
use Rattle.flow_core.specs.Cores.{ran_by}
use Rattle.scene_members.specs.declared.open_case.OpenCase.{OpenCase}
use Rattle.open_flow.specs.declared.entry.Entry.{Entry}
use Rattle.open_flow.specs.declared.letter.OpenLetter.{OpenLetter}
use Rattle.open_flow.specs.declared.letter.OpenLetter.TheVariants.{I}
use Rattle.open_flow.specs.OpenWorld.{Running, OpenWorld, track_of, met_by, next_entry}
use Rattle.open_flow.specs.OpenWords.{next_ack, after_letter, install_world, is_legal, is_complete}
use Rattle.open_flow.specs.Entries.{built_at, entry_place}

pub record OpenState : Type 0 where
  pub case : OpenCase
  pub entries : List Entry
  pub word : List OpenLetter

-- the flow's state after its word
abbrev pub world_at : OpenState → OpenWorld
world_at cell = install_world cell.case cell.word

abbrev pub ack_at : OpenState → Ack
ack_at cell = next_ack cell.case (world_at cell)

-- the new flow's state is the old one's after one more letter
abbrev pub IsAfter : OpenState → OpenLetter → OpenState → Type 0
IsAfter old letter new = world_at new ≡ after_letter old.case (world_at old) letter

-- the letter is legal at the end of the flow's word
abbrev pub is_legal_at : OpenState → OpenLetter → Bool
is_legal_at cell letter = is_legal cell.case (world_at cell) letter

-- all acknowledgements of the case are in
abbrev pub HasAll : OpenState → Type 0
HasAll cell = cell.case.acks ≤ length (world_at cell).acks

abbrev pub IsComplete : OpenState → Type 0
IsComplete cell = is_complete cell.case (world_at cell) ≡ true

-- how many letters a word of a case has at most
abbrev pub most_letters : OpenCase → ℕ
most_letters case = case.acks + 2 * length case.steps

-- ---- an entry

-- the entry's step is the number of entries so far, and its text is the case's of that step
abbrev pub IsNextEntry : OpenState → Entry → Type 0
IsNextEntry cell entry =
    (entry.step ≡ length cell.entries) × (slice_get cell.case.steps (length cell.entries) ≡ Some entry.text)

-- the flow with one more entry
abbrev pub with_entry : OpenState → Entry → OpenState
with_entry cell entry = record cell { entries = cell.entries ++ entry ∷ []; word = cell.word ++ I ∷ [] }

-- ---- the answer to an acknowledgement

-- the outcome that an answer stands for, with the fields of its report; a fault's index becomes its place
abbrev pub outcome_seen : Option Built → Acked → List ℕ → Option (Outcome Cause)
outcome_seen built acked.Quiet fields = Some quiet
outcome_seen built acked.Reported fields = Some (reported fields)
outcome_seen built acked.Held fields = Some held
outcome_seen built (acked.Faulted kind index) fields =
    option_map (λ place. failed (kind, place)) (entry_place built index)
outcome_seen built acked.Stopped fields = Some stopped

-- an answer stands for an outcome, whatever its report's fields are
abbrev pub HasOutcome : Option Built → Acked → Outcome Cause → Type 0
HasOutcome built answer (reported fields) = answer ≡ acked.Reported
HasOutcome built answer quiet = outcome_seen built answer [] ≡ Some quiet
HasOutcome built answer held = outcome_seen built answer [] ≡ Some held
HasOutcome built answer (failed cause) = outcome_seen built answer [] ≡ Some (failed cause)
HasOutcome built answer stopped = outcome_seen built answer [] ≡ Some stopped

-- None before the first change, and then the outcome of the running program
abbrev pub AnswersTo : List Entry → Ack → Option Running → Option Acked → Type 0
AnswersTo entries ack None None = ⊤
AnswersTo entries ack None (Some answer) = ⊥
AnswersTo entries ack (Some running) None = ⊥
AnswersTo entries ack (Some running) (Some answer) =
    HasOutcome (built_at entries running.era.program) answer (met_by running ack).0

-- the answer to the next acknowledgement
abbrev pub AnswersAck : OpenState → Option Acked → Type 0
AnswersAck cell answer = AnswersTo cell.entries (ack_at cell) (world_at cell).present answer

-- how many instructions an acknowledgement runs, none before the first change
abbrev pub ran_with : Option Built → Running → Ack → ℕ
ran_with None running ack = 0
ran_with (Some built) running ack = ran_by (track_of running).is_stopped built.code.code (track_of running).env ack true

abbrev pub ran_in : List Entry → Option Running → Ack → ℕ
ran_in entries None ack = 0
ran_in entries (Some running) ack = ran_with (built_at entries running.era.program) running ack

abbrev pub ran_at : OpenState → ℕ
ran_at cell = ran_in cell.entries (world_at cell).present (ack_at cell)

-- ---- the answer to a change

-- the step that the next change changes to; None if there is none
abbrev pub next_step : OpenState → Option ℕ
next_step cell = option_map (λ next. next.0) (next_entry (world_at cell))
