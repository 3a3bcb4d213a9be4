-- The result of a walk along a word.
use Rattle.std.specs.Prelude.{◌≡◌, ◌<◌, true, false, Option, Some, None, List}
use Rattle.ccp_base.specs.FieldReg.{Pair}
use Rattle.ccp_base.specs.RunningEpochs.{opening_epoch}
use Rattle.flow_core.specs.declared.letter.Letter.{Letter}
use Rattle.flow_core.specs.declared.letter.Letter.TheVariants.{A, T, C}
use Rattle.flow_core.specs.Words.{world, legal}
use Rattle.agent_core.specs.Agents.{opening_change, course_of, values_of}
use Rattle.portus_core.specs.Epoch.{with_values, declared_env}
use Rattle.portus_core.specs.OneAcknowledgement.{IsEnvOf}
use Rattle.source_flow.specs.declared.source_case.SourceCase.{SourceCase}
use Rattle.source_flow.specs.declared.state.Present.{Present}
use Rattle.source_flow.specs.declared.state.State.{State}
use Rattle.source_flow.specs.SourceStates.{form_at, flow_over_sources, IsAt, IsSourceSound}

-- the letter's step may be made: an acknowledgement is left, or no ticket is out
abbrev pub IsPermitted : SourceCase → Letter → State → Type 0
IsPermitted source A s = s.acks < source.case.now.acks
IsPermitted source T s = s.out ≡ None
IsPermitted source C s = Unit {0}

-- the values of the agent's opening change
abbrev pub first_values : SourceCase → List Pair
first_values source = values_of source.case.now.agent (opening_change source.case.now.agent)

-- the epoch that the agent's opening change starts
pub record OpensWith (source : SourceCase) (present : Present) : Type 0 where
  pub epoch : present.epoch ≡ opening_epoch (course_of source.case.now.agent).ss.number 0
  pub env : present.env ≡ with_values (first_values source) (declared_env (form_at source present.epoch.program) 0 0 0)
  pub shape : IsEnvOf (form_at source present.epoch.program) present.env
  pub spare : IsEnvOf (form_at source present.epoch.program) present.spare
  pub running : present.is_stopped ≡ false

-- the state after a legal word
pub record StandsAfterWord (source : SourceCase) (word : List Letter) (s : State) : Type 0 where
  pub legal : legal (flow_over_sources source) source.case.now.link word ≡ true
  pub sound : IsSourceSound source s
  pub at : IsAt (flow_over_sources source) s (world (flow_over_sources source) source.case.now.link word)

-- the state after the word, or that some letter isn't legal at its point
abbrev pub IsWalked : SourceCase → List Letter → Option State → Type 0
IsWalked source word None = legal (flow_over_sources source) source.case.now.link word ≡ false
IsWalked source word (Some s) = StandsAfterWord source word s
