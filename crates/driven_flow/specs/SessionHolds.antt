-- What holds of a session between frames, and of a frame that was accepted.
use Rattle.std.specs.Prelude.{◌≡◌, ℕ, ◌≤◌, true, is_some, Option, Some, None, unwrap_or}
use Rattle.driven_flow.specs.Driven.{Codes}
use Rattle.flow_core.specs.declared.letter.Letter.TheVariants.{C}
use Rattle.driven_flow.specs.Driven.{Given, DrivenState, is_known_for, bad_in, MayMake, present_of, left_of}
use Rattle.driven_flow.specs.Session.{SessionState, running, run_for, run_on}

-- the flow has these programs
abbrev pub HasPrograms : Codes → Option DrivenState → Type 0
HasPrograms programs None = Unit {0}
HasPrograms programs (Some flow) = flow.programs ≡ programs

-- the frame's program is known, its values are good for it, and where no flow has begun it is a change
pub record IsAccepted (s : SessionState) (given : Given) : Type 0 where
  pub known : is_known_for s.programs given.program ≡ true
  pub good : bad_in s.programs (unwrap_or (running s) 0) given ≡ None
  pub begins : s.flow ≡ None → is_some given.program ≡ true

-- the flow can apply this answer, if a ticket is out
pub record MayAnswer (flow : DrivenState) (given : Given) : Type 0 where
  pub known : is_known_for flow.programs given.program ≡ true
  pub good : MayMake flow C → bad_in flow.programs (present_of flow) given ≡ None

-- the flow that the session has, if it has one, can apply this answer
abbrev pub MayAnswerIn : Option DrivenState → Given → Type 0
MayAnswerIn None given = Unit {0}
MayAnswerIn (Some flow) given = MayAnswer flow given

abbrev pub CanGoOn : SessionState → Given → Type 0
CanGoOn s given = MayAnswerIn s.flow given

-- the flow's state now has the same outcome as its first state, within `most` more letters
pub record IsOnWay (given : Given) (first now : DrivenState) : Type 0 where
  pub most : ℕ
  pub enough : left_of now ≤ most
  pub same : run_for most given now ≡ run_on given first
