-- What holds of every session: frames after the end, refused frames, the programs, and the reading over the sources.
use Rattle.std.specs.Prelude.{◌≡◌, ℕ, false, Some, IfSome, List}
use Rattle.std.specs.List.{AllByRecursion}
use Rattle.ccp_base.specs.FieldReg.{Pair}
use Rattle.reply_frames.specs.declared.outline.Version.{Version}
use Rattle.ccp_messages.specs.declared.message.Message.{Message}
use Rattle.ccp_messages.specs.declared.message.Message.TheVariants.{Update, Change, Refused}
use Rattle.ccp_messages.specs.declared.reason.Reason.TheVariants.{NoFlow}
use Rattle.feed_core.specs.Feed.{Answer}
use Rattle.driven_flow.specs.Driven.{DrivenState, ReadsAsSources}
use Rattle.driven_flow.specs.Session.{SessionState, waits, hear}

-- after all flows are at their end a frame changes nothing, and each Update and Change is refused in its own version
-- since no flow waits
pub record StaysEnded (s : SessionState) : Type 0 where
  pub same : (message : Message) (version : Version) → (hear s message version).1 ≡ s
  pub update : (flow : ℕ) (values : List Pair) (version : Version)
      → (hear s (Update flow values) version).0 ≡ Some (Refused flow NoFlow 0, version)
  pub change : (flow program : ℕ) (values : List Pair) (version : Version)
      → (hear s (Change flow program values) version).0 ≡ Some (Refused flow NoFlow 0, version)

abbrev pub EndsForGood : Type 0
EndsForGood = (s : SessionState) → waits s ≡ false → StaysEnded s

-- no frame changes the programs
abbrev pub KeepsPrograms : Type 0
KeepsPrograms = (s : SessionState) (message : Message) (version : Version) → (hear s message version).1.programs ≡ s.programs

-- each flow of the session has the programs of the session
abbrev pub HasOwnPrograms : SessionState → Type 0
HasOwnPrograms s =
    AllByRecursion (λ (flow : DrivenState). flow.programs ≡ s.programs) s.ended
    × IfSome s.flow (λ (flow : DrivenState). flow.programs ≡ s.programs)

-- frames leave each flow with the programs of the session
abbrev pub FlowsKeepPrograms : Type 0
FlowsKeepPrograms =
    (s : SessionState) (message : Message) (version : Version)
    → HasOwnPrograms s → HasOwnPrograms (hear s message version).1

-- the answer refuses a frame
abbrev pub Refuses : Answer → Type 0
Refuses (Some (Refused flow reason index, version)) = Unit {0}
Refuses _ = ⊥

-- a frame that is refused changes nothing
abbrev pub RefusesWithoutChange : Type 0
RefusesWithoutChange =
    (s : SessionState) (message : Message) (version : Version)
    → Refuses (hear s message version).0
    → (hear s message version).1 ≡ s

-- over the sources of its programs each flow reads alike
abbrev pub AllReadAlike : SessionState → Type 0
AllReadAlike s = AllByRecursion ReadsAsSources s.ended × IfSome s.flow ReadsAsSources
