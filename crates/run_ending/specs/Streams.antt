-- What was read from a source, and what was written to a sink.
use Rattle.std.specs.Prelude.{◌≡◌, ℕ, Bool, true, false, List, []}
use Rattle.ccp_base.specs.Outside.{Known, Rose, Takes, IsAtEnd, Appends, AppendsPrefix}

-- a source or a sink over a run: the bytes that it has left, or was given, before and after, and how many of its calls
-- had failed before and after
pub record StreamChange : Type 0 where
  pub old : Known
  pub new : Known
  pub before : ℕ
  pub now : ℕ

-- what a call did to a source or a sink: its bytes, and its count of faults, before and after
abbrev pub stream_change : {X : Type 0} → (X → Known) → (X → ℕ) → X → X → StreamChange
stream_change bytes faults old new = record { old = bytes old; new = bytes new; before = faults old; now = faults new }

-- the source was read to its end, and had these bytes
pub record ReadsToEnd (source : StreamChange) (bytes : List ℕ) : Type 0 where
  pub taken : Takes source.old source.new bytes
  pub end : IsAtEnd source.new

-- no call was made: the bytes and the count of faults are as they were
pub record IsUntouched (stream : StreamChange) : Type 0 where
  pub bytes : stream.new ≡ stream.old
  pub faults : stream.now ≡ stream.before

-- nothing is read of a source that isn't used
pub record IsUnused (source : StreamChange) (bytes : List ℕ) : Type 0 where
  pub none : bytes ≡ []
  pub same : IsUntouched source

-- a source that isn't read is as it was
abbrev pub IsLeft : Bool → StreamChange → Type 0
IsLeft true source = Unit {0}
IsLeft false source = IsUntouched source

-- these are the bytes of the input, if it says whether there is one
abbrev pub HasInput : Bool → StreamChange → List ℕ → Type 0
HasInput true source bytes = ReadsToEnd source bytes
HasInput false source bytes = IsUnused source bytes

-- the line was put at the end of what was written, or a front of it if the count of faults rose
pub record Tells (errors : StreamChange) (line : List ℕ) : Type 0 where
  pub front : AppendsPrefix errors.old errors.new line
  pub whole : (Rose errors.before errors.now → ⊥) → Appends errors.old errors.new line
