-- A run on an input of its mode isn't refused, and one on any other bytes is.
use Rattle.std.proofs.Common.{◌≡◌, ◌≤◌, ◌<◌, ◌∙◌, inl, inr, ℕ, Bool, true, false, List, [], ◌++◌, length, Some, None, arith, ap, sym, subst, refl, append-nil, length-append}
use Rattle.ccp_base.specs.Outside.{Known, Rose, Takes, IsAtEnd, TakesOver}
use Rattle.run_ending.specs.declared.outcome.ModeOutput.{ModeOutput}
use Rattle.run_ending.specs.declared.outcome.Outcome.{Outcome}
use Rattle.run_ending.specs.declared.refusal.Refusal.{Refusal}
use Rattle.run_ending.specs.declared.status.Status.{Status}
use Rattle.run_ending.specs.declared.status.Status.TheVariants as status
use Rattle.run_ending.specs.Statuses.{status_number}
use Rattle.run_ending.specs.Streams.{StreamChange, HasInput}
use Rattle.ccp_run.specs.Attempts.{MakesOutput, RefusesBytes, RefusesAny}
use Rattle.ccp_run.specs.Complete.{EndsAs, IsNoInput, AnswersOrRefuses}
use Rattle.ccp_run.specs.Modes.{Task, limit_of, is_read, is_stream, is_answered, IsInput, IsMade, IsInputRefusal}
use Rattle.ccp_run.specs.Run.{EndsWith, IsRun, WritesAnyFront}
use Rattle.ccp_run.proofs.WorkerModes.{is_mode}

not_over : (limit : ℕ) (bytes : List ℕ) (old new : Known) → old ≡ Some bytes → length bytes ≤ limit → TakesOver limit old new → ⊥
not_over limit bytes old None is short over = let e : Some bytes ≡ None = sym is ∙ over.takes in cc
not_over limit bytes old (Some left) is short over =
    let e : Some bytes ≡ Some (over.taken ++ left) = sym is ∙ over.takes in
    let lists : bytes ≡ over.taken ++ left = cc in
    let more : limit < length over.taken = over.over in
    absurd (omega (arith, ap length lists, length-append over.taken left))

whole : (bytes taken : List ℕ) (old new : Known) → old ≡ Some bytes → Takes old new taken → IsAtEnd new → bytes ≡ taken
whole bytes taken old None is takes end = let e : Some bytes ≡ None = sym is ∙ takes in cc
whole bytes taken old (Some left) is takes end =
    let e : Some bytes ≡ Some (taken ++ left) = sym is ∙ takes in
    let lists : bytes ≡ taken ++ left = cc in
    let none : Some left ≡ Some [] = end in
    let empty : left ≡ [] = cc in
    lists ∙ ap (λ rest. taken ++ rest) empty ∙ append-nil taken

-- what was taken stands at the front
split : (bytes taken : List ℕ) (old new : Known) → old ≡ Some bytes → Takes old new taken → (left : List ℕ) × (bytes ≡ taken ++ left)
split bytes taken old None is takes = let e : Some bytes ≡ None = sym is ∙ takes in let bad : ⊥ = cc in absurd bad
split bytes taken old (Some left) is takes = let e : Some bytes ≡ Some (taken ++ left) = sym is ∙ takes in let lists : bytes ≡ taken ++ left = cc in (left, lists)

module _ (task : Task) (source : StreamChange) (bytes : List ℕ) (is : source.old ≡ Some bytes) where
  same_bytes : (taken : List ℕ) → HasInput true source taken → bytes ≡ taken
  same_bytes taken has = whole bytes taken source.old source.new is has.taken has.end

  not_refused_bytes : (refusal : Refusal) → IsInput task bytes → (r : RefusesBytes task source refusal) → (reads : Bool) → is_read task ≡ reads → HasInput reads source r.bytes → ⊥
  not_refused_bytes refusal input r true reads has =
      ((is_mode task).settled bytes).apart refusal input
      (subst (λ (b : List ℕ). IsInputRefusal task b refusal) (sym (same_bytes r.bytes has)) r.cause)
  not_refused_bytes refusal input r false reads has = (is_mode task).unread reads r.bytes refusal r.cause

  not_refused : (refusal : Refusal) → length bytes ≤ limit_of task → IsInput task bytes → (answers_early : Bool) → RefusesAny answers_early task source refusal → ⊥
  not_refused refusal short input true (inl early) =
      let parts = split bytes early.bytes source.old source.new is early.taken in
      ((is_mode task).settled bytes).apart refusal input
      (subst (λ (b : List ℕ). IsInputRefusal task b refusal) (sym parts.1) (early.cause parts.0))
  not_refused refusal short input true (inr r) = not_refused_bytes refusal input r (is_read task) refl r.read
  not_refused refusal short input false (inl long) = not_over (limit_of task) bytes source.old source.new is short long.over
  not_refused refusal short input false (inr r) = not_refused_bytes refusal input r (is_read task) refl r.read

  -- nothing is made of bytes that are past the limit, or that are refused
  not_made_of : (output : ModeOutput) → IsNoInput task bytes → (m : MakesOutput task source output) → (reads : Bool) → is_read task ≡ reads → HasInput reads source m.bytes → ⊥
  not_made_of output (inl long) m true reads has =
      let short = m.short in
      let over : limit_of task < length bytes = long.1 in
      absurd (omega (arith, short, over, ap length (same_bytes m.bytes has)))
  not_made_of output (inr refused) m true reads has =
      let settled = (is_mode task).settled bytes in
      settled.apart refused.0 (settled.made output (subst (λ (b : List ℕ). IsMade task b output) (sym (same_bytes m.bytes has)) m.made)) refused.1
  not_made_of output (inl long) m false reads has = let bad : ⊥ = let is_true : is_read task ≡ true = long.0 in cc in absurd bad
  not_made_of output (inr refused) m false reads has = (is_mode task).unread reads bytes refused.0 refused.1

  not_made : (output : ModeOutput) → IsNoInput task bytes → MakesOutput task source output → ⊥
  not_made output other m = not_made_of output other m (is_read task) refl m.read

module _ (task : Task) (source sink errors : StreamChange) (is_finished : Type 0) (outcome : Outcome) where
  answered : (bytes : List ℕ) → source.old ≡ Some bytes → length bytes ≤ limit_of task → IsInput task bytes
      → (Rose source.before source.now → ⊥) → (Rose sink.before sink.now → ⊥)
      → (end : Status) → outcome.status ≡ status_number end → EndsWith end task source sink errors is_finished outcome → EndsAs status.Done outcome
  answered bytes is short input no_read no_write status.Done e ended = inl e
  answered bytes is short input no_read no_write status.WordsRefused e ended = absurd ended
  answered bytes is short input no_read no_write status.InputRefused e ended =
      absurd (not_refused task source bytes is ended.refusal short input (is_stream task) ended.refused)
  answered bytes is short input no_read no_write status.ReadFailed e ended = absurd (no_read ended.rose)
  answered bytes is short input no_read no_write status.WriteFailed e ended = absurd (no_write ended.rose)
  answered bytes is short input no_read no_write (status.NoMemory _) e ended = inr e

  no_front : (bytes : List ℕ) → source.old ≡ Some bytes → IsNoInput task bytes → (is_answered task ≡ true → Rose sink.before sink.now → ⊥) → Rose sink.before sink.now
      → (answers_early : Bool) → is_answered task ≡ answers_early → WritesAnyFront answers_early task source sink → ⊥
  no_front bytes is other no_write rose true e front = no_write e rose
  no_front bytes is other no_write rose false e front = not_made task source bytes is front.output other front.made

  refuses : (bytes : List ℕ) → source.old ≡ Some bytes → IsNoInput task bytes → (Rose source.before source.now → ⊥)
      → (is_answered task ≡ true → Rose sink.before sink.now → ⊥)
      → (end : Status) → outcome.status ≡ status_number end → EndsWith end task source sink errors is_finished outcome → EndsAs status.InputRefused outcome
  refuses bytes is other no_read no_write status.Done e ended = absurd (not_made task source bytes is ended.output other ended.made)
  refuses bytes is other no_read no_write status.WordsRefused e ended = absurd ended
  refuses bytes is other no_read no_write status.InputRefused e ended = inl e
  refuses bytes is other no_read no_write status.ReadFailed e ended = absurd (no_read ended.rose)
  refuses bytes is other no_read no_write status.WriteFailed e ended =
      absurd (no_front bytes is other no_write ended.rose (is_answered task) refl ended.front)
  refuses bytes is other no_read no_write (status.NoMemory _) e ended = inr e

  -- a run is complete
  pub complete : IsRun task source sink errors is_finished outcome → AnswersOrRefuses task source sink outcome
  complete run = record {
    answered = λ bytes is short input no_read no_write. answered bytes is short input no_read no_write run.end run.numbered run.ended;
    refused = λ bytes is other no_read no_write. refuses bytes is other no_read no_write run.end run.numbered run.ended;
  }
