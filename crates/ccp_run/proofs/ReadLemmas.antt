-- The result of a task, from how its source was read and what the bytes give.
use Rattle.std.proofs.Common.{◌≡◌, ℕ, Bool, true, false, Result, Ok, Err, List, inl, inr, refl, subst, sym}
use Rattle.ccp_base.specs.Outside.{no_memory}
use Rattle.ccp_words.specs.declared.mode.Alone.{Alone as AloneMode}
use Rattle.ccp_words.specs.declared.mode.Alone.TheVariants.{Check, Fold, Feed, Audit, Drive}
use Rattle.run_ending.specs.declared.outcome.ModeOutput.{ModeOutput}
use Rattle.run_ending.specs.declared.refusal.Limit.{Limit}
use Rattle.run_ending.specs.declared.stop.Stop.{Stop}
use Rattle.run_ending.specs.declared.stop.Stop.TheVariants as stop
use Rattle.run_ending.specs.Streams.{StreamChange, ReadsToEnd, HasInput}
use Rattle.ccp_run.specs.Attempts.{IsOutputOrRefusal, IsAttempt, IsReadWithin}
use Rattle.ccp_run.specs.Modes.{Task, Alone, limit_in, is_read}
use Rattle.ccp_run.proofs.RunLemmas.{is_left}

has_input : (read : Bool) (source : StreamChange) (bytes : List ℕ) → read ≡ true → ReadsToEnd source bytes → HasInput read source bytes
has_input true source bytes reads r = r
has_input false source bytes reads r = let bad : ⊥ = cc in absurd bad

-- the source wasn't read to its end
unread : (task : Task) (source : StreamChange) (why : Stop) → is_read task ≡ true → IsReadWithin (limit_in task) source (Err why) → IsAttempt task source (Err why)
unread task source (stop.Refused refusal) reads r = inl (record { reads = reads; over = r.0; most = r.1; cause = r.2 })
unread task source stop.ReadFailed reads r = record { reads = reads; rose = r.0; within = r.1 }
unread task source (stop.NoMemory _) reads r = record { left = is_left (is_read task) source reads; within = r }

pub not_read : (task : Task) (limit : Limit) (source : StreamChange) (why : Stop) → is_read task ≡ true → limit_in task ≡ limit
    → IsReadWithin limit source (Err why) → IsAttempt task source (Err why)
not_read task limit source why reads is r = unread task source why reads (subst (λ (l : Limit). IsReadWithin l source (Err why)) (sym is) r)

-- the source was read to its end
told : (task : Task) (source : StreamChange) (bytes : List ℕ) (made : Result ModeOutput Stop) → is_read task ≡ true
    → IsReadWithin (limit_in task) source (Ok bytes) → IsOutputOrRefusal task bytes made → IsAttempt task source made
told task source bytes (Ok output) reads r made = record { bytes = bytes; read = has_input (is_read task) source bytes reads r.0; short = r.1; made = made }
told task source bytes (Err (stop.Refused refusal)) reads r made =
    inr (record { bytes = bytes; read = has_input (is_read task) source bytes reads r.0; short = r.1; cause = made })
told task source bytes (Err stop.ReadFailed) reads r made = absurd made
told task source bytes (Err (stop.NoMemory no_memory)) reads r made =
    record { left = is_left (is_read task) source reads; within = record { taken = bytes; takes = r.0.taken; within = r.1 } }

pub answered : (task : Task) (limit : Limit) (source : StreamChange) (bytes : List ℕ) (made : Result ModeOutput Stop) → is_read task ≡ true → limit_in task ≡ limit
    → IsReadWithin limit source (Ok bytes) → IsOutputOrRefusal task bytes made → IsAttempt task source made
answered task limit source bytes made reads is r =
    told task source bytes made reads (subst (λ (l : Limit). IsReadWithin l source (Ok bytes)) (sym is) r)

-- ---- modes whose work is done by their caller alone

reads_alone : (mode : AloneMode) → is_read (Alone mode) ≡ true
reads_alone Check = refl
reads_alone Fold = refl
reads_alone Feed = refl
reads_alone Audit = refl
reads_alone Drive = refl

pub alone_unread : (mode : AloneMode) (limit : Limit) (source : StreamChange) (why : Stop) → limit ≡ limit_in (Alone mode)
    → IsReadWithin limit source (Err why) → IsAttempt (Alone mode) source (Err why)
alone_unread mode limit source why is = not_read (Alone mode) limit source why (reads_alone mode) (sym is)

pub alone_answered : (mode : AloneMode) (limit : Limit) (source : StreamChange) (bytes : List ℕ) (made : Result ModeOutput Stop) → limit ≡ limit_in (Alone mode)
    → IsReadWithin limit source (Ok bytes) → IsOutputOrRefusal (Alone mode) bytes made → IsAttempt (Alone mode) source made
alone_answered mode limit source bytes made is = answered (Alone mode) limit source bytes made (reads_alone mode) (sym is)
