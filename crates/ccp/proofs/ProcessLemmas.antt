-- What the process does, from the words that came or why there are none.
use Rattle.std.proofs.Common.{◌≡◌, ◌∙◌, ℕ, Option, Result, Ok, Err, List, inl, inr, subst}
use Rattle.std.specs.Prelude.{map, String, string_bytes}
use Rattle.std.specs.declared.io.Error.{Error}
use Rattle.run_ending.specs.declared.outcome.Outcome.{Outcome}
use Rattle.run_ending.specs.declared.status.Status.{Status}
use Rattle.run_ending.specs.Endings.{Ends}
use Rattle.run_ending.specs.Streams.{StreamChange}
use Rattle.ccp.specs.declared.words.WordsFault.{WordsFault}
use Rattle.ccp.specs.Process.{IsExit, Reports, ReportsFault, EndsWithout, IsProcess}
use Rattle.ccp.specs.Words.{AreWords, IsCause}

-- an end without a run is reported, and is the status of the process
pub reports : (errors : StreamChange) (outcome : Outcome) (end : Status) (line : List ℕ) (number : ℕ) → Ends errors outcome end line → number ≡ outcome.status → Reports end line errors number
reports errors outcome end line number ends is = record { is = is ∙ ends.status; told = ends.told }

-- the words came, and the tool ran on them
pub ran : {I Z : Type 0} (next : I → Option (String Z) → I → Type 0) (source sink errors : StreamChange) (is_finished : Type 0) (number : ℕ) (given : Result I Error) (words : List (String Z))
    → AreWords next given words → IsExit (map string_bytes words) source sink errors is_finished number → IsProcess next given source sink errors is_finished number
ran next source sink errors is_finished number (Ok given) words all exit = inl (record { words = words; all = all; exit = exit })
ran next source sink errors is_finished number (Err error) words all exit = absurd all

-- why there are no words was reported, and nothing was read or written
without : (fault : WordsFault) (source sink errors : StreamChange) (number : ℕ) → ReportsFault fault errors number
    → source.new ≡ source.old → source.now ≡ source.before → sink.new ≡ sink.old → sink.now ≡ sink.before
    → EndsWithout fault source sink errors number
without fault source sink errors number reported unread read_faults unwritten write_faults = record {
  unread = record { bytes = unread; faults = read_faults };
  unwritten = record { bytes = unwritten; faults = write_faults };
  reported = reported;
}

-- there are no words
pub ended : {I Z : Type 0} (next : I → Option (String Z) → I → Type 0) (source sink errors : StreamChange) (is_finished : Type 0) (number : ℕ) (given : Result I Error) (fault : WordsFault)
    → IsCause given fault → ReportsFault fault errors number
    → source.new ≡ source.old → source.now ≡ source.before → sink.new ≡ sink.old → sink.now ≡ sink.before
    → IsProcess next given source sink errors is_finished number
ended next source sink errors is_finished number (Ok given) fault cause reported unread read_faults unwritten write_faults =
    inr (subst (λ (f : WordsFault). EndsWithout f source sink errors number) cause (without fault source sink errors number reported unread read_faults unwritten write_faults))
ended next source sink errors is_finished number (Err error) fault cause reported unread read_faults unwritten write_faults =
    subst (λ (f : WordsFault). EndsWithout f source sink errors number) cause (without fault source sink errors number reported unread read_faults unwritten write_faults)
