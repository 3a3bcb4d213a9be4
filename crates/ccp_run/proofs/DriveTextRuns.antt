-- The text of driven flows, from how their scenario was read and how their frames then ended.
use Rattle.std.proofs.Common.{◌≡◌, ◌≤◌, ◌⊎◌, inl, inr, ◌∙◌, ℕ, ◌-◌, Bool, true, Some, Result, Ok, Err, List, ◌++◌, length, arith, ap, sym, subst, length-append}
use Rattle.ccp_base.specs.Limits.{most_audit_bytes, most_cases}
use Rattle.ccp_base.specs.Outside.{Known, TakesWithin, IsAtEnd, Takes-append, no_memory}
use Rattle.ccp_words.specs.declared.mode.DriveText.{DriveText}
use Rattle.feed_core.specs.declared.ending.FeedEnd.{FeedEnd}
use Rattle.feed_core.specs.declared.ending.FeedEnd.TheVariants as ends
use Rattle.feed_core.specs.FeedEnds.{Stream, stream}
use Rattle.driven_flow.specs.Driven.{codes_of}
use Rattle.driven_flow.specs.Session.{SessionState, opening}
use Rattle.run_ending.specs.declared.outcome.ModeOutput.{ModeOutput}
use Rattle.run_ending.specs.declared.refusal.Limit.TheVariants.{Audit}
use Rattle.run_ending.specs.declared.refusal.Refusal.{Refusal}
use Rattle.run_ending.specs.declared.refusal.Refusal.TheVariants.{TooLong}
use Rattle.run_ending.specs.declared.stop.Stop.{Stop}
use Rattle.run_ending.specs.declared.stop.Stop.TheVariants as stop
use Rattle.run_ending.specs.Streams.{StreamChange}
use Rattle.ccp_run.specs.declared.drive_end.DriveEnd.TheVariants as drive
use Rattle.ccp_run.specs.declared.modes.drive.Opened.{Opened}
use Rattle.ccp_run.specs.Attempts.{RefusesAny}
use Rattle.ccp_run.specs.Drive.{IsDriven, drive_text}
use Rattle.ccp_run.specs.DriveInputs.{drive_refusal, driven_by, driven_flows}
use Rattle.ccp_run.specs.DriveEnds.{RefusesDrive, IsDriveEnd, IsSessionEnd, OpensDrive, end_at, end_in}
use Rattle.ccp_run.specs.DriveTexts.{AreOf, IsHeardOut, IsStreamAttempt, IsTextMade, MakesText, RefusesStream}
use Rattle.ccp_run.specs.Modes.{Task, Driven}
use Rattle.ccp_run.proofs.DriveRuns.{drive-ends, flows-are, input-is, within-none}
use Rattle.ccp_run.proofs.DriveSessions.{IsSessionOf, frames-hold, opening-holds}

module _ (text : DriveText) (wire : Bool) where
  abbrev pub task : Task
  task = Driven text wire

  abbrev pub change_of : Stream → StreamChange
  change_of s = record { old = s.old; new = s.new; before = s.before; now = s.now }

  -- ---- no scenario

  -- ---- frames

  module _ (source mid : Known) (rb rm : ℕ) (rest : List ℕ) (opened : Opened) (o : OpensDrive (stream source mid rb rm) rest opened) (new : Known) (rn : ℕ) (sink : Stream) (grown : rb ≤ rm) (grows : rm ≤ rn) where
    abbrev pub whole : StreamChange
    whole = change_of (stream source new rb rn)

    refuses : (refusal : Refusal) → RefusesDrive (stream source new rb rn) sink (Unit {0}) refusal → RefusesStream task whole refusal
    refuses refusal r = record {
      cause = cause r.cause;
      most = record { taken = r.bytes; takes = r.answered.taken; within = r.within };
      over = over r.over;
    }
      where
        cause : ((more : List ℕ) → drive_refusal (r.bytes ++ more) ≡ Some refusal) ⊎ (IsAtEnd new × (length r.bytes ≤ most_audit_bytes) × (drive_refusal r.bytes ≡ Some refusal)) → RefusesAny true task whole refusal
        cause (inl early) = inl (record { bytes = r.bytes; taken = r.answered.taken; cause = early })
        cause (inr at) = inr (record { bytes = r.bytes; read = record { taken = r.answered.taken; end = at.0 }; short = at.1; cause = at.2 })

        over : (length r.bytes ≤ most_audit_bytes) ⊎ (refusal ≡ TooLong Audit) → TakesWithin most_audit_bytes source new ⊎ (refusal ≡ TooLong Audit)
        over (inl few) = inl (record { taken = r.bytes; takes = r.answered.taken; within = few })
        over (inr long) = inr long

    stops : (why : Stop) → IsDriveEnd (stream source new rb rn) sink (Unit {0}) (end_at why) → IsStreamAttempt task whole (Err why)
    stops (stop.Refused refusal) r = refuses refusal r
    stops stop.ReadFailed f = record { rose = f.rose; taken = f.bytes; takes = f.answered.taken; within = f.within; goes_on = f.goes_on }
    stops (stop.NoMemory _) f = record { taken = f.front ++ f.rest; takes = f.taken; within = f.within }

    -- the output is the text of the flows at the end of the input
    makes : (output : ModeOutput) → MakesText text wire rest opened (stream mid new rm rn) sink output → IsStreamAttempt task whole (Ok output)
    makes output m =
        let there = m.whole.0 in
        let bytes : List ℕ = o.bytes ++ there.bytes in
        let flows : m.session.ended ≡ driven_flows bytes =
        ap (λ (s : SessionState). s.ended) (sym there.state_is) ∙ sym (flows-are source mid rb rm rest opened o there.bytes) in
        record {
          bytes = bytes;
          read = record { taken = Takes-append source mid new o.bytes there.bytes o.taken there.answered.taken; end = there.at_end };
          short = within-none source mid rb rm rest opened o new rn sink (Unit {0}) m.session grown grows there.bytes there.within;
          made = record {
            input = subst (IsDriven bytes) (sym m.kept) (input-is source mid rb rm rest opened o there.bytes there.end_is);
            written = m.written ∙ (λ i. drive_text text wire (sym m.kept i) (flows i));
            no_books = m.no_books;
            idle = m.idle;
          };
        }

    -- what is made of an input
    pub text-made : (made : Result ModeOutput Stop) → IsTextMade text wire rest opened (stream mid new rm rn) sink made → IsStreamAttempt task whole made
    text-made (Ok output) m = makes output m
    text-made (Err (stop.Refused refusal)) m =
        stops (stop.Refused refusal)
        (subst (IsDriveEnd (stream source new rb rn) sink (Unit {0})) m.stop_is (drive-ends source mid rb rm rest opened o new rn sink (Unit {0}) m.frames.0 grown grows m.end m.frames.1))
    text-made (Err stop.ReadFailed) m =
        stops stop.ReadFailed
        (subst (IsDriveEnd (stream source new rb rn) sink (Unit {0})) m.stop_is (drive-ends source mid rb rm rest opened o new rn sink (Unit {0}) m.frames.0 grown grows m.end m.frames.1))
    text-made (Err (stop.NoMemory no_memory)) m =
        let few = m.within in
        let eaten = o.eaten_is in
        let place = o.scene.place_is in
        let most = o.within in
        record {
          taken = o.bytes ++ m.taken;
          takes = Takes-append source mid new o.bytes m.taken o.taken m.takes;
          within = omega (arith, few, eaten, place, most, length-append o.bytes m.taken);
        }

  -- ---- the output of frames

  -- what holds of the session that stands after frames
  session-at : (before : List ℕ) (opened : Opened) (session : SessionState) (bytes : List ℕ)
      → (driven_by (opening (codes_of opened.programs) opened.cases) opened.place).state (before ++ bytes) ≡ session → IsSessionOf (codes_of opened.programs) (length opened.cases) session
  session-at before opened session bytes is =
      subst (IsSessionOf (codes_of opened.programs) (length opened.cases)) is
      (frames-hold (codes_of opened.programs) (length opened.cases) opened.place (opening (codes_of opened.programs) opened.cases) (before ++ bytes) (opening-holds (codes_of opened.programs) opened.cases))

  module _ (before : List ℕ) (opened : Opened) (source sink : Stream) (session : SessionState) where
    -- the frames ended before the text could be made
    pub unmade : (why : Stop) → IsHeardOut before opened.place (opening (codes_of opened.programs) opened.cases) session source sink (Err why) → IsTextMade text wire before opened source sink (Err why)
    unmade (stop.Refused refusal) h = record { end = h.0; stop_is = h.1; frames = (session, h.2) }
    unmade stop.ReadFailed h = record { end = h.0; stop_is = h.1; frames = (session, h.2) }
    unmade (stop.NoMemory _) h = go h.0 h.1 h.2
      where
        go : (end : FeedEnd) → end_in end ≡ drive.NoMemory no_memory → IsSessionEnd before opened.place (opening (codes_of opened.programs) opened.cases) session source sink (Unit {0}) end
            → TakesWithin (most_audit_bytes - opened.place - length before) source.old source.new
        go ends.Whole is f = let bad : ⊥ = cc in absurd bad
        go (ends.Bad field place) is f = let bad : ⊥ = cc in absurd bad
        go (ends.Cut place) is f = let bad : ⊥ = cc in absurd bad
        go ends.TooLong is f = let bad : ⊥ = cc in absurd bad
        go ends.ReadFailed is f = let bad : ⊥ = cc in absurd bad
        go ends.WriteFailed is f = let bad : ⊥ = cc in absurd bad
        go (ends.NoMemory no_memory) is f =
            let few = f.within in
            record { taken = f.bytes; takes = f.taken; within = omega (arith, few, ap length f.parts, length-append before f.bytes) }

    module _ (h : IsHeardOut before opened.place (opening (codes_of opened.programs) opened.cases) session source sink (Ok tt)) where
      -- the flows have the programs, and are no more than the cases
      pub flows-few : length opened.cases ≤ most_cases → length session.ended ≤ most_cases
      flows-few few =
          let all = session-at before opened session h.0.bytes h.0.state_is in
          let counted = all.counted in
          omega (arith, few, counted)

      pub flows-own : AreOf opened.programs session.ended
      flows-own k flow at = sym ((session-at before opened session h.0.bytes h.0.state_is).ended k flow at)
