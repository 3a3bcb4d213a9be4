-- A run of `drive`, from how its scenario was read and how its frames then ended.
use Rattle.std.proofs.Common.{◌≡◌, ◌⊎◌, inl, inr, ◌∙◌, ℕ, suc, ◌+◌, ◌-◌, ◌≤◌, Some, Ok, List, [], ◌∷◌, ◌++◌, length, map, slice_index_or, arith, ap, sym, subst, refl, append_assoc, append-nil, length-append}
use Rattle.std.specs.List.{All}
use Rattle.ccp_base.specs.Limits.{most_audit_bytes}
use Rattle.ccp_base.specs.Outside.{Known, Takes, IsAtEnd, Appends, AppendsPrefix, Takes-append, no_memory}
use Rattle.feed_core.specs.declared.ending.FeedEnd.{FeedEnd}
use Rattle.feed_core.specs.declared.ending.FeedEnd.TheVariants as ends
use Rattle.feed_core.specs.Answering.{Answering, after}
use Rattle.feed_core.specs.FeedEnds.{Stream, stream, AreHandedOn, AnswersInput, AllowsAnswered, MayGoOn}
use Rattle.feed_core.proofs.StreamEnds.{rose-late}
use Rattle.reg_compiler.specs.declared.built.Built.{Built}
use Rattle.reg_compiler.specs.Sources.{sources_of}
use Rattle.scene_core.specs.CasePlans.{plan_of}
use Rattle.scene_core.specs.CompiledPrograms.{AreCompiled}
use Rattle.scenario_json.specs.Scene.{Scene, scene_with}
use Rattle.driven_flow.specs.Driven.{ReadsAlike, codes_of}
use Rattle.driven_flow.specs.Front.{divided}
use Rattle.driven_flow.proofs.FrontLineLemmas.{divided-goes-on}
use Rattle.driven_flow.specs.Session.{SessionState, opening}
use Rattle.driven_flow.proofs.DrivenLiftLemmas.{reads-alike}
use Rattle.run_ending.specs.declared.refusal.Limit.TheVariants.{Audit}
use Rattle.run_ending.specs.declared.refusal.Refusal.{Refusal}
use Rattle.run_ending.specs.declared.refusal.Refusal.TheVariants.{TooLong, Frame}
use Rattle.run_ending.specs.declared.stop.Stop.{Stop}
use Rattle.run_ending.specs.declared.stop.Stop.TheVariants as stop
use Rattle.ccp_run.specs.declared.modes.drive.Opened.{Opened}
use Rattle.ccp_run.specs.Drive.{IsDriven}
use Rattle.ccp_run.specs.DriveEnds.{AnswersDrive, AllowsDrive, IsDriveEnd, OpensDrive, StopsOpening, IsSessionEnd, end_at, end_in}
use Rattle.ccp_run.specs.DriveInputs.{divided_at, beginning_of, codes_from, begun, driven_by, driving, written_in, drive_written, end_refusal, refusal_in, drive_refusal, IsOpenAt, IsOpenDrive, flows_in, driven_flows}
use Rattle.ccp_run.proofs.DriveFrames.{appends-nothing}
use Rattle.ccp_run.proofs.DriveFronts.{divided-there, head-of}
use Rattle.ccp_run.proofs.DriveSessions.{IsSessionOf, opening-holds, frames-hold}
use Rattle.ccp_run.proofs.PlannedLemmas.{planned_all}

-- ---- the codes of programs

codes-same : (programs : List (ℕ × Built)) → AreCompiled programs → codes_of programs ≡ codes_from (sources_of programs)
codes-same [] are = refl
codes-same (program ∷ rest) are =
    λ i. (program.0, (are 0 program (omega arith)).code i) ∷ codes-same rest (λ k d h. are (suc k) d (omega (arith, h))) i

-- ---- before the frames

module _ (source sink : Stream) (is_finished : Type 0) (same : sink.new ≡ sink.old) where
  unanswered : (bytes : List ℕ) → Takes source.old source.new bytes → drive_written bytes ≡ [] → AnswersDrive source sink is_finished bytes
  unanswered bytes taken silent = record {
    taken = taken;
    written = subst (Appends sink.old sink.new) (sym silent) (appends-nothing sink.old sink.new same);
    handed = inl silent;
  }

  -- a run that ends before its frames
  pub drive-stops : (why : Stop) → StopsOpening source why → IsDriveEnd source sink is_finished (end_at why)
  drive-stops (stop.Refused refusal) r =
      let few = r.within in
      record {
        bytes = r.bytes;
        answered = unanswered r.bytes r.taken r.silent;
        within = omega (arith, few);
        cause = cause r.cause;
        over = inl (omega (arith, few));
      }
    where
      cause : ((more : List ℕ) → drive_refusal (r.bytes ++ more) ≡ Some refusal) ⊎ (IsAtEnd source.new × (drive_refusal r.bytes ≡ Some refusal))
          → ((more : List ℕ) → drive_refusal (r.bytes ++ more) ≡ Some refusal) ⊎ (IsAtEnd source.new × (length r.bytes ≤ most_audit_bytes) × (drive_refusal r.bytes ≡ Some refusal))
      cause (inl early) = inl early
      cause (inr at) = inr (at.0, (let few = r.within in omega (arith, few)), at.1)
  drive-stops stop.ReadFailed f = record {
    bytes = f.bytes;
    answered = unanswered f.bytes f.taken f.silent;
    within = let few = f.within in omega (arith, few);
    rose = f.rose;
    goes_on = f.goes_on;
  }
  drive-stops (stop.NoMemory _) f = record {
    front = f.front;
    rest = f.rest;
    later = drive_written (f.front ++ f.rest);
    taken = f.taken;
    within = let few = f.within in omega (arith, few);
    written = subst (Appends sink.old sink.new) (sym f.silent) (appends-nothing sink.old sink.new same);
    handed = inl f.silent;
    begins = ap (λ w. w ++ drive_written (f.front ++ f.rest)) (sym f.silent);
    kept = f.kept;
  }

-- ---- the frames

module _ (source mid : Known) (rb rm : ℕ) (rest : List ℕ) (opened : Opened) (o : OpensDrive (stream source mid rb rm) rest opened) where
  abbrev pub scene : Scene
  scene = scene_with (sources_of opened.programs) (map plan_of o.scene.cases)

  abbrev pub session : SessionState
  session = opening (codes_of opened.programs) opened.cases

  begun-is : session ≡ begun scene
  begun-is =
      let cases : opened.cases ≡ _ = o.scene.driven_is ∙ sym (planned_all 0 o.scene.cases o.scene.scenario.flows) in
      λ i. opening (codes-same opened.programs o.scene.compiled i) (cases i)

  abbrev pub frames : Answering SessionState
  frames = driven_by session opened.place

  begins : (more : List ℕ) → beginning_of (o.bytes ++ more) ≡ divided_at scene opened.place (rest ++ more)
  begins more =
      divided-there o.bytes o.text rest o.place o.divided_is o.short o.eaten_is (Ok scene) o.scene.scenario.text more
      ∙ ap (λ place. divided_at scene place (rest ++ more)) (sym o.scene.place_is)

  drives : driving scene opened.place ≡ frames
  drives = ap (λ s. driven_by s opened.place) (sym begun-is)

  pub written-is : (more : List ℕ) → drive_written (o.bytes ++ more) ≡ frames.written (rest ++ more)
  written-is more = ap written_in (begins more) ∙ ap (λ (a : Answering SessionState). a.written (rest ++ more)) drives

  refusal-is : (more : List ℕ) → drive_refusal (o.bytes ++ more) ≡ end_refusal (frames.end (rest ++ more))
  refusal-is more = ap (refusal_in (length (o.bytes ++ more))) (begins more) ∙ ap (λ (a : Answering SessionState). end_refusal (a.end (rest ++ more))) drives

  pub flows-are : (more : List ℕ) → driven_flows (o.bytes ++ more) ≡ (frames.state (rest ++ more)).ended
  flows-are more = ap flows_in (begins more) ∙ ap (λ (a : Answering SessionState). (a.state (rest ++ more)).ended) drives

  opens : (more : List ℕ) → MayGoOn (frames.end (rest ++ more)) → IsOpenDrive (o.bytes ++ more)
  opens more goes =
      subst (IsOpenAt (o.bytes ++ more)) (sym (begins more)) (subst (λ (a : Answering SessionState). MayGoOn (a.end (rest ++ more))) (sym drives) goes)

  -- the flows of the session have the scenario's programs, and are no more than its cases
  pub session-of : (more : List ℕ) → IsSessionOf (codes_of opened.programs) (length opened.cases) (frames.state (rest ++ more))
  session-of more = frames-hold (codes_of opened.programs) (length opened.cases) opened.place session (rest ++ more) (opening-holds (codes_of opened.programs) opened.cases)

  few-bytes : opened.place + length rest ≤ most_audit_bytes
  few-bytes =
      let eaten = o.eaten_is in
      let place = o.scene.place_is in
      let few = o.within in
      omega (arith, eaten, place, few)

  pub input-is : (more : List ℕ) → frames.end (rest ++ more) ≡ ends.Whole → IsDriven (o.bytes ++ more) opened.programs
  input-is more whole = record {
    whole = refusal-is more ∙ ap end_refusal whole;
    text = o.text;
    frames = rest ++ more;
    at_line = divided-goes-on o.bytes more o.text rest o.divided_is;
    cases = o.scene.cases;
    scenario = o.scene.scenario;
    compiled = o.scene.compiled;
    alike = subst (All (ReadsAlike opened.programs)) (sym (flows-are more)) (λ k flow at. reads-alike (slice_index_or (frames.state (rest ++ more)).ended k flow) opened.programs (sym ((session-of more).ended k flow at)));
  }

  -- where a read of its frames is allowed
  pub allowed-frames : {D : Type 0} (remaining written : D → Known) (is_finished : D → Type 0) (Follows : D → D → Type 0) (MayRead : D → Type 0) (old now : D)
      → ((first middle last : D) → Follows first middle → Follows middle last → Follows first last)
      → remaining old ≡ source → remaining now ≡ mid → AllowsDrive remaining written is_finished Follows MayRead old
      → Follows old now → written now ≡ written old → (is_finished old → is_finished now)
      → AllowsAnswered (after rest frames) remaining written is_finished Follows MayRead now
  allowed-frames remaining written is_finished Follows MayRead old now on first middle allowed follows same kept later taken goes takes appends done stays =
      let all = written-is taken in
      let takes_first : Takes (remaining old) (remaining now) o.bytes = subst (λ k. Takes k (remaining now) o.bytes) (sym first) (subst (λ k. Takes source k o.bytes) (sym middle) o.taken) in
      allowed later (o.bytes ++ taken) (on old now later follows goes)
      (Takes-append (remaining old) (remaining now) (remaining later) o.bytes taken takes_first takes)
      (subst (Appends (written old) (written later)) (sym all) (subst (λ k. Appends k (written later) (frames.written (rest ++ taken))) same appends))
      (subst (λ w. AreHandedOn w (is_finished later)) (sym all) done)
      (λ was. stays (kept was))

  module _ (new : Known) (rn : ℕ) (sink : Stream) (is_finished : Type 0) (state : SessionState) (grown : rb ≤ rm) (grows : rm ≤ rn) where
    abbrev pub whole_source : Stream
    whole_source = stream source new rb rn

    abbrev pub Frames : FeedEnd → Type 0
    Frames end = IsSessionEnd rest opened.place session state (stream mid new rm rn) sink is_finished end

    answers : (bytes : List ℕ) → AnswersInput (after rest frames) (stream mid new rm rn) sink is_finished bytes → AnswersDrive whole_source sink is_finished (o.bytes ++ bytes)
    answers bytes x = record {
      taken = Takes-append source mid new o.bytes bytes o.taken x.taken;
      written = subst (Appends sink.old sink.new) (sym (written-is bytes)) x.written;
      handed = subst (λ w. AreHandedOn w is_finished) (sym (written-is bytes)) x.handed;
    }

    within : (bytes : List ℕ) (most : ℕ) → length bytes ≤ most_audit_bytes - opened.place - length rest + most → length (o.bytes ++ bytes) ≤ most_audit_bytes + most
    within bytes most few =
        let eaten = o.eaten_is in
        let place = o.scene.place_is in
        omega (arith, few, eaten, place, few-bytes, length-append o.bytes bytes)

    pub within-none : (bytes : List ℕ) → length bytes ≤ most_audit_bytes - opened.place - length rest → length (o.bytes ++ bytes) ≤ most_audit_bytes
    within-none bytes few = let all = within bytes 0 (omega (arith, few)) in omega (arith, all)

    refused : (bytes : List ℕ) (frames_end : FeedEnd) (refusal : Refusal) → end_refusal frames_end ≡ Some refusal → ((more : List ℕ) → frames.end (rest ++ (bytes ++ more)) ≡ frames_end)
        → (more : List ℕ) → drive_refusal ((o.bytes ++ bytes) ++ more) ≡ Some refusal
    refused bytes frames_end refusal is all more =
        ap drive_refusal (append_assoc o.bytes bytes more) ∙ refusal-is (bytes ++ more) ∙ ap end_refusal (all more) ∙ is

    -- how the run ends
    pub drive-ends : (frames_end : FeedEnd) → Frames frames_end → IsDriveEnd whole_source sink is_finished (end_in frames_end)
    drive-ends ends.Whole (there, finished) = record {
      bytes = o.bytes ++ there.bytes;
      answered = answers there.bytes there.answered;
      at_end = there.at_end;
      within = within-none there.bytes there.within;
      programs = opened.programs;
      input = input-is there.bytes there.end_is;
      finished = finished;
    }
    drive-ends (ends.Bad field place) f = record {
      bytes = o.bytes ++ f.bytes;
      answered = answers f.bytes f.answered;
      within = let few = within-none f.bytes f.within in omega (arith, few);
      cause = inl (refused f.bytes (ends.Bad field place) (Frame field place) refl f.end_is);
      over = inl (within-none f.bytes f.within);
    }
    drive-ends (ends.Cut place) there = record {
      bytes = o.bytes ++ there.bytes;
      answered = answers there.bytes there.answered;
      within = let few = within-none there.bytes there.within in omega (arith, few);
      cause = inr (there.at_end, within-none there.bytes there.within, refusal-is there.bytes ∙ ap end_refusal there.end_is);
      over = inl (within-none there.bytes there.within);
    }
    drive-ends ends.TooLong f = record {
      bytes = o.bytes ++ f.bytes;
      answered = answers f.bytes f.answered;
      within = within f.bytes 1 f.within;
      cause = inl (refused f.bytes ends.TooLong (TooLong Audit) refl f.end_is);
      over = inr refl;
    }
    drive-ends ends.ReadFailed f = record {
      bytes = o.bytes ++ f.bytes;
      answered = answers f.bytes f.answered;
      within = within-none f.bytes f.within;
      rose = rose-late rb rm rn grown f.rose grows;
      goes_on = opens f.bytes f.goes_on;
    }
    drive-ends ends.WriteFailed f = record {
      bytes = o.bytes ++ f.bytes;
      taken = Takes-append source mid new o.bytes f.bytes o.taken f.taken;
      within = within-none f.bytes f.within;
      rose = f.rose;
      front = subst (AppendsPrefix sink.old sink.new) (sym (written-is f.bytes)) f.front;
    }
    drive-ends (ends.NoMemory no_memory) f =
        let head = head-of o.bytes o.text rest o.divided_is in
        let front : List ℕ = head.front ++ 10 ∷ f.front in
        let parts : o.bytes ++ f.bytes ≡ front ++ f.rest =
        ap (λ xs. xs ++ f.bytes) head.parts ∙ append_assoc head.front (10 ∷ rest) f.bytes ∙ ap (λ xs. head.front ++ 10 ∷ xs) f.parts ∙ sym (append_assoc head.front (10 ∷ f.front) f.rest) in
        let written : drive_written front ≡ frames.written f.front = written-at f.front front (head.goes f.front) (length head.front) (ap length head.parts ∙ length-append head.front (10 ∷ rest)) (length-append head.front (10 ∷ f.front)) in
        let all : drive_written (front ++ f.rest) ≡ frames.written (f.front ++ f.rest) = ap drive_written (sym parts) ∙ written-is f.bytes ∙ ap frames.written f.parts in
        record {
          front = front;
          rest = f.rest;
          later = f.later;
          taken = subst (Takes source new) parts (Takes-append source mid new o.bytes f.bytes o.taken f.taken);
          within =
              let few = f.within in
              let eaten = o.eaten_is in
              let place = o.scene.place_is in
              omega (arith, few, eaten, place, few-bytes, sym (ap length parts), length-append o.bytes f.bytes, ap length f.parts, length-append rest f.bytes);
          written = subst (Appends sink.old sink.new) (sym written) f.written;
          handed = subst (λ w. AreHandedOn w is_finished) (sym written) f.handed;
          begins = all ∙ f.begins ∙ ap (λ w. w ++ f.later) (sym written);
          kept = f.kept;
        }
      where
        -- what is written for a front that ends behind the line `---`
        written-at : (some front : List ℕ) → divided front ≡ Some (o.text, some) → (size : ℕ) → length o.bytes ≡ size + length (10 ∷ rest) → length front ≡ size + length (10 ∷ some) → drive_written front ≡ frames.written some
        written-at some front is size long short =
            let eaten = o.eaten_is in
            let there = divided-there front o.text some o.place is o.short (omega (arith, eaten, long, short)) (Ok scene) o.scene.scenario.text [] in
            ap drive_written (sym (append-nil front))
            ∙ ap written_in (there ∙ (λ i. divided_at scene (sym o.scene.place_is i) (append-nil some i)))
            ∙ ap (λ (a : Answering SessionState). a.written some) drives
