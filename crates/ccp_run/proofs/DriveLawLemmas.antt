-- What more bytes behind an input of `drive` change.
use Rattle.std.proofs.Common.{◌≡◌, ℕ, ◌+◌, ◌-◌, Bool, true, false, nat_lt, Option, Some, None, Result, Ok, Err, List, [], ◌∷◌, ◌++◌, length, ap, sym, refl, ◌∙◌, arith, append_assoc, length-append}
use Rattle.std.specs.Prelude.{if◌then◌else◌}
use Rattle.std.proofs.lemmas.Bool.{ltb-false}
use Rattle.ccp_base.specs.Limits.{most_input_bytes, most_audit_bytes}
use Rattle.feed_core.specs.FeedBytes.{Tail, left, bad, Fed, answer_bytes, frames_from}
use Rattle.feed_core.specs.Answering.{end_from}
use Rattle.feed_core.specs.FrameLaws.{LeavesNothing}
use Rattle.feed_core.proofs.FrameLawLemmas.{answers-fronts, goes-on-after-frames}
use Rattle.driven_flow.specs.Front.{divided}
use Rattle.driven_flow.specs.Session.{SessionState, first_frame, hear, waits}
use Rattle.driven_flow.specs.AfterEnd.{refusals_from}
use Rattle.driven_flow.proofs.AfterEndLemmas.{refuses-after-end}
use Rattle.driven_flow.proofs.FrontLaws.{divided-at-separator}
use Rattle.driven_flow.proofs.FrontLineLemmas.{goes-further}
use Rattle.scene_members.specs.declared.mode.SceneMode.TheVariants.{Driven}
use Rattle.scene_faults.specs.declared.fault.SceneFault.{SceneFault}
use Rattle.scenario_json.specs.Scene.{Scene, scene_of}
use Rattle.run_ending.specs.declared.refusal.Refusal.{Refusal}
use Rattle.ccp_run.specs.DriveInputs.{Beginning, undivided, long, faulty, divided_at, with_scene, beginning_at, beginning_of, begun, written_in, drive_written, end_refusal, refusal_in, flows_in}
use Rattle.ccp_run.specs.DriveLaws.{DriveWritesFronts, AddsRefusalsAlone, DriveEndsForGood}

-- ---- more bytes behind an input

abbrev with_more : List ℕ → Beginning → Beginning
with_more more (divided_at scene place frames) = divided_at scene place (frames ++ more)
with_more more undivided = undivided
with_more more long = long
with_more more (faulty fault) = faulty fault

scene-more : (place : ℕ) (frames more : List ℕ) (read : Result Scene SceneFault) → with_scene place (frames ++ more) read ≡ with_more more (with_scene place frames read)
scene-more place frames more (Ok scene) = refl
scene-more place frames more (Err fault) = refl

text-more : (is_long : Bool) (place place' : ℕ) (frames more : List ℕ) (read : Result Scene SceneFault) → place' ≡ place
    → (if is_long then long else with_scene place' (frames ++ more) read) ≡ with_more more (if is_long then long else with_scene place frames read)
text-more true place place' frames more read same = refl
text-more false place place' frames more read same = ap (λ p. with_scene p (frames ++ more) read) same ∙ scene-more place frames more read

begins-more : (bytes more text frames : List ℕ) → divided bytes ≡ Some (text, frames) → beginning_of (bytes ++ more) ≡ with_more more (beginning_at (length bytes) (Some (text, frames)))
begins-more bytes more text frames is =
    let same : length (bytes ++ more) - length (frames ++ more) ≡ length bytes - length frames = omega (arith, length-append bytes more, length-append frames more) in
    ap (beginning_at (length (bytes ++ more))) (goes-further [] bytes more text frames is)
    ∙ text-more (nat_lt most_input_bytes (length text)) (length bytes - length frames) (length (bytes ++ more) - length (frames ++ more)) frames more (scene_of Driven text) same

-- ---- fronts

writes-front : (more : List ℕ) (beginning : Beginning) → (later : List ℕ) × (written_in (with_more more beginning) ≡ written_in beginning ++ later)
writes-front more (divided_at scene place frames) =
    let first : List ℕ = answer_bytes (first_frame (begun scene)) in
    let r = answers-fronts hear most_audit_bytes place (begun scene) frames more in
    (r.0, ap (λ xs. first ++ xs) r.1 ∙ sym (append_assoc first (frames_from hear most_audit_bytes place (begun scene) frames).answers r.0))
writes-front more undivided = ([], refl)
writes-front more long = ([], refl)
writes-front more (faulty fault) = ([], refl)

pub drive-writes-fronts : DriveWritesFronts
drive-writes-fronts bytes more = go (divided bytes) refl
  where
    go : (parted : Option (List ℕ × List ℕ)) → divided bytes ≡ parted → (later : List ℕ) × (drive_written (bytes ++ more) ≡ drive_written bytes ++ later)
    go None none =
        let silent : drive_written bytes ≡ [] = ap (λ (p : Option (List ℕ × List ℕ)). written_in (beginning_at (length bytes) p)) none in
        (drive_written (bytes ++ more), ap (λ xs. xs ++ drive_written (bytes ++ more)) (sym silent))
    go (Some (text, frames)) is =
        let r = writes-front more (beginning_at (length bytes) (Some (text, frames))) in (
          r.0,
          ap written_in (begins-more bytes more text frames is)
              ∙ r.1
              ∙ ap (λ (p : Option (List ℕ × List ℕ)). written_in (beginning_at (length bytes) p) ++ r.0) (sym is),
        )

-- ---- after a finished run

refused-not : (refusal : Refusal) → ◌≡◌ {A = Option Refusal} (Some refusal) None → ⊥
refused-not refusal is = cc

one-refused : (b : Bool) (first second : Refusal) → ◌≡◌ {A = Option Refusal} (if b then Some first else Some second) None → ⊥
one-refused true first second is = refused-not first is
one-refused false first second is = refused-not second is

-- an end that isn't refused
record IsWhole (tail : Tail) (waits longer : Bool) : Type 0 where
  pub nothing : LeavesNothing tail
  pub over : waits ≡ false
  pub within : longer ≡ false

whole-end : (tail : Tail) (waits longer : Bool) → end_refusal (end_from tail waits longer) ≡ None → IsWhole tail waits longer
whole-end (bad field place) waits longer is = absurd cc
whole-end (left place rest) waits true is = absurd cc
whole-end (left place (byte ∷ rest)) waits false is = absurd cc
whole-end (left place []) true false is = absurd cc
whole-end (left place []) false false is = record { nothing = tt; over = refl; within = refl }

-- more bytes behind a beginning of this many bytes add refusals alone
record AddsRefusals (size : ℕ) (more : List ℕ) (beginning : Beginning) : Type 0 where
  pub same : flows_in (with_more more beginning) ≡ flows_in beginning
  pub written : written_in (with_more more beginning) ≡ written_in beginning ++ refusals_from most_audit_bytes size more

scene-over : (size place : ℕ) (frames more : List ℕ) (scene : Scene) → place + length frames ≡ size → refusal_in size (divided_at scene place frames) ≡ None
    → AddsRefusals size more (divided_at scene place frames)
scene-over size place frames more scene ends is =
    let first : List ℕ = answer_bytes (first_frame (begun scene)) in
    let here : Fed SessionState = frames_from hear most_audit_bytes place (begun scene) frames in
    let whole = whole-end here.tail (waits here.state) (nat_lt (most_audit_bytes - place) (length frames)) is in
    let goes = goes-on-after-frames hear waits most_audit_bytes place (begun scene) frames more (ltb-false (most_audit_bytes - place) (length frames) whole.within) whole.nothing in
    let alone = refuses-after-end here.state whole.over most_audit_bytes (place + length frames) more in
    record {
      same = ap (λ (s : SessionState). s.ended) (goes.state ∙ alone.same);
      written =
          ap (λ xs. first ++ xs) (goes.written ∙ ap (λ xs. here.answers ++ xs) (alone.written ∙ ap (λ n. refusals_from most_audit_bytes n more) ends))
          ∙ sym (append_assoc first here.answers (refusals_from most_audit_bytes size more));
    }

read-over : (size place : ℕ) (frames more : List ℕ) (read : Result Scene SceneFault) → place + length frames ≡ size → refusal_in size (with_scene place frames read) ≡ None
    → AddsRefusals size more (with_scene place frames read)
read-over size place frames more (Ok scene) ends is = scene-over size place frames more scene ends is
read-over size place frames more (Err fault) ends is = absurd cc

text-over : (size place : ℕ) (frames more : List ℕ) (is_long : Bool) (read : Result Scene SceneFault) → place + length frames ≡ size
    → refusal_in size (if is_long then long else with_scene place frames read) ≡ None → AddsRefusals size more (if is_long then long else with_scene place frames read)
text-over size place frames more true read ends is = absurd cc
text-over size place frames more false read ends is = read-over size place frames more read ends is

pub drive-ends-for-good : DriveEndsForGood
drive-ends-for-good bytes more whole = go (divided bytes) refl
  where
    size : ℕ
    size = length bytes

    go : (parted : Option (List ℕ × List ℕ)) → divided bytes ≡ parted → AddsRefusalsAlone bytes more
    go None none =
        let is : refusal_in size undivided ≡ None = ap (λ (p : Option (List ℕ × List ℕ)). refusal_in size (beginning_at size p)) (sym none) ∙ whole in
        absurd (one-refused (nat_lt most_input_bytes size) _ _ is)
    go (Some (text, frames)) divided_is =
        let has = divided-at-separator bytes text frames divided_is in
        let parts : size ≡ length (text ++ has.line) + length (10 ∷ frames) = ap length has.whole ∙ length-append (text ++ has.line) (10 ∷ frames) in
        let ends : size - length frames + length frames ≡ size = omega (arith, parts) in
        let is : refusal_in size (beginning_at size (Some (text, frames))) ≡ None = ap (λ (p : Option (List ℕ × List ℕ)). refusal_in size (beginning_at size p)) (sym divided_is) ∙ whole in
        let adds = text-over size (size - length frames) frames more (nat_lt most_input_bytes (length text)) (scene_of Driven text) ends is in
        let begins = begins-more bytes more text frames divided_is in
        record {
          same = ap flows_in begins ∙ adds.same ∙ ap (λ (p : Option (List ℕ × List ℕ)). flows_in (beginning_at size p)) (sym divided_is);
          written =
              ap written_in begins
              ∙ adds.written
              ∙ ap (λ (p : Option (List ℕ × List ℕ)). written_in (beginning_at size p) ++ refusals_from most_audit_bytes size more) (sym divided_is);
        }
