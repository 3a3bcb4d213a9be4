-- How an input of `drive` begins: what is written and refused for its text, for the line `---` and for its scenario.
use Rattle.std.proofs.Common.{◌≡◌, ◌⊎◌, inl, inr, ◌∙◌, ℕ, ◌+◌, ◌-◌, ◌<◌, ◌≤◌, nat_lt, true, false, cond, Option, Some, None, Result, Ok, Err, List, [], ◌∷◌, ◌++◌, length, arith, ap, sym, subst, refl, append_assoc, append-nil, length-append}
use Rattle.std.specs.Prelude.{IfOk, IfErr}
use Rattle.std.proofs.lemmas.List.{nil_from_length}
use Rattle.std.proofs.lemmas.Option.{same_Some}
use Rattle.std.proofs.lemmas.Bool.Decides.{nat_tests}
use Rattle.ccp_base.specs.Limits.{most_input_bytes}
use Rattle.ccp_base.specs.Outside.{Takes, IsAtEnd, no_memory}
use Rattle.feed_core.specs.FeedEnds.{Stream}
use Rattle.driven_flow.specs.declared.front.FrontFault.{FrontFault}
use Rattle.driven_flow.specs.declared.front.FrontFault.TheVariants as fault
use Rattle.driven_flow.specs.Front.{divided, front_in, IsOverlong, IsDivided, IsFrontFault}
use Rattle.driven_flow.proofs.FrontLaws.{divided-at-separator, divided-at-first}
use Rattle.driven_flow.proofs.FrontLineLemmas.{divided-goes-on}
use Rattle.scene_members.specs.declared.mode.SceneMode.TheVariants.{Driven}
use Rattle.scene_faults.specs.declared.fault.SceneFault.{SceneFault}
use Rattle.scenario_json.specs.Scene.{Scene, scene_of}
use Rattle.run_ending.specs.declared.refusal.Limit.TheVariants.{Input}
use Rattle.run_ending.specs.declared.refusal.Refusal.{Refusal}
use Rattle.run_ending.specs.declared.refusal.Refusal.TheVariants as refusal
use Rattle.run_ending.specs.declared.stop.Stop.{Stop}
use Rattle.run_ending.specs.declared.stop.Stop.TheVariants as stop
use Rattle.ccp_run.specs.declared.modes.drive.Opened.{Opened}
use Rattle.ccp_run.specs.DriveEnds.{IsDrivenScene, IsOpened, OpensDrive, StopsOpening, front_stop}
use Rattle.ccp_run.specs.DriveInputs.{undivided, long, with_scene, beginning_at, beginning_of, written_in, drive_written, refusal_in, drive_refusal, IsOpenAt}
use Rattle.ccp_run.specs.Scenes.{StopsScene}

abbrev pub Parted : Type 0
Parted = Option (List ℕ × List ℕ)

-- ---- texts that are too long

-- nothing is written for the input, and it has this refusal
abbrev pub Refused : List ℕ → Refusal → Type 0
Refused bytes why = (drive_written bytes ≡ []) × (drive_refusal bytes ≡ Some why)

overlong-at : (bytes : List ℕ) (parted : Parted) → most_input_bytes < length (front_in bytes parted)
    → (written_in (beginning_at (length bytes) parted) ≡ []) × (refusal_in (length bytes) (beginning_at (length bytes) parted) ≡ Some (refusal.TooLong Input))
overlong-at bytes None over =
    let more : nat_lt most_input_bytes (length bytes) ≡ true = grind (arith, nat_tests, over) in
    (refl, ap (λ b. cond b (Some (refusal.TooLong Input)) (Some refusal.NoSeparator)) more)
overlong-at bytes (Some (text, rest)) over =
    let more : nat_lt most_input_bytes (length text) ≡ true = grind (arith, nat_tests, over) in
    let is : beginning_at (length bytes) (Some (text, rest)) ≡ long = ap (λ b. cond b long (with_scene (length bytes - length rest) rest (scene_of Driven text))) more in
    (ap written_in is, ap (refusal_in (length bytes)) is)

pub overlong : (bytes : List ℕ) → IsOverlong bytes → Refused bytes (refusal.TooLong Input)
overlong bytes over = overlong-at bytes (divided bytes) over

-- ---- texts without a line `---`

module _ (bytes : List ℕ) (none : divided bytes ≡ None) where
  pub undivided-there : beginning_of bytes ≡ undivided
  undivided-there = ap (beginning_at (length bytes)) none

  pub undivided-silent : drive_written bytes ≡ []
  undivided-silent = ap written_in undivided-there

  undivided-refused : length bytes ≤ most_input_bytes → drive_refusal bytes ≡ Some refusal.NoSeparator
  undivided-refused short =
      let few : nat_lt most_input_bytes (length bytes) ≡ false = grind (arith, nat_tests, short) in
      ap (refusal_in (length bytes)) undivided-there ∙ ap (λ b. cond b (Some (refusal.TooLong Input)) (Some refusal.NoSeparator)) few

-- ---- texts with one

module _ (bytes text rest : List ℕ) (place : ℕ) (is : divided bytes ≡ Some (text, rest)) (short : length text ≤ most_input_bytes) (eaten : place + length rest ≡ length bytes) where
  pub divided-there : (found : Result Scene SceneFault) → scene_of Driven text ≡ found → (more : List ℕ) → beginning_of (bytes ++ more) ≡ with_scene place (rest ++ more) found
  divided-there found said more =
      let size : ℕ = length (bytes ++ more) in
      let few : nat_lt most_input_bytes (length text) ≡ false = grind (arith, nat_tests, short) in
      let there : size - length (rest ++ more) ≡ place = omega (arith, eaten, length-append bytes more, length-append rest more) in
      ap (beginning_at size) (divided-goes-on bytes more text rest is)
      ∙ ap (λ b. cond b long (with_scene (size - length (rest ++ more)) (rest ++ more) (scene_of Driven text))) few
      ∙ (λ i. with_scene (there i) (rest ++ more) (said i))

  faulty-there : (fault : SceneFault) → scene_of Driven text ≡ Err fault → (more : List ℕ) → Refused (bytes ++ more) (refusal.Scene fault)
  faulty-there fault said more =
      let there = divided-there (Err fault) said more in
      (ap written_in there, ap (refusal_in (length (bytes ++ more))) there)

-- ---- the bytes up to a line `---`

-- the bytes up to the line feed of the line, with it, which divide whatever follows; without it they don't
pub record IsHead (bytes text rest : List ℕ) : Type 0 where
  pub front : List ℕ
  pub none : divided front ≡ None
  pub parts : bytes ≡ front ++ 10 ∷ rest
  pub goes : (more : List ℕ) → divided (front ++ 10 ∷ more) ≡ Some (text, more)

module _ (bytes text rest : List ℕ) (is : divided bytes ≡ Some (text, rest)) where
  pub head-of : IsHead bytes text rest
  head-of =
      let there = divided-at-separator bytes text rest is in
      let front : List ℕ = text ++ there.line in
      let parts : bytes ≡ front ++ 10 ∷ rest = there.whole in
      let first = divided-at-first (front ++ 10 ∷ []) text [] (record { line = there.line; separator = there.separator; whole = refl; ended = there.ended }) in
      record {
        front = front;
        none = open_front front parts (divided front) refl;
        parts = parts;
        goes = λ more.
            let one : (front ++ 10 ∷ []) ++ more ≡ front ++ 10 ∷ more = append_assoc front (10 ∷ []) more in
            sym (ap divided one)
            ∙ divided-goes-on (front ++ 10 ∷ []) more first.first first.rest first.divided_is
            ∙ (λ i. Some ((same front parts first.first first.rest first.divided_is).0 i, (same front parts first.first first.rest first.divided_is).1 i ++ more));
      }
    where
      -- what the head divides into is what the bytes divide into
      same : (front : List ℕ) → bytes ≡ front ++ 10 ∷ rest → (first left : List ℕ) → divided (front ++ 10 ∷ []) ≡ Some (first, left) → (first ≡ text) × (left ≡ [])
      same front parts first left at =
          let one : (front ++ 10 ∷ []) ++ rest ≡ bytes = append_assoc front (10 ∷ []) rest ∙ sym parts in
          let both : ◌≡◌ {A = List ℕ × List ℕ} (first, left ++ rest) (text, rest) = same_Some (first, left ++ rest) (text, rest) (sym (divided-goes-on (front ++ 10 ∷ []) rest first left at) ∙ ap divided one ∙ is) in
          let size : length left + length rest ≡ length rest = sym (length-append left rest) ∙ ap (λ (p : List ℕ × List ℕ). length p.1) both in
          (ap (λ (p : List ℕ × List ℕ). p.0) both, nil_from_length left (omega (arith, size)))

      open_front : (front : List ℕ) → bytes ≡ front ++ 10 ∷ rest → (parted : Parted) → divided front ≡ parted → divided front ≡ None
      open_front front parts None at = at
      open_front front parts (Some (first, left)) at =
          let both : ◌≡◌ {A = List ℕ × List ℕ} (first, left ++ 10 ∷ rest) (text, rest) = same_Some (first, left ++ 10 ∷ rest) (text, rest) (sym (divided-goes-on front (10 ∷ rest) first left at) ∙ ap divided (sym parts) ∙ is) in
          let size : length left + length (10 ∷ rest) ≡ length rest = sym (length-append left (10 ∷ rest)) ∙ ap (λ (p : List ℕ × List ℕ). length p.1) both in
          absurd (omega (arith, size))

-- ---- the reading of a scenario

module _ (source : Stream) where
  -- the text is too long, as the source ends there or whatever follows
  abbrev Long : List ℕ → Type 0
  Long bytes = (IsAtEnd source.new × IsOverlong bytes) ⊎ ((more : List ℕ) → IsOverlong (bytes ++ more))

  -- the text before the line `---` can't be had
  pub front-stops : (why : FrontFault) → IsFrontFault source why → StopsOpening source (front_stop why)
  front-stops fault.TooLong f = record {
    bytes = f.bytes;
    taken = f.taken;
    silent = silent f.long;
    within = f.few;
    cause = cause f.long;
  }
    where
      silent : Long f.bytes → drive_written f.bytes ≡ []
      silent (inl there) = (overlong f.bytes there.1).0
      silent (inr all) = (overlong f.bytes (subst IsOverlong (append-nil f.bytes) (all []))).0

      cause : Long f.bytes → ((more : List ℕ) → drive_refusal (f.bytes ++ more) ≡ Some (refusal.TooLong Input)) ⊎ (IsAtEnd source.new × (drive_refusal f.bytes ≡ Some (refusal.TooLong Input)))
      cause (inl there) = inr (there.0, (overlong f.bytes there.1).1)
      cause (inr all) = inl (λ more. (overlong (f.bytes ++ more) (all more)).1)
  front-stops fault.NoSeparator f = record {
    bytes = f.bytes;
    taken = f.taken;
    silent = undivided-silent f.bytes f.none;
    within = let short = f.within in omega (arith, short);
    cause = inr (f.at_end, undivided-refused f.bytes f.none f.within);
  }
  front-stops fault.ReadFailed f = record {
    bytes = f.bytes;
    taken = f.taken;
    silent = undivided-silent f.bytes f.not_over.none;
    within = f.few;
    rose = f.rose;
    goes_on = subst (IsOpenAt f.bytes) (sym (undivided-there f.bytes f.not_over.none)) f.not_over;
  }
  front-stops (fault.NoMemory _) f = record {
    front = f.front;
    rest = f.rest;
    taken = f.taken;
    within = f.few;
    silent = undivided-silent f.front f.none;
    kept = f.kept;
  }

  module _ (text rest : List ℕ) (eaten : ℕ) (at : IsDivided source text rest eaten) where
    -- the text is no scenario of driven flows
    pub scene-stops : (why : Stop) → StopsScene Driven text why → StopsOpening source why
    scene-stops (stop.Refused (refusal.Scene fault)) stops = record {
      bytes = at.bytes;
      taken = at.taken;
      silent =
          ap drive_written (sym (append-nil at.bytes))
          ∙ (faulty-there at.bytes text rest eaten at.divided_is at.within at.eaten_is fault stops []).0;
      within = at.few;
      cause = inl (λ more. (faulty-there at.bytes text rest eaten at.divided_is at.within at.eaten_is fault stops more).1);
    }
    scene-stops (stop.Refused (refusal.TooLong limit)) stops = absurd stops
    scene-stops (stop.Refused refusal.NoSeparator) stops = absurd stops
    scene-stops (stop.Refused (refusal.Program fault)) stops = absurd stops
    scene-stops (stop.Refused (refusal.Line n)) stops = absurd stops
    scene-stops (stop.Refused refusal.TooManyAcks) stops = absurd stops
    scene-stops (stop.Refused (refusal.Frame field place)) stops = absurd stops
    scene-stops (stop.Refused (refusal.FrameCut place)) stops = absurd stops
    scene-stops stop.ReadFailed stops = absurd stops
    scene-stops (stop.NoMemory no_memory) stops =
        let head = head-of at.bytes text rest at.divided_is in
        let few = at.few in
        let short = at.short in
        record {
          front = head.front;
          rest = 10 ∷ rest;
          taken = subst (Takes source.old source.new) head.parts at.taken;
          within = omega (arith, few, ap length head.parts);
          silent = undivided-silent head.front head.none;
          kept = omega (arith, short);
        }

    -- the scenario was read
    pub scene-opens : (opened : Opened) → IsDrivenScene text eaten opened → OpensDrive source rest opened
    scene-opens opened scene = record {
      bytes = at.bytes;
      taken = at.taken;
      text = text;
      divided_is = at.divided_is;
      short = at.within;
      place = eaten;
      eaten_is = at.eaten_is;
      few = at.short;
      within = at.few;
      scene = scene;
    }

    -- the scenario was read or not
    pub opens-or-stops : (result : Result Opened Stop) → IfOk result (IsDrivenScene text eaten) → IfErr result (StopsScene Driven text) → IsOpened source rest result
    opens-or-stops (Ok opened) ok err = scene-opens opened ok
    opens-or-stops (Err why) ok err = scene-stops why err
