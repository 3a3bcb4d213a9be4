-- The modes that their caller does alone have what the theorem asks of a mode.
use Rattle.std.proofs.Common.{◌≡◌, ◌≢◌, ◌≤◌, ◌<◌, ◌∙◌, ◌⊎◌, inl, inr, leb, arith, ℕ, ◌+◌, Bool, true, false, nat_lt, cond, refl, List, [], ◌∷◌, ◌++◌, length, Option, Some, None, option_map, Result, Ok, Err, ap, true≢false}
use Rattle.std.proofs.lemmas.Bool.{cases_lt}
use Rattle.ccp_base.specs.declared.ack.Ack.{Ack}
use Rattle.ccp_base.specs.declared.parts.Separator.TheVariants.{LineFeed}
use Rattle.ccp_base.specs.Limits.{most_acks, most_input_bytes}
use Rattle.ccp_base.specs.Parts.{parts_of, without_last}
use Rattle.std.proofs.lemmas.Bool.Decides.{nat_tests}
use Rattle.ccp_base.specs.Outside.{no_memory}
use Rattle.feed_core.proofs.FeedBegins.{no-answers}
use Rattle.scene_faults.specs.declared.fault.SceneFault.{SceneFault}
use Rattle.scene_members.specs.declared.mode.SceneMode.TheVariants as scene
use Rattle.scenario_json.specs.Scene.{Scene, scene_of}
use Rattle.portus_core.specs.Programs.{Form}
use Rattle.portus_core.specs.ProgramForm.{form_of}
use Rattle.portus_build.specs.declared.fault.BuildFault.{BuildFault}
use Rattle.portus_build.specs.Texts.{IsBuiltFrom, IsNoProgram}
use Rattle.portus_build.proofs.SettledTexts.{settled_text}
use Rattle.ccp_words.specs.declared.mode.Alone.{Alone as AloneMode}
use Rattle.ccp_words.specs.declared.mode.Alone.TheVariants as mode
use Rattle.run_ending.specs.declared.refusal.Limit.TheVariants.{Input, Audit}
use Rattle.run_ending.specs.declared.refusal.Refusal.{Refusal}
use Rattle.run_ending.specs.declared.refusal.Refusal.TheVariants.{TooLong, NoSeparator, Program, Line, TooManyAcks, Scene as SceneRefused, Frame, FrameCut}
use Rattle.run_ending.specs.ErrorLine.{most_bytes}
use Rattle.ccp_run.specs.Modes.{Alone, IsInput, rules_of}
use Rattle.fold_run.specs.AckLine.{AckLine, read_ack_line}
use Rattle.fold_run.specs.AckLine as said
use Rattle.fold_run.specs.declared.acks.LineFault.{LineFault}
use Rattle.fold_run.specs.declared.acks.LineFault.TheVariants as lines
use Rattle.fold_run.specs.Acknowledgements.{with_line, with_lines}
use Rattle.fold_run.specs.Separated.{Cut, cut_of}
use Rattle.feed_core.specs.declared.ending.FeedEnd.{FeedEnd}
use Rattle.feed_core.specs.declared.ending.FeedEnd.TheVariants as ends
use Rattle.feed_core.specs.FeedBytes.{Tail, feed_of}
use Rattle.feed_core.specs.FeedBytes as feeds
use Rattle.feed_core.specs.Answering.{end_from}
use Rattle.feed_core.specs.FeedEnds.{feed_end}
use Rattle.ccp_run.specs.Check.{IsProgramText, IsCheckOutput, IsNoCheck, check_rules}
use Rattle.ccp_run.specs.FeedRuns.{IsNoFeed, feed_rules}
use Rattle.ccp_run.specs.Fold.{acks_below, IsFoldInput, IsFoldOutput, IsNoFold, fold_rules}
use Rattle.ccp_run.specs.AuditRuns.{IsAuditCut, IsAuditInput, IsAuditOutput, IsNoAudit, audit_rules}
use Rattle.ccp_run.specs.Settled.{IsInputSettled}
use Rattle.ccp_run.proofs.DriveModes.{drive_mode}
use Rattle.ccp_run.proofs.ModeLaws.{IsMode, reads_to_end, settled_by}
use Rattle.ccp_run.proofs.ScenarioInputs.{refusal_in}

-- ---- texts of programs

-- what is settled of a text: its program, or its fault
abbrev Settles : List ℕ → Type 0
Settles text = ((form : Form) × IsBuiltFrom text form) ⊎ ((fault : BuildFault) × IsNoProgram text fault)

abbrev settled_fault : {text : List ℕ} → Settles text → Option BuildFault
settled_fault (inl built) = None
settled_fault (inr bad) = Some bad.0

module _ (text : List ℕ) where
  -- the fault of a text, if it is no program
  abbrev program_fault : Option BuildFault
  program_fault = settled_fault {text = text} (settled_text text).some

  no_fault : (form : Form) → IsBuiltFrom text form → program_fault ≡ None
  no_fault form built = go (settled_text text).some
    where
      go : (settles : Settles text) → settled_fault {text = text} settles ≡ None
      go (inl other) = refl
      go (inr bad) = absurd ((settled_text text).apart form bad.0 built bad.1)

  one_fault : (fault : BuildFault) → IsNoProgram text fault → program_fault ≡ Some fault
  one_fault fault refused = go (settled_text text).some
    where
      go : (settles : Settles text) → settled_fault {text = text} settles ≡ Some fault
      go (inl built) = absurd ((settled_text text).apart built.0 fault built.1 refused)
      go (inr bad) = ap (λ (f : BuildFault). Some f) ((settled_text text).one_refusal bad.0 fault bad.1 refused)

-- ---- check

module _ (bytes : List ℕ) where
  abbrev check_refusal : Option Refusal
  check_refusal = option_map (λ (fault : BuildFault). Program fault) (program_fault bytes)

  check_one : (refusal : Refusal) → IsNoCheck bytes refusal → check_refusal ≡ Some refusal
  check_one (TooLong limit) bad = absurd bad
  check_one NoSeparator bad = absurd bad
  check_one (Program fault) bad = ap (option_map (λ (f : BuildFault). Program f)) (one_fault bytes fault bad)
  check_one (Line n) bad = absurd bad
  check_one TooManyAcks bad = absurd bad
  check_one (Frame field place) bad = absurd bad
  check_one (FrameCut place) bad = absurd bad
  check_one (SceneRefused fault) bad = absurd bad

  check_some : Settles bytes → IsProgramText bytes ⊎ ((refusal : Refusal) × IsNoCheck bytes refusal)
  check_some (inl built) = inl built
  check_some (inr bad) = inr (Program bad.0, bad.1)

  settled_check : IsInputSettled (Alone mode.Check) bytes
  settled_check =
      settled_by check_rules bytes check_refusal (check_some (settled_text bytes).some)
      (λ input. ap (option_map (λ (f : BuildFault). Program f)) (no_fault bytes input.0 input.1)) check_one
      (λ output made. (form_of made.built.program, made.program))

-- ---- the lines of a fold are refused for what they say alone

abbrev IsOfLines : Result (List Ack) LineFault → Type 0
IsOfLines result = result ≢ Err (lines.NoMemory no_memory)

of_line : (number : ℕ) (acks : List Ack) (line : AckLine) → IsOfLines (with_line number acks line)
of_line number acks said.nothing = λ e. cc
of_line number acks said.refused = λ e. cc
of_line number acks (said.given ack) = go (nat_lt (length acks) most_acks)
  where
    go : (few : Bool) → IsOfLines (cond few (Ok (acks ++ ack ∷ [])) (Err lines.TooMany))
    go true = λ e. cc
    go false = λ e. cc

of_lines : (number : ℕ) (so_far : Result (List Ack) LineFault) (texts : List (List ℕ)) → IsOfLines so_far → IsOfLines (with_lines number so_far texts)
of_lines number (Err fault) texts not = not
of_lines number (Ok acks) [] not = not
of_lines number (Ok acks) (text ∷ rest) not =
    of_lines (number + 1) (with_line number acks (read_ack_line (without_last 13 text))) rest (of_line number acks (read_ack_line (without_last 13 text)))

-- ---- fold

-- the refusal of lines below a program with this fault, or with none
abbrev lines_refusal : Option BuildFault → Result (List Ack) LineFault → Option Refusal
lines_refusal (Some fault) below = Some (Program fault)
lines_refusal None (Ok acks) = None
lines_refusal None (Err (lines.Line n)) = Some (Line n)
lines_refusal None (Err lines.TooMany) = Some TooManyAcks
lines_refusal None (Err (lines.NoMemory _)) = None

abbrev fold_refusal : Option Cut → Option Refusal
fold_refusal None = Some NoSeparator
fold_refusal (Some cut) = lines_refusal (program_fault cut.program) (acks_below cut)

module _ (bytes : List ℕ) where
  -- the refusal of lines below a program
  below_program : (cut : Cut) (form : Form) (below : Result (List Ack) LineFault) → cut_of bytes ≡ Some cut → IsBuiltFrom cut.program form → acks_below cut ≡ below
      → fold_refusal (cut_of bytes) ≡ lines_refusal None below
  below_program cut form below at built is =
      ap fold_refusal at
      ∙ ap (λ (fault : Option BuildFault). lines_refusal fault (acks_below cut)) (no_fault cut.program form built)
      ∙ ap (lines_refusal None) is

  fold_one : (refusal : Refusal) → IsNoFold bytes refusal → fold_refusal (cut_of bytes) ≡ Some refusal
  fold_one (TooLong limit) bad = absurd bad
  fold_one NoSeparator bad = ap fold_refusal bad
  fold_one (Program fault) bad =
      ap fold_refusal bad.at_separator
      ∙ ap (λ (f : Option BuildFault). lines_refusal f (acks_below bad.cut)) (one_fault bad.cut.program fault bad.refused)
  fold_one (Line n) bad = below_program bad.cut bad.form (Err (lines.Line n)) bad.at_separator bad.program bad.refused
  fold_one TooManyAcks bad = below_program bad.cut bad.form (Err lines.TooMany) bad.at_separator bad.program bad.refused
  fold_one (Frame field place) bad = absurd bad
  fold_one (FrameCut place) bad = absurd bad
  fold_one (SceneRefused fault) bad = absurd bad

  some_lines : (cut : Cut) (form : Form) → cut_of bytes ≡ Some cut → IsBuiltFrom cut.program form → (below : Result (List Ack) LineFault) → acks_below cut ≡ below → IsOfLines below → IsInput (Alone mode.Fold) bytes ⊎ ((refusal : Refusal) × IsNoFold bytes refusal)
  some_lines cut form e built (Ok acks) is not = inl (form, acks, record { cut = cut; at_separator = e; program = built; lines = is })
  some_lines cut form e built (Err (lines.Line n)) is not = inr (Line n, record { cut = cut; at_separator = e; form = form; program = built; refused = is })
  some_lines cut form e built (Err lines.TooMany) is not = inr (TooManyAcks, record { cut = cut; at_separator = e; form = form; program = built; refused = is })
  some_lines cut form e built (Err (lines.NoMemory _)) is not = absurd (not refl)

  some_program : (cut : Cut) → cut_of bytes ≡ Some cut → ((form : Form) × IsBuiltFrom cut.program form) ⊎ ((fault : BuildFault) × IsNoProgram cut.program fault) → IsInput (Alone mode.Fold) bytes ⊎ ((refusal : Refusal) × IsNoFold bytes refusal)
  some_program cut e (inl built) =
      some_lines cut built.0 e built.1 (acks_below cut) refl (of_lines cut.next (Ok []) (parts_of LineFeed cut.rest) (λ a. cc))
  some_program cut e (inr bad) = inr (Program bad.0, record { cut = cut; at_separator = e; refused = bad.1 })

  some_cut : (cut : Option Cut) → cut_of bytes ≡ cut → IsInput (Alone mode.Fold) bytes ⊎ ((refusal : Refusal) × IsNoFold bytes refusal)
  some_cut None e = inr (NoSeparator, e)
  some_cut (Some cut) e = some_program cut e (settled_text cut.program).some

  settled_fold : IsInputSettled (Alone mode.Fold) bytes
  settled_fold =
      settled_by fold_rules bytes (fold_refusal (cut_of bytes)) (some_cut (cut_of bytes) refl)
      (λ input. below_program input.2.cut input.0 (Ok input.1) input.2.at_separator input.2.program input.2.lines) fold_one
      (λ output made. (made.form, made.acks, made.input))

-- ---- feed

-- the end of a feed as the refusal that reports it, or none if the input is whole
abbrev refusal_of : FeedEnd → Option Refusal
refusal_of (ends.Bad field place) = Some (Frame field place)
refusal_of (ends.Cut place) = Some (FrameCut place)
refusal_of ends.TooLong = Some (TooLong Input)
refusal_of _ = None

no_feed : (bytes : List ℕ) (refusal : Refusal) → IsNoFeed bytes refusal → refusal_of (feed_end bytes) ≡ Some refusal
no_feed bytes (TooLong Input) is = ap refusal_of is
no_feed bytes (TooLong Audit) is = absurd is
no_feed bytes NoSeparator is = absurd is
no_feed bytes (Program fault) is = absurd is
no_feed bytes (Line n) is = absurd is
no_feed bytes TooManyAcks is = absurd is
no_feed bytes (SceneRefused fault) is = absurd is
no_feed bytes (Frame field place) is = ap refusal_of is
no_feed bytes (FrameCut place) is = ap refusal_of is

feed_some : (bytes : List ℕ) (tail : Tail) (longer : Bool) → feed_end bytes ≡ end_from tail false longer → IsInput (Alone mode.Feed) bytes ⊎ ((refusal : Refusal) × IsNoFeed bytes refusal)
feed_some bytes (feeds.bad field place) longer is = inr (Frame field place, is)
feed_some bytes (feeds.left place rest) true is = inr (TooLong Input, is)
feed_some bytes (feeds.left place []) false is = inl is
feed_some bytes (feeds.left place (byte ∷ rest)) false is = inr (FrameCut place, is)

settled_feed : (bytes : List ℕ) → IsInputSettled (Alone mode.Feed) bytes
settled_feed bytes =
    settled_by feed_rules bytes (refusal_of (feed_end bytes)) (feed_some bytes (feed_of bytes).tail (nat_lt most_input_bytes (length bytes)) refl)
    (λ whole. ap refusal_of whole) (no_feed bytes) (λ output made. made.whole)

-- ---- audit

-- the refusal of a scenario, whose text is short or not
abbrev scenario_refusal : Bool → Result Scene SceneFault → Option Refusal
scenario_refusal true found = refusal_in found
scenario_refusal false found = Some (TooLong Input)

abbrev audit_refusal : Option Cut → Option Refusal
audit_refusal None = Some NoSeparator
audit_refusal (Some cut) = scenario_refusal (leb (length cut.program) (most_bytes Input)) (scene_of scene.Live cut.program)

module _ (bytes : List ℕ) where
  at_short : (cut : Cut) → IsAuditCut bytes cut → audit_refusal (cut_of bytes) ≡ refusal_in (scene_of scene.Live cut.program)
  at_short cut at =
      let short = at.short in
      let few : leb (length cut.program) (most_bytes Input) ≡ true = grind (arith, nat_tests, short) in
      ap audit_refusal at.at_separator ∙ ap (λ (b : Bool). scenario_refusal b (scene_of scene.Live cut.program)) few

  at_long : (cut : Cut) → cut_of bytes ≡ Some cut → most_bytes Input < length cut.program → audit_refusal (cut_of bytes) ≡ Some (TooLong Input)
  at_long cut at long =
      let more : leb (length cut.program) (most_bytes Input) ≡ false = grind (arith, nat_tests, long) in
      ap audit_refusal at ∙ ap (λ (b : Bool). scenario_refusal b (scene_of scene.Live cut.program)) more

  audit_one : (refusal : Refusal) → IsNoAudit bytes refusal → audit_refusal (cut_of bytes) ≡ Some refusal
  audit_one (TooLong Input) bad = at_long bad.cut bad.at_separator bad.long
  audit_one (TooLong Audit) bad = absurd bad
  audit_one NoSeparator bad = ap audit_refusal bad
  audit_one (Program fault) bad = absurd bad
  audit_one (Line n) bad = absurd bad
  audit_one TooManyAcks bad = absurd bad
  audit_one (SceneRefused fault) bad = at_short bad.cut bad.at ∙ ap refusal_in bad.refused
  audit_one (Frame field place) bad = absurd bad
  audit_one (FrameCut place) bad = absurd bad

  at_scene : (cut : Cut) → IsAuditCut bytes cut → (came : Result Scene SceneFault) → scene_of scene.Live cut.program ≡ came
      → IsAuditInput bytes ⊎ ((refusal : Refusal) × IsNoAudit bytes refusal)
  at_scene cut at (Ok said) is = inl (said, record { cut = cut; at = at; says = is })
  at_scene cut at (Err fault) is = inr (SceneRefused fault, record { cut = cut; at = at; refused = is })

  at_length : (cut : Cut) → cut_of bytes ≡ Some cut → (most_bytes Input < length cut.program) ⊎ (length cut.program ≤ most_bytes Input)
      → IsAuditInput bytes ⊎ ((refusal : Refusal) × IsNoAudit bytes refusal)
  at_length cut is (inl long) = inr (TooLong Input, record { cut = cut; at_separator = is; long = long })
  at_length cut is (inr short) = at_scene cut (record { at_separator = is; short = short }) (scene_of scene.Live cut.program) refl

  at_cut : (o : Option Cut) → cut_of bytes ≡ o → IsAuditInput bytes ⊎ ((refusal : Refusal) × IsNoAudit bytes refusal)
  at_cut None is = inr (NoSeparator, is)
  at_cut (Some cut) is = at_length cut is (cases_lt (most_bytes Input) (length cut.program))

  settled_audit : IsInputSettled (Alone mode.Audit) bytes
  settled_audit =
      settled_by audit_rules bytes (audit_refusal (cut_of bytes)) (at_cut (cut_of bytes) refl)
      (λ input. at_short input.1.cut input.1.at ∙ ap refusal_in input.1.says) audit_one
      (λ output made. (_, record { cut = made.cut; at = made.at; says = made.scenario.text }))

-- ---- the table

feed_mode : IsMode feed_rules
feed_mode = record {
  settled = settled_feed;
  begins = no-answers;
  quiet = λ quiet bytes. absurd (true≢false quiet);
  plain = λ plain. absurd (true≢false plain);
  unread = λ unread bytes refusal refused. absurd (true≢false unread);
}

pub alone_mode : (alone : AloneMode) → IsMode (rules_of (Alone alone))
alone_mode mode.Check = reads_to_end Input IsProgramText IsCheckOutput IsNoCheck settled_check
alone_mode mode.Fold = reads_to_end Input IsFoldInput IsFoldOutput IsNoFold settled_fold
alone_mode mode.Feed = feed_mode
alone_mode mode.Drive = drive_mode
alone_mode mode.Audit = reads_to_end Audit IsAuditInput IsAuditOutput IsNoAudit settled_audit
