-- Each letter leads from a flow of its case and its word to the one of the longer word.
use Rattle.std.specs.Prelude.{◌≡◌, ℕ, ◌+◌, ◌<◌, ◌≤◌, true, ◌&&◌, is_some, Option, Some, None, unwrap_or, Ok, List, [], ◌∷◌, ◌++◌, length, slice_get, refl}
use Rattle.std.proofs.Common.{ap, sym, ◌∙◌, subst, arith, length-append}
use Rattle.std.proofs.lemmas.List.{length-map}
use Rattle.std.proofs.lemmas.Bool.{lt-ltb}
use Rattle.std.proofs.lemmas.Option.{none-some, slice_get_within}
use Rattle.ccp_base.specs.declared.ack.Ack.{Ack}
use Rattle.ccp_base.specs.declared.running_epoch.RunningEpoch.{RunningEpoch}
use Rattle.ccp_base.specs.RunningEpochs.{epochs_in}
use Rattle.portus_core.specs.Programs.{Form}
use Rattle.portus_core.specs.OneAcknowledgement.{IsEnvOf}
use Rattle.portus_core.specs.Epoch.{Track}
use Rattle.reg_compiler.specs.declared.built.Built.{Built}
use Rattle.fold_machine.specs.MachineState.{MachineState, Fits}
use Rattle.fold_machine.specs.Heard.{started_by}
use Rattle.fold_machine.specs.declared.acked.Acked.{Acked}
use Rattle.link_model.specs.Link.{ack_after}
use Rattle.link_model.specs.Standing.{LinkState, Stands}
use Rattle.flow_core.specs.declared.book.EpochLine.{EpochLine}
use Rattle.flow_lists.specs.ReservedLists.{ReservedState}
use Rattle.flow_core.specs.Cores.{ran_by}
use Rattle.open_flow.specs.declared.account.Account.{Account}
use Rattle.open_flow.specs.declared.entry.Entry.{Entry}
use Rattle.open_flow.specs.declared.letter.OpenLetter.{OpenLetter}
use Rattle.open_flow.specs.declared.letter.OpenLetter.TheVariants.{A, I, G}
use Rattle.open_flow.specs.declared.state.State.{State}
use Rattle.open_flow.specs.Accounts.{HasRun, met_in, faults_of}
use Rattle.open_flow.specs.OpenWorld.{Running, OpenWorld, track_of, cwnd_of, after_ack, eras_of, next_entry, met_by}
use Rattle.open_flow.specs.OpenWords.{after_letter, install_world, next_ack, is_legal, legal}
use Rattle.open_flow.specs.BuiltTexts.{Answers}
use Rattle.open_flow.specs.Entries.{installed_of, built_at, AreStepsFrom}
use Rattle.open_flow.specs.OpenCells.{HasOutcome, AnswersTo, ran_with, ran_in, next_step}
use Rattle.open_flow.specs.States.{cell_of, world_of, kept_track, next_from, RunsEpoch, Runs, FitsAt, FitsBuilt, faults_left, form_at, Keeps, IsFit, IsOpen}
use Rattle.open_flow.proofs.LetterLemmas.{world-append, legal-append}
use Rattle.open_flow.proofs.KeepsLemmas.{counted_state, keeps-counted, keeps-heard, put_state, keeps-put, fits-more, after-program, after-number, started_state, keeps-started}
use Rattle.open_flow.proofs.ListLemmas.{steps-push}
use Rattle.open_flow.proofs.NextLemmas.{left-found, next-entry, next-late, none-built}

-- ---- a letter

pub open-letter : (s new : State) (letter : OpenLetter) → IsOpen s → new.case ≡ s.case → new.word.items ≡ s.word.items ++ letter ∷ []
    → IsFit new
    → Keeps new (after_letter s.case (world_of s) letter)
    → is_legal s.case (world_of s) letter ≡ true
    → IsOpen new
open-letter s new letter opens case word fit keeps is_legal_now = record {
  fit = fit;
  keeps =
      subst (Keeps new)
      (sym ((λ i. install_world (case i) (word i)) ∙ world-append s.case s.word.items letter))
      keeps;
  legal =
      (λ i. legal (case i) (word i))
      ∙ legal-append s.case s.word.items letter
      ∙ (λ i. opens.legal i && is_legal_now i);
}

-- ---- an acknowledgement

module _ (s : State) (opens : IsOpen s) (left : s.acks < s.case.acks) (window : ℕ) (is_window : window ≡ s.machine.kept.cwnd)
    (link : LinkState) (ack : Ack) (word : ReservedState OpenLetter)
    (is_ack : (windows : List ℕ) → Stands s.link windows → ack ≡ ack_after s.link.case windows window)
    (stands : (windows : List ℕ) → Stands s.link windows → Stands link (windows ++ window ∷ []))
    (case_same : link.case ≡ s.link.case) (calls : link.standing.calls ≡ s.link.standing.calls + 1)
    (pushed : word.items ≡ s.word.items ++ A ∷ []) (room : word.room ≡ s.word.room) where
  cwnd-same : window ≡ cwnd_of s.case (world_of s)
  cwnd-same = is_window ∙ ap (λ (t : Track). t.env.cwnd) opens.keeps.track

  pub ack-same : ack ≡ next_ack s.case (world_of s)
  ack-same =
      is_ack (world_of s).windows opens.keeps.stands
      ∙ (λ i. ack_after (opens.fit.link i) (world_of s).windows (cwnd-same i))

  stands-same : Stands link ((world_of s).windows ++ cwnd_of s.case (world_of s) ∷ [])
  stands-same =
      subst (λ (n : ℕ). Stands link ((world_of s).windows ++ n ∷ [])) cwnd-same
      (stands (world_of s).windows opens.keeps.stands)

  legal-now : is_legal s.case (world_of s) A ≡ true
  legal-now =
      let acks = opens.keeps.acks in
      lt-ltb (length (world_of s).acks) s.case.acks (omega (arith, acks, left))

  word-length : length word.items ≡ length s.word.items + 1
  word-length = ap length pushed ∙ length-append s.word.items (A ∷ [])

  fit-counted : IsFit (counted_state s link ack word)
  fit-counted =
      let f = opens.fit in
      let long = word-length in
      record {
        link = case_same ∙ f.link;
        calls = calls ∙ ap (λ (n : ℕ). n + 1) f.calls;
        fits = f.fits;
        steps = f.steps;
        acks_most = omega (arith, left);
        entries_most = f.entries_most;
        installed_count = f.installed_count;
        running_most = f.running_most;
        epochs_most = f.epochs_most;
        epochs_count = f.epochs_count;
        faults_most = f.faults_most;
        reports_most = omega (arith, f.reports_most);
        letters = omega (arith, f.letters, long);
        entries_room = f.entries_room;
        installed_room = f.installed_room;
        epochs_room = f.epochs_room;
        faults_room = f.faults_room;
        reports_room = f.reports_room;
        word_room = omega (arith, f.word_room, room);
      }

  -- before the first change
  none-runs : (running : Option RunningEpoch) → running ≡ None → (present : Option Running) → RunsEpoch s.entries.items running present → present ≡ None
  none-runs None none None runs = refl
  none-runs None none (Some r) runs = absurd runs
  none-runs (Some epoch) none present runs = absurd (none-some epoch (sym none))

  pub present-none : s.running ≡ None → (world_of s).present ≡ None
  present-none none = none-runs s.running none (world_of s).present opens.keeps.runs

  pub open-counted : s.running ≡ None → IsOpen (counted_state s link ack word)
  open-counted none = open-letter s (counted_state s link ack word) A opens refl pushed fit-counted
      (let w = world_of s in
      let is_none = present-none none in
      let whole = keeps-counted s w link ack word s.running refl
      (subst (λ (p : Option Running). Keeps s (record w { present = p })) is_none opens.keeps)
      (subst (λ (p : Option Running). Stands link (w.windows ++ cwnd_of s.case (record w { present = p }) ∷ [])) is_none stands-same) in
      subst (λ (k : Ack). Keeps (counted_state s link ack word) (after_ack s.case k w)) ack-same
      (subst (λ (p : Option Running). Keeps (counted_state s link ack word) (after_ack s.case ack (record w { present = p }))) (sym is_none) whole))
      legal-now

  -- and then
  some-runs : (running : Option RunningEpoch) (epoch : RunningEpoch) → running ≡ Some epoch → (present : Option Running) → RunsEpoch s.entries.items running present
      → (r : Running) × ((present ≡ Some r) × Runs s.entries.items epoch.program r)
  some-runs None epoch some present runs = absurd (none-some epoch some)
  some-runs (Some one) epoch some None runs = absurd runs
  some-runs (Some one) epoch some (Some r) runs = (r, (refl, subst (λ (e : RunningEpoch). Runs s.entries.items e.program r) (ap (λ (o : Option RunningEpoch). unwrap_or o one) some) runs))

  module _ (epoch later : RunningEpoch) (some : s.running ≡ Some epoch) (machine : MachineState) (account : Account) (answer : Acked) (built : Built)
      (is_built : built_at s.entries.items epoch.program ≡ Some built)
      (fits : FitsBuilt machine (built_at s.entries.items epoch.program))
      (heard : (form : Form) → form_at s.entries.items epoch.program ≡ Some form → IsEnvOf form (kept_track s).env
      → HasRun s.entries.items form s.case.flow s.acks epoch later s.machine machine s.account account ack)
      (told : (form : Form) → form_at s.entries.items epoch.program ≡ Some form → IsEnvOf form (kept_track s).env
      → HasOutcome (built_at s.entries.items epoch.program) answer (met_in form (kept_track s) ack).0) where
    running-at : (r : Running) × (((world_of s).present ≡ Some r) × Runs s.entries.items epoch.program r)
    running-at = some-runs s.running epoch some (world_of s).present opens.keeps.runs

    abbrev pub run_state : State
    run_state = record (counted_state s link ack word) { machine = machine; account = account; running = Some later }

    abbrev r : Running
    r = running-at.0

    abbrev w : OpenWorld
    w = world_of s

    is_present : w.present ≡ Some r
    is_present = running-at.1.0

    runs : Runs s.entries.items epoch.program r
    runs = running-at.1.1

    keeps : Keeps s (record w { present = Some r })
    keeps = subst (λ (p : Option Running). Keeps s (record w { present = p })) is_present opens.keeps

    track_same : kept_track s ≡ track_of r
    track_same = keeps.track

    shape : IsEnvOf r.form (kept_track s).env
    shape = subst (λ (t : Track). IsEnvOf r.form t.env) (sym track_same) runs.shape

    heard-now : HasRun s.entries.items r.form s.case.flow s.acks epoch later s.machine machine s.account account ack
    heard-now = heard r.form runs.form shape

    fit-with : IsFit run_state
    fit-with =
        let f = fit-counted in
        let h = heard-now in
        let before = ap (λ (o : Option RunningEpoch). faults_left o s.machine.is_stopped) some in
        let program : epoch.program ≡ later.program = sym (ap (λ (e : RunningEpoch). e.program) h.frame) in
        let from : next_from s.running ≡ later.program + 1 = ap next_from some ∙ ap (λ (n : ℕ). n + 1) program in
        let count : epochs_in s.running ≡ later.number + 1 = ap epochs_in some ∙ sym (ap (λ (e : RunningEpoch). e.number + 1) h.frame) in
        let faults_old = opens.fit.faults_most in
        let reports_old = opens.fit.reports_most in
        record {
          link = f.link;
          calls = f.calls;
          fits = subst (λ (step : ℕ). FitsBuilt machine (built_at s.entries.items step)) program fits;
          steps = f.steps;
          acks_most = f.acks_most;
          entries_most = f.entries_most;
          installed_count = f.installed_count;
          running_most = omega (arith, f.running_most, from);
          epochs_most = omega (arith, f.epochs_most, from);
          epochs_count = f.epochs_count ∙ count;
          faults_most = omega (arith, faults_old, h.faults_most, before);
          reports_most = omega (arith, reports_old, h.reports_most);
          letters = f.letters;
          entries_room = f.entries_room;
          installed_room = f.installed_room;
          epochs_room = f.epochs_room;
          faults_room = omega (arith, f.faults_room, h.faults_room);
          reports_room = omega (arith, f.reports_room, h.reports_room);
          word_room = f.word_room;
        }

    keeps-with : Keeps run_state (after_ack s.case (next_ack s.case w) w)
    keeps-with =
        let stands_now = subst (λ (p : Option Running). Stands link (w.windows ++ cwnd_of s.case (record w { present = p }) ∷ [])) is_present stands-same in
        let whole = keeps-heard s w link ack word machine account epoch later r some opens.fit.epochs_count keeps runs heard-now stands_now in
        subst (λ (k : Ack). Keeps run_state (after_ack s.case k w)) ack-same
        (subst (λ (p : Option Running). Keeps run_state (after_ack s.case ack (record w { present = p }))) (sym is_present) whole)

    pub told-run : AnswersTo s.entries.items (next_ack s.case w) w.present (Some answer)
    told-run =
        let here = told r.form runs.form shape in
        let by_track : HasOutcome (built_at s.entries.items epoch.program) answer (met_by r ack).0 =
        subst (λ (t : Track). HasOutcome (built_at s.entries.items epoch.program) answer (met_in r.form t ack).0) track_same here in
        let by_step : HasOutcome (built_at s.entries.items r.era.program) answer (met_by r ack).0 =
        subst (λ (n : ℕ). HasOutcome (built_at s.entries.items n) answer (met_by r ack).0) (sym runs.program) by_track in
        subst (λ (k : Ack). AnswersTo s.entries.items k w.present (Some answer)) ack-same
        (subst (λ (p : Option Running). AnswersTo s.entries.items ack p (Some answer)) (sym is_present) by_step)

    pub ran-run : ran_by s.machine.is_stopped built.code.code (kept_track s).env ack true ≡ ran_in s.entries.items w.present (next_ack s.case w)
    ran-run =
        (λ i. ran_by (track_same i).is_stopped built.code.code (track_same i).env ack true)
        ∙ ap (λ (b : Option Built). ran_with b r ack) (sym (ap (built_at s.entries.items) runs.program ∙ is_built))
        ∙ (λ i. ran_in s.entries.items (sym is_present i) (ack-same i))

    pub open-run : IsOpen run_state
    open-run = open-letter s run_state A opens refl pushed fit-with keeps-with legal-now

-- ---- an entry is installed

pub open-put : (s : State) (entry : Entry) (entries : ReservedState Entry) (installed : ReservedState ℕ) (word : ReservedState OpenLetter)
    → IsOpen s → entry.step ≡ length s.entries.items → slice_get s.case.steps entry.step ≡ Some entry.text → Answers entry.text entry.answer
    → entries.items ≡ s.entries.items ++ entry ∷ [] → entries.room ≡ s.entries.room
    → installed.items ≡ s.installed.items ++ s.acks ∷ [] → installed.room ≡ s.installed.room
    → word.items ≡ s.word.items ++ I ∷ [] → word.room ≡ s.word.room
    → IsOpen (put_state s entry entries installed word)
open-put s entry entries installed word opens is_step is_text answers pushed room counted counted_room spelled spelled_room =
    let f = opens.fit in
    let text : slice_get s.case.steps (length s.entries.items) ≡ Some entry.text = ap (slice_get s.case.steps) (sym is_step) ∙ is_text in
    let below = slice_get_within s.case.steps (length s.entries.items) entry.text text in
    let long = ap length pushed ∙ length-append s.entries.items (entry ∷ []) in
    let counted_long = ap length counted ∙ length-append s.installed.items (s.acks ∷ []) in
    let word_long = ap length spelled ∙ length-append s.word.items (I ∷ []) in
    let fit : IsFit (put_state s entry entries installed word) = record {
      link = f.link;
      calls = f.calls;
      fits = subst (λ (items : List Entry). FitsAt s.machine items s.running) (sym pushed) (fits-more s.machine s.entries.items (entry ∷ []) s.running f.running_most f.fits);
      steps = subst (AreStepsFrom 0) (sym pushed) (steps-push 0 s.entries.items entry f.steps (is_step ∙ omega arith));
      acks_most = f.acks_most;
      entries_most = omega (arith, below, long);
      installed_count = omega (arith, f.installed_count, long, counted_long);
      running_most = omega (arith, f.running_most, long);
      epochs_most = f.epochs_most;
      epochs_count = f.epochs_count;
      faults_most = f.faults_most;
      reports_most = f.reports_most;
      letters = omega (arith, f.letters, long, word_long);
      entries_room = omega (arith, f.entries_room, room);
      installed_room = omega (arith, f.installed_room, counted_room);
      epochs_room = f.epochs_room;
      faults_room = f.faults_room;
      reports_room = f.reports_room;
      word_room = omega (arith, f.word_room, spelled_room);
    } in
    open-letter s (put_state s entry entries installed word) I opens refl spelled fit
    (keeps-put s (world_of s) entry entries installed word opens.keeps f.running_most pushed counted text answers)
    (let keeps = opens.keeps.entries in
    let count : length s.entries.items ≡ length (world_of s).entries = sym (length-map s.entries.items installed_of) ∙ ap length keeps in
    lt-ltb (length (world_of s).entries) (length s.case.steps) (omega (arith, below, count)))

-- ---- a change

module _ (s : State) (opens : IsOpen s) (step : ℕ) (next : next_step (cell_of s) ≡ Some step) where
  found-at : (form : Form) × (next_entry (world_of s) ≡ Some (step, form))
  found-at = left-found step (next_entry (world_of s)) next

  -- the step is one of the entries, past those that were looked at
  pub below : step < length s.entries.items
  below =
      let keeps = opens.keeps in
      let found = found-at in
      let entry = next-entry (eras_of (world_of s)) (world_of s).entries step found.0 found.1 in
      let within = slice_get_within (world_of s).entries step (Ok found.0) entry in
      let count : length s.entries.items ≡ length (world_of s).entries = sym (length-map s.entries.items installed_of) ∙ ap length keeps.entries in
      omega (arith, within, count)

  pub late : next_from s.running ≤ step
  late =
      let found = found-at in
      next-late (next_from s.running) step found.0 (eras_of (world_of s)) (world_of s).entries opens.keeps.passed found.1

  pub some-built : (built : Option Built) → built_at s.entries.items step ≡ built → is_some built ≡ true
  some-built (Some built) is = refl
  some-built None is =
      let keeps = opens.keeps in
      let found = found-at in
      let entry = next-entry (eras_of (world_of s)) (world_of s).entries step found.0 found.1 in
      absurd (none-built s.entries.items step found.0 ((λ i. slice_get (keeps.entries i) step) ∙ entry) is)

  module _ (built : Built) (machine : MachineState) (epochs : ReservedState EpochLine) (word : ReservedState OpenLetter)
      (is_built : built_at s.entries.items step ≡ Some built)
      (started : machine ≡ started_by built.code.code [] s.time s.machine) (fits : Fits machine built.code.code)
      (pushed : epochs.items ≡ s.epochs.items ++ record { program = step; at = s.acks; cwnd = machine.kept.cwnd } ∷ []) (room : epochs.room ≡ s.epochs.room)
      (spelled : word.items ≡ s.word.items ++ G ∷ []) (spelled_room : word.room ≡ s.word.room) where
    fit-started : IsFit (started_state s step machine epochs word)
    fit-started =
        let f = opens.fit in
        let within = below in
        let past = late in
        let long = ap length pushed ∙ length-append s.epochs.items (record { program = step; at = s.acks; cwnd = machine.kept.cwnd } ∷ []) in
        let word_long = ap length spelled ∙ length-append s.word.items (G ∷ []) in
        let program = after-program s.running step s.acks in
        let number = after-number s.running step s.acks in
        let goes : faults_of machine.is_stopped ≡ 1 = ap (λ (m : MachineState). faults_of m.is_stopped) started in
        record {
          link = f.link;
          calls = f.calls;
          fits = subst (λ (n : ℕ). FitsBuilt machine (built_at s.entries.items n)) (sym program) (subst (FitsBuilt machine) (sym is_built) fits);
          steps = f.steps;
          acks_most = f.acks_most;
          entries_most = f.entries_most;
          installed_count = f.installed_count;
          running_most = omega (arith, within, program);
          epochs_most = omega (arith, f.epochs_most, past, long, program);
          epochs_count = omega (arith, f.epochs_count, long, number);
          faults_most = omega (arith, f.faults_most, long, goes);
          reports_most = f.reports_most;
          letters = omega (arith, f.letters, long, word_long);
          entries_room = f.entries_room;
          installed_room = f.installed_room;
          epochs_room = omega (arith, f.epochs_room, room);
          faults_room = f.faults_room;
          reports_room = f.reports_room;
          word_room = omega (arith, f.word_room, spelled_room);
        }

    pub open-started : IsOpen (started_state s step machine epochs word)
    open-started = open-letter s (started_state s step machine epochs word) G opens refl spelled fit-started
        (keeps-started s (world_of s) step found-at.0 built machine epochs word opens.keeps found-at.1 is_built started pushed)
        (ap is_some found-at.1)
