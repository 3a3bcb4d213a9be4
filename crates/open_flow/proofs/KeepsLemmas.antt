-- Each letter keeps what holds of what is kept.
use Rattle.std.specs.Prelude.{◌≡◌, ℕ, ◌+◌, ◌<◌, ◌≤◌, true, Option, Some, None, option_map, Result, Ok, Err, List, [], ◌∷◌, ◌++◌, length, map, slice_get, refl}
use Rattle.std.proofs.Common.{ap, sym, ◌∙◌, subst, arith, length-append}
use Rattle.std.proofs.lemmas.List.{map-append, length-map}
use Rattle.std.proofs.lemmas.Option.{none-some, slice_get_within, slice_get-map}
use Rattle.ccp_base.specs.declared.ack.Ack.{Ack}
use Rattle.ccp_base.specs.declared.place.Place.{Place}
use Rattle.ccp_base.specs.declared.exchange.Notice.{Notice}
use Rattle.ccp_base.specs.RunningEpochs.{reporter, first_in, epochs_in, epoch_after}
use Rattle.ccp_base.specs.declared.running_epoch.RunningEpoch.{RunningEpoch}
use Rattle.portus_core.specs.Programs.{Form}
use Rattle.portus_core.specs.ProgramForm.{form_of}
use Rattle.portus_core.specs.OneAcknowledgement.{IsEnvOf}
use Rattle.portus_core.specs.Epoch.{acknowledged, Track, track_at, by_source, declared_env, after_outcome}
use Rattle.portus_core.specs.Reports.{reports_met}
use Rattle.portus_core.proofs.EventLaws.{after-append}
use Rattle.portus_core.proofs.EnvShapes.{IsEnvOf-declared_env}
use Rattle.portus_build.specs.declared.fault.BuildFault.{BuildFault}
use Rattle.reg_compiler.specs.declared.built.Built.{Built}
use Rattle.reg_compiler.specs.Simulation.{Simulates}
use Rattle.fold_machine.specs.MachineState.{MachineState}
use Rattle.fold_machine.specs.Heard.{started_by}
use Rattle.link_model.specs.Standing.{LinkState, Stands}
use Rattle.flow_core.specs.declared.book.EpochLine.{EpochLine}
use Rattle.flow_core.specs.Readings.{env_of}
use Rattle.flow_lists.specs.ReservedLists.{ReservedState}
use Rattle.flow_core.specs.World.{Failure, with_event, failures_met}
use Rattle.flow_core.specs.Books.{epoch_line}
use Rattle.flow_core.proofs.SimulatedEpochs.{IsEnvOf-after, declared-simulated}
use Rattle.flow_core.proofs.SummaryLemmas.{time-append}
use Rattle.portus_build.specs.TextWalk.{program_of}
use Rattle.open_flow.specs.declared.account.Account.{Account}
use Rattle.open_flow.specs.declared.entry.Entry.{Entry}
use Rattle.open_flow.specs.Accounts.{met_in, track_by, HasRun}
use Rattle.open_flow.specs.declared.letter.OpenLetter.{OpenLetter}
use Rattle.open_flow.specs.declared.state.State.{State}
use Rattle.open_flow.specs.OpenWorld.{Installed, Running, OpenWorld, track_of, cwnd_of, bare, met_by, after_ack, eras_of, world_with_entry, with_next_entry, next_entry, running_of, with_change, after_change}
use Rattle.open_flow.specs.BuiltTexts.{form_or_refusal, built_of}
use Rattle.open_flow.specs.Entries.{installed_of, built_entry, built_at, entry_place}
use Rattle.open_flow.specs.OpenBooks.{Seen, failure_at, seen_of, seen_as}
use Rattle.open_flow.specs.States.{kept_track, next_from, ArePassed, Runs, RunsEpoch, FitsBuilt, FitsAt, Keeps}
use Rattle.open_flow.proofs.ListLemmas.{slice_get-front}
use Rattle.open_flow.proofs.NextLemmas.{was_started-same, passed-more, passed-push, next-entry}

-- a track with one acknowledgement more counted
abbrev counted : Track → Track
counted track = record track { count = track.count + 1 }

-- ---- an acknowledgement

-- what is kept after an acknowledgement that isn't run
abbrev pub counted_state : State → LinkState → Ack → ReservedState OpenLetter → State
counted_state s link ack word = record s { link = link; acks = s.acks + 1; time = ack.now; word = word }

module _ (s : State) (base : OpenWorld) (link : LinkState) (ack : Ack) (word : ReservedState OpenLetter) where
  -- before the first change
  pub keeps-counted : (running : Option RunningEpoch) → s.running ≡ running
      → Keeps s (record base { present = None })
      → Stands link (base.windows ++ cwnd_of s.case (record base { present = None }) ∷ [])
      → Keeps (counted_state s link ack word) (after_ack s.case ack (record base { present = None }))
  keeps-counted running is keeps stands =
      let more = length-append base.acks (ack ∷ []) in
      record {
        entries = keeps.entries;
        installed = keeps.installed;
        epochs = keeps.epochs;
        reports = keeps.reports;
        faults = keeps.faults;
        acks = ap (λ (n : ℕ). n + 1) keeps.acks ∙ sym more;
        time = sym (time-append base.acks ack);
        track = ap counted keeps.track ∙ (λ i. bare s.case (sym more i));
        runs = keeps.runs;
        passed = keeps.passed;
        stands = stands;
      }

  module _ (machine : MachineState) (account : Account) (epoch later : RunningEpoch) (running : Running) (is_running : s.running ≡ Some epoch)
      (number : length s.epochs.items ≡ epochs_in s.running)
      (keeps : Keeps s (record base { present = Some running })) (runs : Runs s.entries.items epoch.program running)
      (heard : HasRun s.entries.items running.form s.case.flow s.acks epoch later s.machine machine s.account account ack) where
    -- what runs after it
    abbrev next : Running
    next = record running { era = with_event (acknowledged ack true) running.era }

    abbrev after_world : OpenWorld
    after_world = after_ack s.case ack (record base { present = Some running })

    track-next : track_of next ≡ after_outcome (met_by running ack) (track_of running)
    track-next = after-append (by_source running.form) running.era.events (acknowledged ack true ∷ []) (track_at running.era.at running.era.first)

    track-same : track_by s.acks epoch s.machine ≡ track_of running
    track-same = (λ i. record (kept_track s) { first = first_in (sym is_running i) }) ∙ keeps.track

    epoch-number : epoch.number ≡ length base.past
    epoch-number =
        let long : length s.epochs.items ≡ length base.past + 1 =
        ap length keeps.epochs ∙ length-map (base.past ++ running.era ∷ []) epoch_line ∙ length-append base.past (running.era ∷ []) in
        let count : length s.epochs.items ≡ epoch.number + 1 = number ∙ ap epochs_in is_running in
        omega (arith, long, count)

    reporter-same : reporter s.case.flow epoch.program epoch.number ≡ reporter s.case.flow running.era.program (length base.past)
    reporter-same = λ i. reporter s.case.flow (sym runs.program i) (epoch-number i)

    met-same : met_in running.form (track_by s.acks epoch s.machine) ack ≡ met_by running ack
    met-same = ap (λ (t : Track). met_in running.form t ack) track-same

    program-later : epoch.program ≡ later.program
    program-later = sym (ap (λ (e : RunningEpoch). e.program) heard.frame)

    -- what is kept after an acknowledgement that is run
    abbrev pub heard_state : State
    heard_state = record (counted_state s link ack word) { machine = machine; account = account; running = Some later }

    pub keeps-heard : Stands link (base.windows ++ cwnd_of s.case (record base { present = Some running }) ∷ [])
        → Keeps heard_state after_world
    keeps-heard stands =
        let more = length-append base.acks (ack ∷ []) in
        record {
          entries = keeps.entries;
          installed = keeps.installed;
          epochs = keeps.epochs ∙ map-append epoch_line base.past (running.era ∷ []) ∙ sym (map-append epoch_line base.past (next.era ∷ []));
          reports = heard.reports
              ∙ (λ i. keeps.reports i ++ reports_met (reporter-same i) (track-same i) ack (met-same i).0 (met-same i).1);
          faults = heard.faults
              ∙ (λ i. keeps.faults i ++ map (seen_as s.case.flow) (failures_met (sym runs.program i) (epoch-number i) (track-same i).count ack (met-same i)))
              ∙ sym (map-append (seen_as s.case.flow) base.faults _);
          acks = ap (λ (n : ℕ). n + 1) keeps.acks ∙ sym more;
          time = sym (time-append base.acks ack);
          track =
              (λ i. record { env = heard.env i; is_stopped = heard.stopping i; first = heard.first i; count = s.acks + 1 })
              ∙ (λ i. after_outcome (met-same i) (track-same i)) ∙ sym track-next;
          runs = subst (λ (step : ℕ). Runs s.entries.items step next) program-later (record {
            program = runs.program;
            form = runs.form;
            shape = subst (λ (t : Track). IsEnvOf running.form t.env)
                (sym (after-append (by_source running.form) running.era.events (acknowledged ack true ∷ []) (track_at running.era.at running.era.first)))
                (IsEnvOf-after running.form (acknowledged ack true ∷ []) (track_of running) runs.shape);
          });
          passed = subst (λ (n : ℕ). ArePassed n (base.past ++ next.era ∷ []) base.entries)
              (ap next_from is_running ∙ ap (λ (n : ℕ). n + 1) program-later)
              (record {
                before = λ i form below ok. sym (was_started-same i base.past running.era next.era refl) ∙ keeps.passed.before i form below ok;
                after = λ i past. sym (was_started-same i base.past running.era next.era refl) ∙ keeps.passed.after i past;
              });
          stands = stands;
        }

-- ---- an entry is installed

-- a step's entry stays where it is
built-front : (entries more : List Entry) (step : ℕ) → step < length entries → built_at (entries ++ more) step ≡ built_at entries step
built-front entries more step within = ap built_entry (slice_get-front entries more step within)

seen-front : (entries more : List Entry) (notice : Notice) (failure : Seen) (place : Failure Place) → seen_of entries notice ≡ seen_as failure.0 place
    → seen_of (entries ++ more) notice ≡ seen_of entries notice
seen-front entries more notice failure place is = by (slice_get entries notice.program) refl where
  by : (found : Option Entry) → slice_get entries notice.program ≡ found → seen_of (entries ++ more) notice ≡ seen_of entries notice
  by (Some entry) here =
      let within = slice_get_within entries notice.program entry here in
      ap (λ (b : Option Built). (notice.flow, option_map (failure_at notice) (entry_place b notice.index))) (built-front entries more notice.program within)
  by None here =
      absurd (none-some place (ap (λ (b : Option Entry). option_map (failure_at notice) (entry_place (built_entry b) notice.index)) (sym here) ∙ ap (λ (p : Seen). p.1) is))

seen-more : (entries more : List Entry) (flow : ℕ) (notices : List Notice) (failures : List (Failure Place))
    → map (seen_of entries) notices ≡ map (seen_as flow) failures → map (seen_of (entries ++ more)) notices ≡ map (seen_of entries) notices
seen-more entries more flow [] failures same = refl
seen-more entries more flow (notice ∷ rest) [] same = absurd (omega (arith, ap length same, length-map rest (seen_of entries)))
seen-more entries more flow (notice ∷ rest) (failure ∷ failures) same =
    let head : seen_of entries notice ≡ seen_as flow failure = ap (first_of (seen_as flow failure)) same in
    let tail : map (seen_of entries) rest ≡ map (seen_as flow) failures = ap rest_of same in
    λ i. seen-front entries more notice (flow, None) failure head i ∷ seen-more entries more flow rest failures tail i where
      first_of : Seen → List Seen → Seen
      first_of default [] = default
      first_of default (x ∷ xs) = x

      rest_of : List Seen → List Seen
      rest_of [] = []
      rest_of (x ∷ xs) = xs

runs-more : (entries more : List Entry) (running : Option RunningEpoch) (present : Option Running) → next_from running ≤ length entries
    → RunsEpoch entries running present → RunsEpoch (entries ++ more) running present
runs-more entries more None None within runs = tt
runs-more entries more None (Some r) within runs = runs
runs-more entries more (Some epoch) None within runs = runs
runs-more entries more (Some epoch) (Some r) within runs = record {
  program = runs.program;
  form = ap (option_map (λ (b : Built). form_of b.program)) (built-front entries more epoch.program (omega (arith, within))) ∙ runs.form;
  shape = runs.shape;
}

pub fits-more : (machine : MachineState) (entries more : List Entry) (running : Option RunningEpoch) → next_from running ≤ length entries
    → FitsAt machine entries running → FitsAt machine (entries ++ more) running
fits-more machine entries more None within fits = tt
fits-more machine entries more (Some epoch) within fits =
    subst (FitsBuilt machine) (sym (built-front entries more epoch.program (omega (arith, within)))) fits

-- what is kept after an entry
abbrev pub put_state : State → Entry → ReservedState Entry → ReservedState ℕ → ReservedState OpenLetter → State
put_state s entry entries installed word = record s { entries = entries; installed = installed; word = word }

pub keeps-put : (s : State) (w : OpenWorld) (entry : Entry) (entries : ReservedState Entry) (installed : ReservedState ℕ) (word : ReservedState OpenLetter)
    → Keeps s w → next_from s.running ≤ length s.entries.items
    → entries.items ≡ s.entries.items ++ entry ∷ [] → installed.items ≡ s.installed.items ++ s.acks ∷ []
    → slice_get s.case.steps (length s.entries.items) ≡ Some entry.text → program_of entry.text ≡ installed_of entry
    → Keeps (put_state s entry entries installed word) (with_next_entry s.case w)
keeps-put s w entry entries installed word keeps within pushed counted text came =
    let count : length s.entries.items ≡ length w.entries = sym (length-map s.entries.items installed_of) ∙ ap length keeps.entries in
    let next : OpenWorld = record w { entries = w.entries ++ installed_of entry ∷ []; installed = w.installed ++ length w.acks ∷ [] } in
    let is : with_next_entry s.case w ≡ next =
    (λ i. world_with_entry ((ap (slice_get s.case.steps) (sym count) ∙ text) i) w)
    ∙ (λ i. record w { entries = w.entries ++ came i ∷ []; installed = w.installed ++ length w.acks ∷ [] }) in
    let whole : Keeps (record (put_state s entry entries installed word) { entries = record { items = s.entries.items ++ entry ∷ []; room = entries.room } }) next = record {
      entries = map-append installed_of s.entries.items (entry ∷ []) ∙ (λ i. keeps.entries i ++ installed_of entry ∷ []);
      installed = counted ∙ (λ i. keeps.installed i ++ keeps.acks i ∷ []);
      epochs = keeps.epochs;
      reports = keeps.reports;
      faults = seen-more s.entries.items (entry ∷ []) s.case.flow s.account.faults.items w.faults keeps.faults ∙ keeps.faults;
      acks = keeps.acks;
      time = keeps.time;
      track = keeps.track;
      runs = runs-more s.entries.items (entry ∷ []) s.running w.present within keeps.runs;
      passed = passed-more (next_from s.running) (eras_of w) w.entries (installed_of entry ∷ []) (omega (arith, within, count)) keeps.passed;
      stands = keeps.stands;
    } in
    subst (λ (v : OpenWorld). Keeps (put_state s entry entries installed word) v) (sym is)
    (subst (λ (items : List Entry). Keeps (record (put_state s entry entries installed word) { entries = record { items = items; room = entries.room } }) next) (sym pushed) whole)

-- ---- a change

abbrev built_form : Form → Option Built → Form
built_form default None = default
built_form default (Some built) = form_of built.program

abbrev came_form : Form → Option Installed → Form
came_form default None = default
came_form default (Some (Ok form)) = form
came_form default (Some (Err refusal)) = default

-- the program of an accepted entry is what was built of it
form-answer : (built : Built) (form : Form) (answer : Result Built BuildFault) → built_of answer ≡ Some built → Some (form_or_refusal answer) ≡ Some (Ok form) → form_of built.program ≡ form
form-answer built form (Ok other) one two = sym (ap (built_form form) one) ∙ ap (came_form form) two
form-answer built form (Err refusal) one two = absurd (none-some built one)

form-found : (entries : List Entry) (step : ℕ) (built : Built) (form : Form) (found : Option Entry) → slice_get entries step ≡ found → built_at entries step ≡ Some built
    → slice_get (map installed_of entries) step ≡ Some (Ok form) → form_of built.program ≡ form
form-found entries step built form None here is ok = absurd (none-some built (ap built_entry (sym here) ∙ is))
form-found entries step built form (Some entry) here is ok =
    form-answer built form entry.answer (ap built_entry (sym here) ∙ is) (ap (option_map installed_of) (sym here) ∙ sym (slice_get-map installed_of entries step) ∙ ok)

form-same : (entries : List Entry) (step : ℕ) (built : Built) (form : Form) → built_at entries step ≡ Some built
    → slice_get (map installed_of entries) step ≡ Some (Ok form) → form_of built.program ≡ form
form-same entries step built form is ok = form-found entries step built form (slice_get entries step) refl is ok

-- the epoch that a change begins, whatever ran before it
pub after-program : (running : Option RunningEpoch) (step acks : ℕ) → (epoch_after running step acks).program ≡ step
after-program None step acks = refl
after-program (Some epoch) step acks = refl

after-first : (running : Option RunningEpoch) (step acks : ℕ) → (epoch_after running step acks).first ≡ acks
after-first None step acks = refl
after-first (Some epoch) step acks = refl

pub after-number : (running : Option RunningEpoch) (step acks : ℕ) → (epoch_after running step acks).number ≡ epochs_in running
after-number None step acks = refl
after-number (Some epoch) step acks = refl

-- what is kept after a change
abbrev pub started_state : State → ℕ → MachineState → ReservedState EpochLine → ReservedState OpenLetter → State
started_state s step machine epochs word = record s {
  machine = machine;
  running = Some (epoch_after s.running step s.acks);
  epochs = epochs;
  word = word;
}

pub keeps-started : (s : State) (w : OpenWorld) (step : ℕ) (form : Form) (built : Built) (machine : MachineState) (epochs : ReservedState EpochLine) (word : ReservedState OpenLetter)
    → Keeps s w → next_entry w ≡ Some (step, form) → built_at s.entries.items step ≡ Some built
    → machine ≡ started_by built.code.code [] s.time s.machine
    → epochs.items ≡ s.epochs.items ++ record { program = step; at = s.acks; cwnd = machine.kept.cwnd } ∷ []
    → Keeps (started_state s step machine epochs word) (after_change s.case w)
keeps-started s w step form built machine epochs word keeps left is started pushed =
    let entry : slice_get w.entries step ≡ Some (Ok form) = next-entry (eras_of w) w.entries step form left in
    let same_form : form_of built.program ≡ form =
    form-same s.entries.items step built form is ((λ i. slice_get (keeps.entries i) step) ∙ entry) in
    let running = running_of s.case w step form in
    let next : OpenWorld = record w { past = eras_of w; present = Some running } in
    let world_is : after_change s.case w ≡ next = ap (λ (left : Option (ℕ × Form)). with_change s.case left w) left in
    let simulates : Simulates form built.code.code built.places = subst (λ (f : Form). Simulates f built.code.code built.places) same_form built.simulates in
    let env : env_of machine.kept ≡ running.era.first =
    ap (λ (m : MachineState). env_of m.kept) started
    ∙ declared-simulated form built.code.code built.places simulates s.machine.kept.cwnd s.machine.kept.rate s.time
    ∙ (λ i. declared_env form (keeps.track i).env.cwnd (keeps.track i).env.rate (keeps.time i)) in
    let is_step = after-program s.running step s.acks in
    let line : epoch_line running.era ≡ record { program = step; at = length w.acks; cwnd = running.era.first.cwnd } = refl in
    let whole : Keeps (started_state s step machine epochs word) next = record {
      entries = keeps.entries;
      installed = keeps.installed;
      epochs = pushed
          ∙ (λ i. keeps.epochs i ++ record { program = step; at = keeps.acks i; cwnd = (env i).cwnd } ∷ [])
          ∙ sym (map-append epoch_line (eras_of w) (running.era ∷ []));
      reports = keeps.reports;
      faults = keeps.faults;
      acks = keeps.acks;
      time = keeps.time;
      track = λ i. record { env = env i; is_stopped = ap (λ (m : MachineState). m.is_stopped) started i; first = (after-first s.running step s.acks ∙ keeps.acks) i; count = keeps.acks i };
      runs = subst (λ (n : ℕ). Runs s.entries.items n running) (sym is_step) (record { program = refl; form = ap (option_map (λ (b : Built). form_of b.program)) is ∙ ap Some same_form; shape = IsEnvOf-declared_env form _ _ _ });
      passed = subst (λ (n : ℕ). ArePassed (n + 1) (eras_of w ++ running.era ∷ []) w.entries) (sym is_step)
          (passed-push (next_from s.running) step form (eras_of w) running.era w.entries refl keeps.passed left);
      stands = keeps.stands;
    } in
    subst (λ (v : OpenWorld). Keeps (started_state s step machine epochs word) v) (sym world_is) whole
