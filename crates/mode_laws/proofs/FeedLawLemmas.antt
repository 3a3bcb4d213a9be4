-- `feed` answers about a program what `fold` prints.
use Rattle.std.proofs.Common.{◌≡◌, ◌∙◌, ℕ, zero, suc, ◌+◌, ◌-◌, ◌<◌, ◌≤◌, nat_lt, Bool, true, false, cond, Option, Some, None, option_map, unwrap_or, Ok, List, [], ◌∷◌, ◌++◌, length, map, replicate, drop, slice_get, slice_set, refl, ap, sym, subst, arith, append_assoc, length-append, length-set}
use Rattle.std.specs.Option.{ForSome, option_or}
use Rattle.std.specs.List.{AllByRecursion}
use Rattle.std.proofs.Math.Seq.{drop-append_seam}
use Rattle.std.proofs.lemmas.Bool.{lt-ltb, le-ltb}
use Rattle.std.proofs.lemmas.List.{take_all, map-append, length-map, get_or-set_same}
use Rattle.std.proofs.lemmas.List.Elements.{All-replicate, recursion_from_All}
use Rattle.std.proofs.lemmas.Option.{none-some, same_Some, slice_get-get_or, slice_get_within}
use Rattle.std.proofs.lemmas.Result.{IfOk-at_ok}
use Rattle.ccp_base.specs.declared.ack.Ack.{Ack}
use Rattle.ccp_base.specs.declared.arithmetic.FaultKind.{FaultKind}
use Rattle.ccp_base.specs.declared.exchange.Notice.{Notice}
use Rattle.ccp_base.specs.declared.exchange.Report.{Report}
use Rattle.ccp_base.specs.declared.place.Place.{Place}
use Rattle.ccp_base.specs.declared.running_epoch.RunningEpoch.{RunningEpoch}
use Rattle.ccp_base.specs.RunningEpochs.{first_in, opening_epoch}
use Rattle.ccp_base.specs.FieldReg.{first_bad_pair}
use Rattle.ccp_base.specs.Limits.{most_flows, most_input_bytes, most_kept_programs}
use Rattle.portus_core.specs.declared.env.Env.{Env}
use Rattle.portus_core.specs.declared.env.Mean.{Mean}
use Rattle.portus_core.specs.declared.env.Mean.TheVariants.{Fault}
use Rattle.portus_core.specs.Epoch as epochs
use Rattle.portus_core.specs.Epoch.{Event, Outcome, Reading, Track, by_source, declared_env, heard, after_outcome, after_event, after, start_from}
use Rattle.portus_core.specs.OneAcknowledgement.{IsEnvOf, one_of}
use Rattle.portus_core.specs.ProgramForm.{form_of}
use Rattle.portus_core.specs.Programs.{Form}
use Rattle.portus_core.specs.Reports.{reports, reports_met, epoch_fault, fault_met}
use Rattle.portus_core.specs.Value.{Cause}
use Rattle.portus_core.proofs.EnvShapes.{IsEnvOf-one_of, IsEnvOf-declared_env}
use Rattle.reg_code.specs.declared.code.Code.{Code}
use Rattle.reg_code.specs.CodeStart.{declared_kept}
use Rattle.reg_code.specs.CodeStep.{Kept, CodeOutcome, quiet, reported, held, faulted, lost, Made, one_by_code}
use Rattle.reg_compiler.specs.declared.built.Built.{Built}
use Rattle.reg_compiler.specs.Simulation.{env_of, place_at, register_start, seen}
use Rattle.reply_frames.specs.declared.outline.Version.{Version}
use Rattle.reply_frames.proofs.NeededLaw.{all-bytes}
use Rattle.ccp_messages.proofs.DecodeLaws.{begins-decoded, decoded-begins}
use Rattle.ccp_messages.specs.Decoding.{decoded_from, decoded_of, found_from}
use Rattle.ccp_messages.specs.Laws.{HasFrame}
use Rattle.ccp_messages.specs.Messages.{IsTyped, Meets, frame_bytes}
use Rattle.ccp_messages.specs.declared.message.Message.{Message}
use Rattle.ccp_messages.specs.declared.message.Message.TheVariants.{Create, Install, Change}
use Rattle.ccp_messages.specs.declared.message.Message.TheVariants as message
use Rattle.ccp_messages.specs.declared.reason.Reason.TheVariants.{FlowAbove, ProgramAbove, TooWide}
use Rattle.fold_machine.specs.declared.acked.Acked.{Acked}
use Rattle.fold_machine.specs.declared.acked.Acked.TheVariants as acked
use Rattle.fold_machine.specs.Heard.{after_acknowledgement, after_made, heard_where}
use Rattle.fold_machine.specs.MachineState.{MachineState}
use Rattle.flow_core.specs.Readings.{outcome_of}
use Rattle.flow_core.proofs.SimulatedEpochs.{outcome_placed, heard-simulated, declared-simulated}
use Rattle.flow_core.proofs.ValueLemmas.{values-alike}
use Rattle.fold_run.proofs.FoldSteps.{next-item, items-after}
use Rattle.fold_run.specs.Fold.{IsFoldNotice, fold_reporter, fold_start, told_fault, with_room}
use Rattle.feed_core.specs.Answering.{end_from}
use Rattle.feed_core.specs.declared.flow.Flow.{Flow}
use Rattle.feed_core.specs.Feed.{FeedState, no_flows, Answer, MessageAnswer, there, answer_message, counted, refused, created_at, fresh_flow, installed_at, installed_as, changed_at, changed_to, changed_with, changed_flow, running_code, flow_acked, acked_on, epoch_heard, flow_after, message_about, in_version}
use Rattle.feed_core.specs.FeedHolds.{IsAcceptedThere, IsFlowThere}
use Rattle.feed_core.specs.FeedBytes.{Tail, left, Fed, answer_bytes, answer_to, with_answers, fed_no_more, fed_on, fed, frames_from, feed_of}
use Rattle.feed_core.proofs.FrameLawLemmas.{fed-fuel}
use Rattle.mode_laws.specs.FeedLaws.{Sent, answers_to, deployed, fault_of, frames_of, listed, measure_of, Deployment, FeedAnswersAsFold, FeedAnswersFrames, StartsAsFold, StartsAtWindowZero}

-- ---- lists

-- what is put at a place is there
put-there : {X : Type 0} (xs : List (Option X)) (n : ℕ) (x : X) → n < length xs → there (slice_set xs n (Some x)) n ≡ Some x
put-there xs n x within =
    ap (λ o. unwrap_or o None) (slice_get-get_or (slice_set xs n (Some x)) n None (omega (arith, length-set xs n (Some x), within)))
    ∙ get_or-set_same xs n (Some x) None within

-- ---- the source's epoch after a fault

abbrev not_heard : Track → Outcome Cause × Env
not_heard track = (epochs.stopped, track.env)

module _ (form : Form) where
  stopped-reports : (acks : List Ack) (track : Track) → track.is_stopped ≡ true → reports (by_source form) fold_reporter (map with_room acks) track ≡ []
  stopped-reports [] track stopped = refl
  stopped-reports (ack ∷ rest) track stopped =
      let same : heard (by_source form) track.is_stopped track.env ack true ≡ not_heard track = ap (λ b. heard (by_source form) b track.env ack true) stopped in
      ap (λ (met : Outcome Cause × Env). reports_met fold_reporter track ack met.0 met.1 ++ reports (by_source form) fold_reporter (map with_room rest) (after_outcome met track)) same
      ∙ stopped-reports rest (after_outcome (not_heard track) track) refl

  stopped-fault : (acks : List Ack) (track : Track) → track.is_stopped ≡ true → epoch_fault (by_source form) (map with_room acks) track ≡ None
  stopped-fault [] track stopped = refl
  stopped-fault (ack ∷ rest) track stopped =
      let same : heard (by_source form) track.is_stopped track.env ack true ≡ not_heard track = ap (λ b. heard (by_source form) b track.env ack true) stopped in
      ap (λ (met : Outcome Cause × Env). option_or (fault_met met.0 track.count) (epoch_fault (by_source form) (map with_room rest) (after_outcome met track))) same
      ∙ stopped-fault rest (after_outcome (not_heard track) track) refl

  stopped-env : (acks : List Ack) (track : Track) → track.is_stopped ≡ true → (after (by_source form) (map with_room acks) track).env ≡ track.env
  stopped-env [] track stopped = refl
  stopped-env (ack ∷ rest) track stopped =
      let same : heard (by_source form) track.is_stopped track.env ack true ≡ not_heard track = ap (λ b. heard (by_source form) b track.env ack true) stopped in
      ap (λ (met : Outcome Cause × Env). (after (by_source form) (map with_room rest) (after_outcome met track)).env) same
      ∙ stopped-env rest (after_outcome (not_heard track) track) refl

-- ---- one acknowledgement, by the datapath and by the source

heard-shape : (form : Form) (is_stopped : Bool) (env : Env) (ack : Ack) → IsEnvOf form env → IsEnvOf form (heard (by_source form) is_stopped env ack true).1
heard-shape form true env ack shape = shape
heard-shape form false env ack shape = IsEnvOf-one_of form env ack true shape

there-is : (kind : FaultKind) (place : Option Place) (mean : Mean) → option_map (λ place. Fault kind place) place ≡ Some mean → (found : Place) × (place ≡ Some found)
there-is kind None mean e = absurd cc
there-is kind (Some place) mean e = (place, refl)

module _ (d : Deployment) (built : Built) (all : List Ack) where
  abbrev form : Form
  form = form_of built.program

  abbrev code : Code
  code = built.code.code

  abbrev places : List Place
  places = built.places

  -- the one epoch of the flow, with its unreported span from this count
  abbrev epoch : ℕ → RunningEpoch
  epoch first = opening_epoch d.program first

  abbrev in_epoch : ℕ → Flow → Flow
  in_epoch first flow = record flow { epoch = Some (epoch first) }

  -- it goes on with each acknowledgement
  heard-epoch : (came : Option Acked) (count first : ℕ) → (later : ℕ) × (epoch_heard came count (Some (epoch first)) ≡ Some (epoch later))
  heard-epoch None count first = (first, refl)
  heard-epoch (Some acked.Quiet) count first = (first, refl)
  heard-epoch (Some acked.Reported) count first = (count, refl)
  heard-epoch (Some acked.Held) count first = (first, refl)
  heard-epoch (Some (acked.Faulted kind index)) count first = (first, refl)
  heard-epoch (Some acked.Stopped) count first = (first, refl)

  abbrev track_of : Flow → Track
  track_of flow = record {
    env = env_of flow.machine.kept;
    is_stopped = flow.machine.is_stopped;
    first = first_in flow.epoch;
    count = flow.count;
  }

  abbrev answer : Option Acked × MachineState → Flow → Ack → Answer
  answer came flow ack = in_version d.version (message_about came ack d.flow flow)

  -- an acknowledgement that has this answer by the datapath and this outcome by the source has the same reports by both,
  -- and no fault, or has the same fault by both, and no report
  data Agrees (flow : Flow) (ack : Ack) (came : Option Acked × MachineState) (met : Outcome Cause × Env) : Type 0 where
    reports_alone : listed (answer came flow ack) ≡ map (measure_of d) (reports_met fold_reporter (track_of flow) ack met.0 met.1)
        → fault_met met.0 flow.count ≡ None
        → Agrees flow ack came met
    fault_alone : (notice : Notice)
        → listed (answer came flow ack) ≡ fault_of d notice ∷ []
        → reports_met fold_reporter (track_of flow) ack met.0 met.1 ≡ []
        → fault_met met.0 flow.count ≡ Some (told_fault places notice)
        → epochs.stops met.0 ≡ true
        → IsFoldNotice all places met.1.cwnd notice
        → Agrees flow ack came met

  record Step (flow : Flow) (ack : Ack) (came : Option Acked × MachineState) (met : Outcome Cause × Env) : Type 0 where
    track : track_of (flow_after came ack flow) ≡ after_outcome met (track_of flow)
    agrees : Agrees flow ack came met

  step-made : (o : CodeOutcome) (kept : Kept) (ran : ℕ) (mean : Mean) → seen places o ≡ Some mean → (first : ℕ) (flow : Flow) (ack : Ack) → slice_get all flow.count ≡ Some ack
      → Step (in_epoch first flow) ack (after_made (record { outcome = o; kept = kept; ran = ran }) flow.machine) (outcome_placed (place_at places) (outcome_of o), env_of kept)
  step-made quiet kept ran mean is first flow ack at = record { track = refl; agrees = reports_alone refl refl }
  step-made (reported fields) kept ran mean is first flow ack at = record { track = refl; agrees = reports_alone refl refl }
  step-made held kept ran mean is first flow ack at = record { track = refl; agrees = reports_alone refl refl }
  step-made lost kept ran mean is first flow ack at = record { track = refl; agrees = reports_alone refl refl }
  step-made (faulted kind index) kept ran mean is first flow ack at =
      let found = there-is kind (slice_get places index) mean is in
      let notice : Notice = record { flow = 0; program = 0; epoch = 0; at = flow.count; kind = kind; index = index; now = ack.now; cwnd = kept.cwnd } in
      record {
        track = refl;
        agrees = fault_alone notice refl refl refl refl (record {
          flow = refl;
          program = refl;
          epoch = refl;
          placed = slice_get_within places index found.0 found.1;
          now = ap (option_map (λ (ack : Ack). ack.now)) at;
          cwnd = refl;
        });
      }

  -- the messages of acknowledgements
  abbrev acks_sent : List Ack → List Sent
  acks_sent acks = map (λ message. (message, d.version)) (map (message.Ack d.flow) acks)

  abbrev met_at : Flow → Ack → Outcome Cause × Env
  met_at flow ack = heard (by_source form) flow.machine.is_stopped (env_of flow.machine.kept) ack true

  abbrev came_at : Flow → Ack → Option Acked × MachineState
  came_at flow ack = after_acknowledgement code ack true flow.machine

  step-in : (first : ℕ) (flow : Flow) (ack : Ack) → IsEnvOf form (env_of flow.machine.kept) → slice_get all flow.count ≡ Some ack → Step (in_epoch first flow) ack (came_at flow ack) (met_at flow ack)
  step-in first flow ack shape at = go flow.machine.is_stopped refl
    where
      StepBy : Bool → Type 0
      StepBy b = Step (in_epoch first flow) ack (heard_where b code ack true flow.machine) (heard (by_source form) b (env_of flow.machine.kept) ack true)

      go : (b : Bool) → flow.machine.is_stopped ≡ b → StepBy flow.machine.is_stopped
      go true e = subst StepBy (sym e) (record {
        track = λ i. record { env = env_of flow.machine.kept; is_stopped = e i; first = first; count = flow.count + 1 };
        agrees = reports_alone refl refl;
      })
      go false e =
          let made : Made = one_by_code code flow.machine.kept ack true in
          subst StepBy (sym e)
          (subst (λ (met : Outcome Cause × Env). Step (in_epoch first flow) ack (after_made made flow.machine) met)
          (heard-simulated form code places built.simulates false (env_of flow.machine.kept) ack true shape)
          (step-made made.outcome made.kept made.ran (one_of form (env_of flow.machine.kept) ack true).0
          (built.simulates.3 (env_of flow.machine.kept) ack true shape).0 first flow ack at))

  step : (first : ℕ) (flow : Flow) (ack : Ack) → flow.epoch ≡ Some (epoch first) → IsEnvOf form (env_of flow.machine.kept) → slice_get all flow.count ≡ Some ack
      → Step flow ack (came_at flow ack) (met_at flow ack)
  step first flow ack is shape at =
      subst (λ (f : Flow). Step f ack (came_at f ack) (met_at f ack)) (λ i. record flow { epoch = sym is i }) (step-in first flow ack shape at)

  -- ---- a flow that runs the program, in a datapath

  record Runs (state : FeedState) (flow : Flow) : Type 0 where
    within : d.flow < length state.flows
    there_is : there state.flows d.flow ≡ Some flow
    code_is : there state.programs d.program ≡ Some code
    first : ℕ
    epoch_is : flow.epoch ≡ Some (epoch first)
    version_is : flow.version ≡ d.version

  abbrev with_flow_counted : FeedState → Flow → FeedState
  with_flow_counted state flow = record {
    flows = slice_set state.flows d.flow (Some flow);
    programs = state.programs;
    messages = state.messages + 1;
  }

  module _ (state : FeedState) (flow : Flow) (runs : Runs state flow) (ack : Ack) where
    abbrev flow_next : Flow
    flow_next = flow_after (came_at flow ack) ack flow

    acked-there : answer_message state (message.Ack d.flow ack) d.version ≡ (answer (came_at flow ack) flow ack, with_flow_counted state flow_next)
    acked-there =
        ap (λ f. counted (flow_acked f state d.version d.flow ack)) runs.there_is
        ∙ ap (λ e. counted (acked_on (running_code e state.programs) state d.flow ack flow)) runs.epoch_is
        ∙ ap (λ c. counted (acked_on c state d.flow ack flow)) runs.code_is
        ∙ ap (λ (v : Version). (in_version v (message_about (came_at flow ack) ack d.flow flow), with_flow_counted state flow_next)) runs.version_is

    runs-on : Runs (with_flow_counted state flow_next) flow_next
    runs-on =
        let later = heard-epoch (came_at flow ack).0 (flow.count + 1) runs.first in
        record {
          within = omega (arith, runs.within, length-set state.flows d.flow (Some flow_next));
          there_is = put-there state.flows d.flow flow_next runs.within;
          code_is = runs.code_is;
          first = later.0;
          epoch_is = ap (epoch_heard (came_at flow ack).0 (flow.count + 1)) runs.epoch_is ∙ later.1;
          version_is = runs.version_is;
        }

  -- ---- all acknowledgements

  record Told (rest : List Ack) (track : Track) (answers : List Sent) : Type 0 where
    notice : Option Notice
    reports : answers ≡ map (measure_of d) (reports (by_source form) fold_reporter (map with_room rest) track) ++ map (fault_of d) (listed notice)
    fault : option_map (told_fault places) notice ≡ epoch_fault (by_source form) (map with_room rest) track
    noticed : ForSome notice (IsFoldNotice all places (after (by_source form) (map with_room rest) track).env.cwnd)

  no-fault : (notice : Option Notice) → option_map (told_fault places) notice ≡ None → map (fault_of d) (listed notice) ≡ []
  no-fault None e = refl
  no-fault (Some notice) e = absurd cc

  join : (rest : List Ack) (flow : Flow) (ack : Ack) (came : Option Acked × MachineState) (answers : List Sent)
      → Agrees flow ack came (met_at flow ack) → Told rest (after_outcome (met_at flow ack) (track_of flow)) answers
      → Told (ack ∷ rest) (track_of flow) (listed (answer came flow ack) ++ answers)
  join rest flow ack came answers (reports_alone same none) later =
      let here : List Report = reports_met fold_reporter (track_of flow) ack (met_at flow ack).0 (met_at flow ack).1 in
      let others : List Report = reports (by_source form) fold_reporter (map with_room rest) (after_outcome (met_at flow ack) (track_of flow)) in
      let faults : List Sent = map (fault_of d) (listed later.notice) in
      record {
        notice = later.notice;
        reports = (λ i. same i ++ later.reports i)
            ∙ sym (append_assoc (map (measure_of d) here) (map (measure_of d) others) faults)
            ∙ ap (λ xs. xs ++ faults) (sym (map-append (measure_of d) here others));
        fault = later.fault ∙ sym (ap (λ f. option_or f (epoch_fault (by_source form) (map with_room rest) (after_outcome (met_at flow ack) (track_of flow)))) none);
        noticed = later.noticed;
      }
  join rest flow ack came answers (fault_alone notice said no_reports is stops noticed) later =
      let track : Track = after_outcome (met_at flow ack) (track_of flow) in
      let none : answers ≡ [] = later.reports
      ∙ ap (λ (rs : List Report). map (measure_of d) rs ++ map (fault_of d) (listed later.notice)) (stopped-reports form rest track stops)
      ∙ no-fault later.notice (later.fault ∙ stopped-fault form rest track stops) in
      let no_more : reports_met fold_reporter (track_of flow) ack (met_at flow ack).0 (met_at flow ack).1 ++ reports (by_source form) fold_reporter (map with_room rest) track ≡ [] = λ i. no_reports i ++ stopped-reports form rest track stops i in
      record {
        notice = Some notice;
        reports = (λ i. said i ++ none i) ∙ sym (ap (λ (rs : List Report). map (measure_of d) rs ++ fault_of d notice ∷ []) no_more);
        fault = sym (ap (λ f. option_or f (epoch_fault (by_source form) (map with_room rest) track)) is);
        noticed = λ other e.
            subst (λ (n : Notice). IsFoldNotice all places (after (by_source form) (map with_room rest) track).env.cwnd n) (same_Some notice other e)
            (subst (λ (env : Env). IsFoldNotice all places env.cwnd notice) (sym (stopped-env form rest track stops)) noticed);
      }

  hears : (rest : List Ack) (state : FeedState) (flow : Flow) → Runs state flow → IsEnvOf form (env_of flow.machine.kept) → rest ≡ drop flow.count all
      → Told rest (track_of flow) (answers_to state (acks_sent rest))
  hears [] state flow runs shape here = record { notice = None; reports = refl; fault = refl; noticed = λ notice e. absurd (none-some notice e) }
  hears (ack ∷ rest) state flow runs shape here =
      let at = next-item flow.count all ack rest here in
      let s = step runs.first flow ack runs.epoch_is shape at in
      let next : Flow = flow_next state flow runs ack in
      let env : env_of next.machine.kept ≡ (met_at flow ack).1 = ap (λ (t : Track). t.env) s.track in
      let shape' = subst (λ (e : Env). IsEnvOf form e) (sym env) (heard-shape form flow.machine.is_stopped (env_of flow.machine.kept) ack shape) in
      let later = hears rest (with_flow_counted state next) next (runs-on state flow runs ack) shape' (items-after flow.count all ack rest here) in
      let more : List Sent = answers_to (with_flow_counted state next) (acks_sent rest) in
      subst (λ (answers : List Sent). Told (ack ∷ rest) (track_of flow) answers)
      (sym (ap (λ (a : MessageAnswer). listed a.0 ++ answers_to a.1 (acks_sent rest)) (acked-there state flow runs ack)))
      (join rest flow ack (came_at flow ack) more s.agrees (subst (λ (t : Track). Told rest t more) s.track later))

  -- ---- the deployment

  abbrev fresh : Flow
  fresh = fresh_flow d.version d.cwnd

  abbrev begun : Flow
  begun = changed_flow code d.program d.values fresh

  module _ (state : FeedState) (starts : StartsAsFold state d built) where
    abbrev with_created : FeedState
    with_created = with_flow_counted state fresh

    abbrev with_installed : FeedState
    with_installed = record {
      flows = with_created.flows;
      programs = slice_set state.programs d.program (Some code);
      messages = with_created.messages + 1;
    }

    abbrev with_begun : FeedState
    with_begun = with_flow_counted with_installed begun

    flow-within : d.flow < length state.flows
    flow-within = omega (arith, starts.flow, starts.feed.flows_full)

    program-within : d.program < length state.programs
    program-within = omega (arith, starts.program.0, starts.feed.programs_full)

    program-below : nat_lt d.program most_kept_programs ≡ true
    program-below = lt-ltb d.program most_kept_programs starts.program.0

    created-there : answer_message state (Create d.flow d.mss d.cwnd) d.version ≡ (None, with_created)
    created-there =
        ap (λ b. counted (cond b (created_at (there state.flows d.flow) state d.version d.flow d.cwnd) (refused state d.version d.flow FlowAbove 0))) (lt-ltb d.flow most_flows starts.flow)
        ∙ ap (λ f. counted (created_at f state d.version d.flow d.cwnd)) starts.no_flow

    installed-there : answer_message with_created (Install d.flow d.program code) d.version ≡ (None, with_installed)
    installed-there =
        ap (λ b. counted (cond b (installed_at (there state.programs d.program) with_created d.version d.flow d.program code) (refused with_created d.version d.flow ProgramAbove d.program))) program-below
        ∙ ap (λ c. counted (installed_at c with_created d.version d.flow d.program code)) starts.program.1
        ∙ ap (λ r. counted (installed_as r with_created d.version d.flow d.program code)) built.simulates.0

    start-parts : (bad : Option ℕ) (env goal : Env) → start_from bad d.values env ≡ Ok goal → (bad ≡ None) × (epochs.with_values d.values env ≡ goal)
    start-parts None env goal e = (refl, IfOk-at_ok (λ (end : Env). epochs.with_values d.values env ≡ end) e refl)
    start-parts (Some place) env goal e = absurd cc

    abbrev declared : Env
    declared = declared_env form d.cwnd 0 0

    started-there : (first_bad_pair (length form.controls) d.values ≡ None) × (epochs.with_values d.values declared ≡ (fold_start form).env)
    started-there = start-parts (first_bad_pair (length form.controls) d.values) declared (fold_start form).env starts.start

    good-values : first_bad_pair (length code.controls) d.values ≡ None
    good-values = ap (λ n. first_bad_pair n d.values) (ap length built.simulates.2.1 ∙ length-map form.controls register_start) ∙ started-there.0

    flow-there : there with_installed.flows d.flow ≡ Some fresh
    flow-there = put-there state.flows d.flow fresh flow-within

    code-there : there with_installed.programs d.program ≡ Some code
    code-there = put-there state.programs d.program code program-within

    changed-there : answer_message with_installed (Change d.flow d.program d.values) d.version ≡ (None, with_begun)
    changed-there =
        ap (λ f. counted (changed_at f with_installed d.version d.flow d.program d.values)) flow-there
        ∙ ap (λ b. counted (cond b (changed_to (there with_installed.programs d.program) with_installed d.version d.flow d.program d.values fresh) (refused with_installed d.version d.flow ProgramAbove d.program))) program-below
        ∙ ap (λ c. counted (changed_to c with_installed d.version d.flow d.program d.values fresh)) code-there
        ∙ ap (λ b. counted (cond b (refused with_installed d.version d.flow TooWide d.program) (changed_with (first_bad_pair (length code.controls) d.values) with_installed d.version d.flow d.program d.values fresh code))) starts.narrow
        ∙ ap (λ bad. counted (changed_with bad with_installed d.version d.flow d.program d.values fresh code)) good-values

    begun-runs : Runs with_begun begun
    begun-runs = record {
      within = omega (arith, flow-within, length-set state.flows d.flow (Some fresh), length-set with_installed.flows d.flow (Some begun));
      there_is = put-there with_installed.flows d.flow begun (omega (arith, flow-within, length-set state.flows d.flow (Some fresh)));
      code_is = code-there;
      first = 0;
      epoch_is = refl;
      version_is = refl;
    }

    begun-env : env_of begun.machine.kept ≡ (fold_start form).env
    begun-env = values-alike d.values (declared_kept code d.cwnd 0 0)
        ∙ ap (epochs.with_values d.values) (declared-simulated form code places built.simulates d.cwnd 0 0)
        ∙ started-there.1

    begun-track : track_of begun ≡ fold_start form
    begun-track = λ i. record { env = begun-env i; is_stopped = false; first = 0; count = 0 }

    -- the answers to the messages after one that has none
    unanswered : (before next : FeedState) (message : Message) (rest : List Sent) → answer_message before message d.version ≡ (None, next)
        → answers_to before ((message, d.version) ∷ rest) ≡ answers_to next rest
    unanswered before next message rest is = ap (λ (a : MessageAnswer). listed a.0 ++ answers_to a.1 rest) is

    heard-all : Told all (fold_start form) (answers_to state (deployed d code all))
    heard-all =
        let shape = subst (λ (e : Env). IsEnvOf form e) (sym begun-env) (IsEnvOf-declared_env form 0 0 0) in
        let told = subst (λ (t : Track). Told all t (answers_to with_begun (acks_sent all))) begun-track (hears all with_begun begun begun-runs shape refl) in
        let install : Message = Install d.flow d.program code in
        let change : Message = Change d.flow d.program d.values in
        subst (λ (answers : List Sent). Told all (fold_start form) answers)
        (sym (unanswered state with_created (Create d.flow d.mss d.cwnd) ((install, d.version) ∷ (change, d.version) ∷ acks_sent all) created-there
        ∙ unanswered with_created with_installed install ((change, d.version) ∷ acks_sent all) installed-there
        ∙ unanswered with_installed with_begun change (acks_sent all) changed-there))
        told

pub answers-as-fold : FeedAnswersAsFold
answers-as-fold built acks state d starts =
    let told = heard-all d built acks state starts in
    record { notice = told.notice; reports = told.reports; fault = told.fault; noticed = told.noticed }

-- ---- a datapath without flows

all-same : {A : Type 0} (P : A → Type 0) (x : A) → P x → (n : ℕ) → AllByRecursion P (replicate n x)
all-same P x is n = recursion_from_All P (replicate n x) (All-replicate P n x is)

none-there : {A : Type 0} (count n : ℕ) → there {A = A} (replicate count None) n ≡ None
none-there zero n = refl
none-there (suc count) zero = refl
none-there (suc count) (suc n) = none-there count n

pub starts-at-window-zero : StartsAtWindowZero
starts-at-window-zero built d flow program narrow values = record {
  feed = record {
    flows_full = refl;
    programs_full = refl;
    accepted = all-same IsAcceptedThere None tt most_kept_programs;
    each = all-same (IsFlowThere no_flows.programs 0) None tt most_flows;
  };
  flow = flow;
  no_flow = none-there most_flows d.flow;
  program = (program, none-there most_kept_programs d.program);
  narrow = narrow;
  start = ap (λ values. epochs.epoch_start (form_of built.program) values d.cwnd 0 0) values;
}

-- ---- frames of messages

-- an answer and further ones, as they are written
written-next : (answer : Answer) (rest : List Sent) → frames_of (listed answer ++ rest) ≡ answer_bytes answer ++ frames_of rest
written-next None rest = refl
written-next (Some (message, version)) rest = refl

-- the frames of messages have these answers, and nothing is left after them
record IsFedWhole (fed : Fed FeedState) (answers : List Sent) : Type 0 where
  written : fed.answers ≡ frames_of answers
  place : ℕ
  end : fed.tail ≡ left place []

-- a message that has a frame meets the conditions of the version
meets-frame : (message : Message) (version : Version) → HasFrame version message → Meets version message × IsTyped message
meets-frame message version (bytes, read) =
    let all : length bytes - 0 ≡ length bytes = omega arith in
    let found : decoded_of bytes ≡ Ok (message, version, length bytes) =
    ap (λ read. decoded_from bytes (found_from (length bytes) read)) read.whole ∙ (λ i. Ok (read.said i, read.version_is i, all i)) in
    let begins = decoded-begins bytes (message, version, length bytes) (all-bytes bytes read.are_bytes) found in
    (begins.meets, begins.typed)

next-frame : (frames place : ℕ) (state : FeedState) (message : Message) (version : Version) (more : List ℕ) → HasFrame version message
    → fed answer_message (suc frames) place state (frame_bytes version message ++ more)
    ≡ with_answers (answer_to answer_message state message version) (fed answer_message frames (place + length (frame_bytes version message)) (answer_message state message version).1 more)
next-frame frames place state message version more has =
    let frame : List ℕ = frame_bytes version message in
    let good = meets-frame message version has in
    let read : decoded_of (frame ++ more) ≡ Ok (message, version, length frame) =
    begins-decoded (frame ++ more) message version (length frame) (record { rest = more; parts = refl; used_is = refl; meets = good.0; typed = good.1 }) in
    ap (fed_on answer_message (fed answer_message frames) place state (frame ++ more)) read
    ∙ ap (λ bytes. with_answers (answer_to answer_message state message version) (fed answer_message frames (place + length frame) (answer_message state message version).1 bytes)) (drop-append_seam frame more)

fed-messages : (messages : List Sent) (frames place : ℕ) (state : FeedState) → AllByRecursion (λ (sent : Sent). HasFrame sent.1 sent.0) messages → length (frames_of messages) ≤ frames
    → IsFedWhole (fed answer_message frames place state (frames_of messages)) (answers_to state messages)
fed-messages [] frames place state have few =
    let nothing : fed answer_message frames place state [] ≡ fed_no_more (left place []) state = fed-fuel answer_message frames zero place state [] few (omega arith) in
    record { written = ap (λ (f : Fed FeedState). f.answers) nothing; place = place; end = ap (λ (f : Fed FeedState). f.tail) nothing }
fed-messages ((message, version) ∷ rest) zero place state have few =
    let some : 0 < length (frame_bytes version message) = omega arith in
    absurd (omega (arith, some, few, length-append (frame_bytes version message) (frames_of rest)))
fed-messages ((message, version) ∷ rest) (suc frames) place state have few =
    let frame : List ℕ = frame_bytes version message in
    let some : 0 < length frame = omega arith in
    let answered : MessageAnswer = answer_message state message version in
    let later = fed-messages rest frames (place + length frame) answered.1 have.1 (omega (arith, some, few, length-append frame (frames_of rest))) in
    let whole = next-frame frames place state message version (frames_of rest) have.0 in
    record {
      written = ap (λ (f : Fed FeedState). f.answers) whole
          ∙ ap (λ bytes. answer_bytes answered.0 ++ bytes) later.written
          ∙ sym (written-next answered.0 (answers_to answered.1 rest));
      place = later.place;
      end = ap (λ (f : Fed FeedState). f.tail) whole ∙ later.end;
    }

pub answers-frames : FeedAnswersFrames
unfolding frames_from
answers-frames messages have few =
    let bytes : List ℕ = frames_of messages in
    let told = fed-messages messages most_input_bytes 0 no_flows have few in
    let whole : feed_of bytes ≡ fed answer_message most_input_bytes 0 no_flows bytes = ap (fed answer_message most_input_bytes 0 no_flows) (take_all most_input_bytes bytes few) in (
      ap (λ (f : Fed FeedState). end_from f.tail false (nat_lt most_input_bytes (length bytes))) whole
          ∙ ap (λ (tail : Tail). end_from tail false (nat_lt most_input_bytes (length bytes))) told.end
          ∙ ap (end_from (left told.place []) false) (le-ltb most_input_bytes (length bytes) few),
      ap (λ (f : Fed FeedState). f.answers) whole ∙ told.written,
    )
