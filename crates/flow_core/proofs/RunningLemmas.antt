-- What is kept of a program that runs after each step is the summary after it.
use Rattle.std.specs.Prelude.{◌≡◌, ◌↔◌, IsTrue, ℕ, ◌+◌, ◌-◌, ◌<◌, ◌≤◌, min, Bool, true, false, not, nat_lt, is_some, Option, Some, None, option_map, unwrap_or, List, [], ◌∷◌, ◌++◌, length, take, drop, refl}
use Rattle.std.proofs.Common.{add-zero, ap, sym, ◌∙◌, subst, arith, length-append, append-nil}
use Rattle.std.proofs.lemmas.Bool.{true≢false}
use Rattle.std.proofs.Math.Seq.{take-append_seam}
use Rattle.std.proofs.lemmas.List.{take-append-drop}
use Rattle.std.specs.FinMap as map
use Rattle.std.specs.Ordering.{nat_cmp}
use Rattle.ccp_base.specs.FieldReg.{Pair}
use Rattle.ccp_base.specs.Limits.{most_fields}
use Rattle.ccp_base.specs.RunningEpochs.{reporter, report_at, reported_epoch, opening_epoch}
use Rattle.ccp_base.specs.declared.ack.Ack.{Ack}
use Rattle.ccp_base.specs.declared.arithmetic.FaultKind.{FaultKind}
use Rattle.ccp_base.specs.declared.exchange.Notice.{Notice}
use Rattle.ccp_base.specs.declared.exchange.Report.{Report}
use Rattle.ccp_base.specs.declared.exchange.Told.{Told}
use Rattle.ccp_base.specs.declared.exchange.Told.TheVariants as said
use Rattle.ccp_base.specs.declared.running_epoch.RunningEpoch.{RunningEpoch}
use Rattle.portus_core.specs.declared.env.Env.{Env}
use Rattle.portus_core.specs.Epoch.{Outcome, quiet, reported, held, failed, stopped, stops, heard}
use Rattle.portus_core.specs.Reports.{report_of}
use Rattle.reg_code.specs.declared.code.Code.{Code}
use Rattle.reg_code.specs.CodeStart.{with_values, declared_kept}
use Rattle.fold_machine.specs.declared.acked.Acked.{Acked}
use Rattle.fold_machine.specs.declared.acked.Acked.TheVariants as acked
use Rattle.fold_machine.specs.Heard.{started_by}
use Rattle.fold_machine.specs.MachineState.{MachineState, Fits, fresh_machine}
use Rattle.fold_machine.specs.Store.{slot_words}
use Rattle.slot_pool.specs.Pool.{PoolState, words_at, free_of}
use Rattle.flow_lists.specs.Outbox.{OutboxState, report_words, ReportFits, AreStored, Lies, next_told, notice_left, empty_outbox}
use Rattle.flow_lists.specs.ReportWords.{narrow, report_in}
use Rattle.flow_core.specs.declared.running.Issued.{Issued}
use Rattle.flow_core.specs.declared.running.Running.{Running}
use Rattle.flow_core.specs.Readings.{env_of, by_code}
use Rattle.flow_core.specs.Cores.{acked_as, ran_by}
use Rattle.flow_core.specs.LiveText.{reports_told}
use Rattle.flow_core.specs.MachineCalls.{heard_on, ran_on}
use Rattle.flow_core.specs.Runnings.{reports_in, out_by, RunningSummary, running_by, AreCounted, IsRunning, RunsOn, running_at_start, started_env, step_note, step_machine, step_count, step_outcome, outcome_for, instructions_for, step_run, Notes, next_telling, can_tell, with_told, step_issue, closed, step_update, step_start, started}
use Rattle.flow_core.specs.States.{outcome_by, some_count}
use Rattle.flow_core.proofs.ValueLemmas.{values-alike}

-- ---- the reports of slots

narrow-small : (n : ℕ) → n ≤ 4294967295 → narrow n ≡ n
narrow-small n small = omega (arith, small)

-- words that begin with a report's
read-again : (report : Report) (rest : List ℕ) → ReportFits report → report_in (report_words report ++ rest) ≡ report
read-again report rest range =
    let few : min (length report.fields) most_fields ≡ length report.fields = omega (arith, range.fields) in
    λ i. record {
      flow = narrow-small report.flow (omega (arith, range.flow)) i;
      program = narrow-small report.program (omega (arith, range.program)) i;
      epoch = narrow-small report.epoch (omega (arith, range.epoch)) i;
      first = report.first;
      end = report.end;
      now = report.now;
      cwnd = report.cwnd;
      rate = report.rate;
      fields = (ap (λ (n : ℕ). take n (report.fields ++ rest)) few ∙ take-append_seam report.fields rest) i;
    }

read-stored : (report : Report) (words : Option (List ℕ)) → ReportFits report
    → option_map (take (length (report_words report))) words ≡ Some (report_words report) → report_in (unwrap_or words []) ≡ report
read-stored report None range begins = absurd (let wrong : None ≡ Some (report_words report) = begins in (cc))
read-stored report (Some words) range begins =
    let front : take (length (report_words report)) words ≡ report_words report =
    ap (λ (o : Option (List ℕ)). unwrap_or o []) begins in
    let rest = drop (length (report_words report)) words in
    ap report_in (sym (take-append-drop (length (report_words report)) words) ∙ ap (λ (xs : List ℕ). xs ++ rest) front)
    ∙ read-again report rest range

pub reports-stored : (pool : PoolState) (slots : List ℕ) (reports : List Report) → AreStored pool slots reports → reports_in pool slots ≡ reports
reports-stored pool [] [] stored = refl
reports-stored pool (slot ∷ slots) (report ∷ reports) stored =
    λ i. read-stored report (words_at pool slot) stored.0.in_range stored.0.begins i ∷ reports-stored pool slots reports stored.1 i
reports-stored pool [] (report ∷ reports) stored = absurd stored
reports-stored pool (slot ∷ slots) [] stored = absurd stored

-- as many reports as slots
pub length-in : (pool : PoolState) (slots : List ℕ) → length (reports_in pool slots) ≡ length slots
length-in pool [] = refl
length-in pool (slot ∷ slots) = omega (arith, length-in pool slots)

-- ---- a taking

-- the next report or notice, with what is left
pub told-next : (pool : PoolState) (slots : List ℕ) (untold : Option Notice) (told : Told)
    → Some told ≡ next_told (reports_in pool slots) untold
    → next_telling (reports_in pool slots) untold ≡ Some (told, (drop 1 (reports_in pool slots), notice_left slots untold))
told-next pool (slot ∷ slots) untold told is =
    let one = report_in (unwrap_or (words_at pool slot) []) in
    let same : told ≡ said.Report one = ap (λ (o : Option Told). unwrap_or o told) is in
    λ i. Some (sym same i, (reports_in pool slots, untold))
told-next pool [] (Some notice) told is =
    let same : told ≡ said.Fault notice = ap (λ (o : Option Told). unwrap_or o told) is in
    λ i. Some (sym same i, ([], None))
told-next pool [] None told is = absurd (let wrong : Some told ≡ None = is in (cc))

range-told : (waiting : List Report) (untold : Option Notice) (s : RunningSummary) → s.waiting ≡ waiting → s.untold ≡ untold
    → s.out ≡ None → is_some (next_telling waiting untold) ≡ true → AreCounted s → AreCounted (with_told (next_telling waiting untold) s)
range-told [] None s waits tells none some range = absurd (let wrong : false ≡ true = some in (cc))
range-told [] (Some notice) s waits tells none some range = record {
  tickets = let before = range.tickets in omega (arith, before, ap length waits, ap some_count tells, ap some_count none);
  epochs = range.epochs;
  told = range.told;
  faults = range.faults;
  held = range.held;
}
range-told (report ∷ rest) untold s waits tells none some range = record {
  tickets = let before = range.tickets in omega (arith, before, ap length waits, ap some_count tells, ap some_count none);
  epochs = range.epochs;
  told = range.told;
  faults = range.faults;
  held = range.held;
}

range-take : (s : RunningSummary) → s.out ≡ None → can_tell s ≡ true → AreCounted s → AreCounted (step_issue s)
range-take s none some range = range-told s.waiting s.untold s refl refl none some range

-- a report waits or a notice is untold if and only if not both are missing
pub can-tell : (pool : PoolState) (slots : List ℕ) (untold : Option Notice) (empty : Bool)
    → (IsTrue empty ↔ ((slots ≡ []) × (untold ≡ None))) → not empty ≡ is_some (next_telling (reports_in pool slots) untold)
can-tell pool slots untold true same =
    let both = same.0 refl in
    λ i. is_some (next_telling (reports_in pool (sym both.0 i)) (sym both.1 i))
can-tell pool [] None false same = absurd (let wrong : false ≡ true = same.1 (refl, refl) in (cc))
can-tell pool [] (Some notice) false same = refl
can-tell pool (slot ∷ slots) untold false same = refl

-- what tells something isn't without a report and a notice
pub tells-some : (pool : PoolState) (slots : List ℕ) (untold : Option Notice) → is_some (next_telling (reports_in pool slots) untold) ≡ true
    → (slots ≡ []) × (untold ≡ None) → ⊥
tells-some pool slots untold some both =
    true≢false (sym some ∙ (λ i. is_some (next_telling (reports_in pool (both.0 i)) (both.1 i))))

module _ (s : Running) (machine : MachineState) (outbox : OutboxState) (told : Told)
    (framed : machine ≡ record s.machine { further = machine.further })
    (is_told : Some told ≡ next_told (reports_in s.machine.further s.outbox.slots) s.outbox.untold)
    (lies : Lies machine.further outbox.slots (drop 1 (reports_in s.machine.further s.outbox.slots)))
    (untold : outbox.untold ≡ notice_left s.outbox.slots s.outbox.untold) where
  abbrev pub issued : Running
  issued = record s { machine = machine; outbox = outbox; content = told; taken = Some s.acks }

  waiting-left : reports_in machine.further outbox.slots ≡ drop 1 (reports_in s.machine.further s.outbox.slots)
  waiting-left = reports-stored machine.further outbox.slots (drop 1 (reports_in s.machine.further s.outbox.slots)) lies.stored

  pub step-issued : running_by issued ≡ step_issue (running_by s)
  step-issued =
      (λ i. record (running_by s) {
        track = record (running_by s).track { env = env_of (framed i).kept; is_stopped = (framed i).is_stopped };
        waiting = waiting-left i;
        untold = untold i;
        out = Some (record { told = told; taken = s.acks });
      })
      ∙ sym (ap (λ (o : Option (Told × (List Report × Option Notice))). with_told o (running_by s)) (told-next s.machine.further s.outbox.slots s.outbox.untold told is_told))

  pub is-issued : IsRunning s → out_by s ≡ None → can_tell (running_by s) ≡ true
      → machine.further.words ≡ slot_words
      → free_of machine.further + length outbox.slots ≡ free_of s.machine.further + length s.outbox.slots
      → outbox.size ≡ s.outbox.size
      → IsRunning issued
  is-issued is none some words free size = record {
    words = words;
    free = free ∙ is.free ∙ sym size;
    lies = subst (λ (rs : List Report). Lies machine.further outbox.slots rs) (sym waiting-left) lies;
    counts = subst AreCounted (sym step-issued) (range-take (running_by s) none some is.counts);
  }

-- a machine of which only the further slots are others runs the same code
pub fits-framed : (old new : MachineState) (code : Code) → new ≡ record old { further = new.further } → Fits old code → Fits new code
fits-framed old new code framed fits =
    subst (λ (m : MachineState). Fits m code) (sym framed) (record { started = fits.started; kept = fits.kept })

-- ---- an acknowledgement

-- an answer is that of its outcome
pub acked-by : (answer : Acked) (report : List ℕ) → acked_as (outcome_by answer report) ≡ answer
acked-by acked.Quiet report = refl
acked-by acked.Reported report = refl
acked-by acked.Held report = refl
acked-by (acked.Faulted kind index) report = refl
acked-by acked.Stopped report = refl

-- its parts: the machine runs, what comes of it is noted, and it is counted
pub put-parts : {X : Type 0} → (flow : ℕ) (index : X → ℕ) (ack : Ack) (outcome : Outcome (FaultKind × X)) (env : Env) (s : RunningSummary)
    → step_outcome flow index ack (outcome, env) s ≡ step_count ack (step_note flow index ack outcome (step_machine (outcome, env) s))
put-parts flow index ack quiet env s = λ i. record (step_outcome flow index ack (quiet, env) s) { waiting = append-nil s.waiting i; faults = add-zero s.faults i; held = add-zero s.held i }
put-parts flow index ack stopped env s = λ i. record (step_outcome flow index ack (stopped, env) s) { waiting = append-nil s.waiting i; faults = add-zero s.faults i; held = add-zero s.held i }
put-parts flow index ack held env s = λ i. record (step_outcome flow index ack (held, env) s) { waiting = append-nil s.waiting i; faults = add-zero s.faults i }
put-parts flow index ack (reported fields) env s = λ i. record (step_outcome flow index ack (reported fields, env) s) { faults = add-zero s.faults i; held = add-zero s.held i }
put-parts flow index ack (failed fault) env s = λ i. record (step_outcome flow index ack (failed fault, env) s) { waiting = append-nil s.waiting i; held = add-zero s.held i }

-- one acknowledgement more, and at most one report or notice, one fault and one held report
range-more : (s next : RunningSummary)
    → next ≡ record s { track = next.track; acks = s.acks + 1; time = next.time; waiting = next.waiting; untold = next.untold; faults = next.faults; held = next.held }
    → length next.waiting + some_count next.untold ≤ (length s.waiting + some_count s.untold) + 1
    → next.faults ≤ s.faults + 1 → next.held ≤ s.held + 1 → AreCounted s → AreCounted next
range-more s next is open_ fault hold range =
    let tickets = range.tickets in
    let faults = range.faults in
    let before = range.held in
    subst (AreCounted) (sym is) (record {
      tickets = omega (arith, tickets, open_);
      epochs = range.epochs;
      told = range.told;
      faults = omega (arith, faults, fault);
      held = omega (arith, before, hold);
    })

range-met : {X : Type 0} → (flow : ℕ) (index : X → ℕ) (ack : Ack) (outcome : Outcome (FaultKind × X)) (env : Env) (s : RunningSummary)
    → AreCounted s → AreCounted (step_outcome flow index ack (outcome, env) s)
range-met flow index ack quiet env s range =
    range-more s (step_outcome flow index ack (quiet, env) s) refl (omega (arith, length-append s.waiting [])) (omega arith) (omega arith) range
range-met flow index ack stopped env s range =
    range-more s (step_outcome flow index ack (stopped, env) s) refl (omega (arith, length-append s.waiting [])) (omega arith) (omega arith) range
range-met flow index ack held env s range =
    range-more s (step_outcome flow index ack (held, env) s) refl (omega (arith, length-append s.waiting [])) (omega arith) (omega arith) range
range-met flow index ack (reported fields) env s range =
    let report = report_of (reporter flow s.program s.epoch) s.track ack env fields in
    range-more s (step_outcome flow index ack (reported fields, env) s) refl (omega (arith, length-append s.waiting (report ∷ []))) (omega arith) (omega arith) range
range-met flow index ack (failed fault) env s range =
    range-more s (step_outcome flow index ack (failed fault, env) s) refl (omega (arith, length-append s.waiting [])) (omega arith) (omega arith) range

-- a report was put at the outbox's end
module _ (flow : ℕ) (s : Running) (ack : Ack) (machine : MachineState) (outbox : OutboxState) (report : Report) (epoch : RunningEpoch)
    (framed : machine ≡ record s.machine { further = machine.further })
    (lies : Lies machine.further outbox.slots (reports_in s.machine.further s.outbox.slots ++ report ∷ []))
    (untold : outbox.untold ≡ s.outbox.untold)
    (is_report : report ≡ report_at s.epoch flow (s.acks + 1) ack.now s.machine.kept.cwnd s.machine.kept.rate s.machine.report)
    (is_epoch : epoch ≡ reported_epoch (s.acks + 1) s.epoch) where
  abbrev pub put : Running
  put = record s { machine = machine; outbox = outbox; epoch = epoch }

  waiting-more : reports_in machine.further outbox.slots ≡ reports_in s.machine.further s.outbox.slots ++ report ∷ []
  waiting-more = reports-stored machine.further outbox.slots (reports_in s.machine.further s.outbox.slots ++ report ∷ []) lies.stored

  pub noted-report : machine.further.words ≡ slot_words
      → free_of machine.further + length outbox.slots ≡ free_of s.machine.further + length s.outbox.slots
      → outbox.size ≡ s.outbox.size
      → Notes flow s put ack (reported s.machine.report)
  noted-report words free size = record {
    frame = (λ i. record put { epoch = is_epoch i }) ∙ (λ i. record put { epoch = record s.epoch { first = (sym is_epoch i).first } });
    machine = framed;
    words = words;
    free = free;
    size = size;
    lies = subst (λ (rs : List Report). Lies machine.further outbox.slots rs) (sym waiting-more) lies;
    step_note =
        λ i. record (running_by s) {
          program = (is_epoch i).program;
          epoch = (is_epoch i).number;
          track = record { env = env_of (framed i).kept; is_stopped = (framed i).is_stopped; first = (is_epoch i).first; count = s.acks };
          waiting = (waiting-more ∙ ap (λ (r : Report). reports_in s.machine.further s.outbox.slots ++ r ∷ []) is_report) i;
          untold = untold i;
        };
  }

-- the machine ran an acknowledgement, and its outcome was recorded
module _ (s : Running) (ack : Ack) where
  abbrev kept : RunningSummary
  kept = running_by s

  module _ (code : Code) (room : Bool) (is_room : room ≡ nat_lt (length s.outbox.slots) s.outbox.size) where
    room-kept : room ≡ nat_lt (length kept.waiting) s.outbox.size
    room-kept = is_room ∙ (λ i. nat_lt (sym (length-in s.machine.further s.outbox.slots) i) s.outbox.size)

    pub met-kept : heard_on code s.machine ack room ≡ outcome_for (by_code code) s.outbox.size ack kept
    met-kept = λ i. heard (by_code code) s.machine.is_stopped (env_of s.machine.kept) ack (room-kept i)

    pub ran-kept : ran_on code s.machine ack room ≡ instructions_for code s.outbox.size ack kept
    ran-kept = λ i. ran_by s.machine.is_stopped code (env_of s.machine.kept) ack (room-kept i)

  module _ (flow : ℕ) (code : Code) (outcome : Outcome (FaultKind × ℕ)) (machine : MachineState) (noted : Running)
      (met : outcome_for (by_code code) s.outbox.size ack kept ≡ (outcome, env_of machine.kept))
      (is_stopped : machine.is_stopped ≡ stops outcome)
      (further : machine.further ≡ s.machine.further)
      (down : Notes flow (record s { machine = machine }) noted ack outcome) where
    abbrev pub after : Running
    after = record noted { acks = noted.acks + 1; time = ack.now }

    ran : running_by (record s { machine = machine }) ≡ step_machine (outcome, env_of machine.kept) kept
    ran = λ i. record kept {
      track = record kept.track { env = env_of machine.kept; is_stopped = is_stopped i };
      waiting = reports_in (further i) s.outbox.slots;
    }

    pub step-ran : running_by after ≡ step_run code flow s.outbox.size ack kept
    step-ran =
        ap (step_count ack) down.step_note
        ∙ ap (λ (t : RunningSummary). step_count ack (step_note flow (λ (i : ℕ). i) ack outcome t)) ran
        ∙ sym (put-parts flow (λ (i : ℕ). i) ack outcome (env_of machine.kept) kept)
        ∙ ap (λ (m : Outcome (FaultKind × ℕ) × Env). step_outcome flow (λ (i : ℕ). i) ack m kept) (sym met)

    pub is-ran : IsRunning s → IsRunning after
    is-ran is =
        let whole : AreCounted (step_run code flow s.outbox.size ack kept) =
        subst (λ (m : Outcome (FaultKind × ℕ) × Env). AreCounted (step_outcome flow (λ (i : ℕ). i) ack m kept)) (sym met)
        (range-met flow (λ (i : ℕ). i) ack outcome (env_of machine.kept) kept is.counts) in
        record {
          words = down.words;
          free = down.free ∙ ap (λ pool. free_of pool + length s.outbox.slots) further ∙ is.free ∙ sym down.size;
          lies = down.lies;
          counts = subst AreCounted (sym step-ran) whole;
        }

-- ---- an answer

told-most : (told : Told) → reports_told told ≤ 1
told-most (said.Report report) = omega arith
told-most (said.Fault notice) = omega arith

-- what the ticket that is out tells, and when it was taken
abbrev pub issued-of : Running → Issued
issued-of s = record { told = s.content; taken = unwrap_or s.taken 0 }

pub issued-out : (s : Running) → is_some (out_by s) ≡ true → out_by s ≡ Some (issued-of s)
issued-out s some = by s.taken some where
  ticket_at : ℕ → Issued
  ticket_at taken = record { told = s.content; taken = taken }

  by : (o : Option ℕ) → is_some (option_map ticket_at o) ≡ true → option_map ticket_at o ≡ Some (ticket_at (unwrap_or o 0))
  by None none = absurd (true≢false (sym none))
  by (Some taken) there = refl

pub is-closed : (s : Running) → IsRunning s → is_some (out_by s) ≡ true → IsRunning (closed s)
is-closed s is out =
    let before = is.counts.tickets in
    let one = ap some_count (issued-out s out) in
    let epochs = is.counts.epochs in
    let told = is.counts.told in
    record {
      words = is.words;
      free = is.free;
      lies = is.lies;
      counts = record {
        tickets = omega (arith, before, one);
        epochs = omega (arith, epochs);
        told = omega (arith, told, told-most s.content);
        faults = is.counts.faults;
        held = is.counts.held;
      };
    }

-- the machine's registers were written
module _ (s : Running) (values : List Pair) where
  abbrev pub updated : Running
  updated = record s { machine = record s.machine { kept = with_values values s.machine.kept } }

  pub step-updated : running_by updated ≡ step_update values (running_by s)
  step-updated = λ i. record (running_by s) { track = record (running_by s).track { env = values-alike values s.machine.kept i } }

  pub is-updated : IsRunning s → IsRunning updated
  is-updated is = record {
    words = is.words;
    free = is.free;
    lies = is.lies;
    counts = record {
      tickets = is.counts.tickets;
      epochs = is.counts.epochs;
      told = is.counts.told;
      faults = is.counts.faults;
      held = is.counts.held;
    };
  }

-- a program was started
module _ (s : Running) (code : Code) (program : ℕ) (values : List Pair) where
  pub step-started : running_by (started code program values s)
      ≡ step_start program (started_env code values s.machine.kept.cwnd s.machine.kept.rate s.time) (running_by s)
  step-started =
      λ i. step_start program (values-alike values (declared_kept code s.machine.kept.cwnd s.machine.kept.rate s.time) i) (running_by s)

  pub is-started : IsRunning s → s.epoch.number < s.answered → IsRunning (started code program values s)
  is-started is epoch =
      let tickets = is.counts.tickets in
      record {
        words = is.words;
        free = is.free;
        lies = is.lies;
        counts = record {
          tickets = omega (arith, tickets);
          epochs = omega (arith, epoch);
          told = is.counts.told;
          faults = is.counts.faults;
          held = is.counts.held;
        };
      }

-- ---- the start

module _ (code : Code) (program : ℕ) (values : List Pair) (cwnd slots : ℕ) (machine : MachineState) (epoch : RunningEpoch) (outbox : OutboxState) (content : Told)
    (is_machine : machine ≡ started_by code values 0 (fresh_machine cwnd 0 slots)) (is_epoch : epoch ≡ opening_epoch program 0)
    (is_outbox : outbox ≡ empty_outbox slots) where
  abbrev pub opened : Running
  opened = record {
    machine = machine;
    epoch = epoch;
    acks = 0;
    time = 0;
    outbox = outbox;
    content = content;
    taken = None;
    answered = 0;
    told = 0;
    faults = 0;
    held = 0;
  }

  abbrev start : RunningSummary
  start = running_at_start program (started_env code values cwnd 0 0)

  waits : reports_in machine.further outbox.slots ≡ []
  waits = ap (λ (o : OutboxState). reports_in machine.further o.slots) is_outbox

  pub step-opened : running_by opened ≡ start
  step-opened =
      λ i. record start {
        program = (is_epoch i).program;
        epoch = (is_epoch i).number;
        track = record {
          env = (ap (λ (m : MachineState). env_of m.kept) is_machine ∙ values-alike values (declared_kept code cwnd 0 0)) i;
          is_stopped = (is_machine i).is_stopped;
          first = (is_epoch i).first;
          count = 0;
        };
        waiting = waits i;
        untold = (is_outbox i).untold;
      }

  pub is-opened : IsRunning opened
  is-opened =
      let none = map.len-empty nat_cmp (List ℕ) in
      let less : slots - 0 ≡ slots = omega arith in
      let free : free_of machine.further ≡ slots = ap (λ (m : MachineState). free_of m.further) is_machine ∙ ap (λ (n : ℕ). slots - n) none ∙ less in
      let waiting : length outbox.slots ≡ 0 = ap (λ (o : OutboxState). length o.slots) is_outbox in
      let size : outbox.size ≡ slots = ap (λ (o : OutboxState). o.size) is_outbox in
      let counted : AreCounted start = record { tickets = omega arith; epochs = omega arith; told = omega arith; faults = omega arith; held = omega arith } in
      record {
        words = ap (λ (m : MachineState). m.further.words) is_machine;
        free = omega (arith, free, waiting, size);
        lies = subst (λ (o : OutboxState). Lies machine.further o.slots (reports_in machine.further o.slots)) (sym is_outbox) (record { owned = tt; stored = tt });
        counts = subst AreCounted (sym step-opened) counted;
      }

-- ---- the programs of a flow

-- the same one of these programs runs on, and as many reports may wait
pub runs-on : (codes : ℕ → Code) (slots : ℕ) (old new : Running) → RunsOn codes slots old → IsRunning new → new.epoch.program ≡ old.epoch.program
    → Fits new.machine (codes old.epoch.program) → new.outbox.size ≡ old.outbox.size → RunsOn codes slots new
runs-on codes slots old new runs is program fits size = record {
  running = is;
  fits = subst (λ (n : ℕ). Fits new.machine (codes n)) (sym program) fits;
  size = size ∙ runs.size;
}

pub runs-closed : (codes : ℕ → Code) (slots : ℕ) (old new : Running) → RunsOn codes slots old → IsRunning new → new ≡ closed old → RunsOn codes slots new
runs-closed codes slots old new runs is framed =
    runs-on codes slots old new runs is (ap (λ (s : Running). s.epoch.program) framed)
    (subst (λ (s : Running). Fits s.machine (codes old.epoch.program)) (sym framed) runs.fits)
    (ap (λ (s : Running). s.outbox.size) framed)

-- a taking leaves the program and the count of acknowledgements
told-same : (told : Option (Told × (List Report × Option Notice))) (s : RunningSummary)
    → ((with_told told s).program ≡ s.program) × ((with_told told s).acks ≡ s.acks)
told-same None s = (refl, refl)
told-same (Some told) s = (refl, refl)

pub issued-same : (s new : Running) → running_by new ≡ step_issue (running_by s) → (new.epoch.program ≡ s.epoch.program) × (new.acks ≡ s.acks)
issued-same s new step =
    let same = told-same (next_telling (running_by s).waiting (running_by s).untold) (running_by s) in
    (ap (λ (r : RunningSummary). r.program) step ∙ same.0, ap (λ (r : RunningSummary). r.acks) step ∙ same.1)
