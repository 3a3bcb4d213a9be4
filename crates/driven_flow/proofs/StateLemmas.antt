-- One more letter at a driven flow's word: what holds of all that it keeps holds after it.
use Rattle.std.specs.Prelude.{Result, Ok, Err, OnOk, ◌≡◌, ℕ, ◌+◌, ◌<◌, ◌≤◌, max, true, false, is_some, Option, Some, None, option_map, List, [], ◌∷◌, ◌++◌, length, map, slice_get, refl}
use Rattle.driven_flow.specs.Driven.{Codes}
use Rattle.std.proofs.Common.{arith, ap, sym, ◌∙◌, subst, length-append, append-nil}
use Rattle.std.proofs.lemmas.Bool.{ltb-true}
use Rattle.std.proofs.lemmas.List.{map-append}
use Rattle.std.proofs.lemmas.Option.{same_Some}
use Rattle.ccp_base.specs.FieldReg.{Pair}
use Rattle.ccp_base.specs.declared.ack.Ack.{Ack}
use Rattle.ccp_base.specs.declared.arithmetic.FaultKind.{FaultKind}
use Rattle.ccp_base.specs.declared.exchange.Notice.{Notice}
use Rattle.ccp_base.specs.declared.exchange.Report.{Report}
use Rattle.ccp_base.specs.declared.exchange.Reply.TheVariants.{Nothing}
use Rattle.portus_core.specs.declared.env.Env.{Env}
use Rattle.portus_core.specs.Epoch.{Outcome, quiet, reported, held, failed, stopped, updated, with_values}
use Rattle.portus_core.proofs.EventLaws.{after-append}
use Rattle.link_model.specs.Link.{ack_after, acks_for_windows}
use Rattle.link_model.specs.LinkLaws.{acks_of-push}
use Rattle.link_model.specs.Standing.{Standing, LinkState, Stands}
use Rattle.campaign_core.specs.declared.sums.Sums.{Sums}
use Rattle.campaign_core.specs.CampaignRow.{sums_of, sums_with, AreRoomy}
use Rattle.campaign_core.proofs.SumLemmas.{sums-append, calls-run, roomy-run}
use Rattle.flow_core.specs.declared.running.Issued.{Issued}
use Rattle.flow_core.specs.declared.book.EpochLine.{EpochLine}
use Rattle.flow_core.specs.declared.book.TicketLine.{TicketLine}
use Rattle.flow_core.specs.declared.letter.Letter.{Letter}
use Rattle.flow_core.specs.declared.letter.Letter.TheVariants.{A, T, C}
use Rattle.flow_core.specs.Books.{ticket_line, epoch_line}
use Rattle.flow_core.specs.Cores.{acked_as}
use Rattle.flow_core.specs.LettersLeft.{letters_left}
use Rattle.flow_core.specs.LiveText.{reports_told, report_count}
use Rattle.flow_core.specs.Readings.{Flow}
use Rattle.flow_lists.specs.ReservedLists.{ReservedState}
use Rattle.flow_core.specs.States.{issued_as, some_count}
use Rattle.flow_core.specs.Summaries.{Summary, on_running, summary, outcome_at, step_ack, step_take, may_make}
use Rattle.flow_core.specs.World.{World, Content, Failure, Taken, Answered, track_of, failures_met, after_ack, takeable, with_taken, after_take, notice_of, told_as}
use Rattle.flow_core.specs.Words.{Giving, from_link}
use Rattle.flow_core.proofs.LeftLemmas.{left-ack, left-take}
use Rattle.flow_core.proofs.SummaryLemmas.{count-append, summary-ack, summary-take, summary-legal}
use Rattle.flow_core.proofs.WordLemmas.{take-keeps}
use Rattle.driven_flow.specs.declared.case.DrivenCase.{DrivenCase}
use Rattle.driven_flow.specs.declared.journal.Journal.{Journal}
use Rattle.flow_core.specs.declared.running.Running.{Running}
use Rattle.flow_core.specs.Runnings.{out_by, step_values, step_closed, notice_after}
use Rattle.driven_flow.specs.declared.state.Opened.{Opened}
use Rattle.driven_flow.specs.Driven.{Given, DrivenState, left_of, begun, with_values_given, with_answer, after_given, answered_by, world_from, peak_from, flow_by, world_by, peak_by, after_next, MayMake, told_out}
use Rattle.driven_flow.specs.DrivenSteps.{summary_by, IsDrivenBy, step_out, step_given}
use Rattle.driven_flow.specs.DrivenJournals.{with_some, journal_ack, journal_take, journal_answer, new_notice, Begins, Records}
use Rattle.driven_flow.specs.DrivenStates.{answers_in, with_letter, with_given, line_out, line_begun, IsOpened, IsDriven}
use Rattle.driven_flow.proofs.DrivenWordLemmas.{slice_get-last, answers-append, values-tickets, world-append, peak-append, world-more, peak-more}

-- ---- the summary after an answer

module _ {X : Type 0} (flow : Flow X) where
  summary-values : (program : Option ℕ) (values : List Pair) (w : World X)
      → summary flow (with_values_given flow program values w) ≡ on_running (step_values flow program values) (summary flow w)
  summary-values None [] w = refl
  summary-values None (pair ∷ rest) w =
      let next = with_values_given flow None (pair ∷ rest) w in
      let track = track_of flow w in
      let tracked : track_of flow next ≡ record track { env = with_values (pair ∷ rest) track.env } =
      after-append (flow.reading w.present.program) w.present.events (updated (pair ∷ rest) ∷ []) _ in
      λ i. record (summary flow w) { track = tracked i }
  summary-values (Some program) values w =
      let next = with_values_given flow (Some program) values w in
      λ i. record (summary flow next) { epoch = length-append w.past (w.present ∷ []) i }

  -- a ticket that is answered now
  abbrev pub answered_now : Taken X → World X → Answered X
  answered_now ticket w = record { told = ticket.told; taken = ticket.taken; answered = length w.acks; reply = Nothing }

  abbrev pub shut : Taken X → World X → World X
  shut ticket w = record w { out = None; answered = w.answered ++ answered_now ticket w ∷ [] }

  summary-shut : (ticket : Taken X) (w : World X) → summary flow (shut ticket w) ≡ on_running (step_closed (told_as flow ticket.told)) (summary flow w)
  summary-shut ticket w =
      let line = answered_now ticket w in
      let told : report_count (map (ticket_line flow) (w.answered ++ line ∷ []))
      ≡ report_count (map (ticket_line flow) w.answered) + reports_told (told_as flow ticket.told) =
      ap report_count (map-append (ticket_line flow) w.answered (line ∷ []))
      ∙ count-append (map (ticket_line flow) w.answered) (ticket_line flow line) in
      λ i. record (summary flow (shut ticket w)) { answered = length-append w.answered (line ∷ []) i; told = told i }

  summary-answered : (given : Given) (out : Option (Taken X)) (w : World X)
      → summary flow (with_answer flow given out w) ≡ step_out flow given (option_map (issued_as flow) out) (summary flow w)
  summary-answered given None w = refl
  summary-answered given (Some ticket) w =
      summary-values given.program given.values (shut ticket w) ∙ ap (on_running (step_values flow given.program given.values)) (summary-shut ticket w)

  pub summary-given : (given : Given) (w : World X) → summary flow (after_given flow given w) ≡ step_given flow given (summary flow w)
  summary-given given w = summary-answered given w.out w

  -- ---- what a letter leaves as it is

  pub record KeepsHeard (before now : World X) : Type 0 where
    pub acks : now.acks ≡ before.acks
    pub windows : now.windows ≡ before.windows
    pub faults : now.faults ≡ before.faults

  values-keep : (program : Option ℕ) (values : List Pair) (w : World X) → KeepsHeard w (with_values_given flow program values w)
  values-keep None [] w = record { acks = refl; windows = refl; faults = refl }
  values-keep None (pair ∷ rest) w = record { acks = refl; windows = refl; faults = refl }
  values-keep (Some program) values w = record { acks = refl; windows = refl; faults = refl }

  answered-keep : (given : Given) (out : Option (Taken X)) (w : World X) → KeepsHeard w (with_answer flow given out w)
  answered-keep given None w = record { acks = refl; windows = refl; faults = refl }
  answered-keep given (Some ticket) w =
      let kept = values-keep given.program given.values (shut ticket w) in
      record { acks = kept.acks; windows = kept.windows; faults = kept.faults }

  pub given-keeps : (given : Given) (w : World X) → KeepsHeard w (after_given flow given w)
  given-keeps given w = answered-keep given w.out w

  -- the ticket that is out is answered last
  pub given-tickets : (given : Given) (ticket : Taken X) (w : World X) → w.out ≡ Some ticket
      → (after_given flow given w).answered ≡ w.answered ++ answered_now ticket w ∷ []
  given-tickets given ticket w out =
      ap (λ (o : Option (Taken X)). (with_answer flow given o w).answered) out ∙ values-tickets flow given.program given.values (shut ticket w)

  pub record TakeKeeps (before now : World X) : Type 0 where
    pub answered : now.answered ≡ before.answered
    pub faults : now.faults ≡ before.faults
    pub past : now.past ≡ before.past
    pub present : now.present ≡ before.present

  taken-keep : (taken : Option (Content X × (List Report × Option (Failure X)))) (w : World X) → TakeKeeps w (with_taken taken w)
  taken-keep None w = record { answered = refl; faults = refl; past = refl; present = refl }
  taken-keep (Some taken) w = record { answered = refl; faults = refl; past = refl; present = refl }

  pub taking-keeps : (w : World X) → TakeKeeps w (after_take w)
  taking-keeps w = taken-keep (takeable w.waiting w.untold) w

-- ---- the journal

module _ (flow : Flow ℕ) where
  faults-met : (program epoch at : ℕ) (ack : Ack) (met : Outcome (FaultKind × ℕ) × Env) (untold : Option Notice) (list : ReservedState Notice)
      → (with_some (new_notice (acked_as met.0) (notice_after flow.number flow.index (failures_met program epoch at ack met) untold)) list).items
      ≡ list.items ++ map (notice_of flow) (failures_met program epoch at ack met)
  faults-met program epoch at ack (quiet, env) untold list = sym (append-nil list.items)
  faults-met program epoch at ack (reported fields, env) untold list = sym (append-nil list.items)
  faults-met program epoch at ack (held, env) untold list = sym (append-nil list.items)
  faults-met program epoch at ack (failed fault, env) untold list = refl
  faults-met program epoch at ack (stopped, env) untold list = sym (append-nil list.items)

  pub records-ack : (ack : Ack) (w : World ℕ) (j : Journal) → Records flow w j
      → Records flow (after_ack flow ack w)
      (journal_ack ack (new_notice (acked_as (outcome_at flow ack (summary flow w)).0) (step_ack flow ack (summary flow w)).untold) j)
  records-ack ack w j records =
      let met = outcome_at flow ack (summary flow w) in
      let failures = failures_met w.present.program (length w.past) (track_of flow w).count ack met in
      record {
        tickets = records.tickets;
        epochs = records.epochs;
        faults =
            faults-met w.present.program (length w.past) (track_of flow w).count ack met (option_map (notice_of flow) w.untold) j.faults
            ∙ ap (λ (notices : List Notice). notices ++ map (notice_of flow) failures) records.faults
            ∙ sym (map-append (notice_of flow) w.faults failures);
        acks = ap (λ (acks : List Ack). acks ++ ack ∷ []) records.acks;
      }

  pub records-take : (w : World ℕ) (j : Journal) → Records flow w j → Records flow (after_take w) (journal_take j)
  records-take w j records =
      let kept = taking-keeps flow w in
      record {
        acks = records.acks ∙ sym (take-keeps flow w).acks;
        tickets = records.tickets ∙ ap (map (ticket_line flow)) (sym kept.answered);
        epochs = records.epochs ∙ (λ i. map epoch_line (sym kept.past i) ++ epoch_line (sym kept.present i) ∷ []);
        faults = records.faults ∙ ap (map (notice_of flow)) (sym kept.faults);
      }

  -- the line of the present epoch, if it begins now
  abbrev begun_now : Option ℕ → Summary → Option EpochLine
  begun_now program s = option_map (λ (program : ℕ). record { program = s.program; at = s.acks; cwnd = s.track.env.cwnd }) program

  epochs-values : (program : Option ℕ) (values : List Pair) (w : World ℕ) (lines : ReservedState EpochLine)
      → lines.items ≡ map epoch_line w.past ++ epoch_line w.present ∷ []
      → (with_some (begun_now program (summary flow (with_values_given flow program values w))) lines).items
      ≡ map epoch_line (with_values_given flow program values w).past ++ epoch_line (with_values_given flow program values w).present ∷ []
  epochs-values None [] w lines is = is
  epochs-values None (pair ∷ rest) w lines is = is
  epochs-values (Some program) values w lines is =
      let line = epoch_line (with_values_given flow (Some program) values w).present in
      ap (λ (before : List EpochLine). before ++ line ∷ []) (is ∙ sym (map-append epoch_line w.past (w.present ∷ [])))

  epochs-given : (given : Given) (out : Option (Taken ℕ)) (ticket : Taken ℕ) (w : World ℕ) (lines : ReservedState EpochLine) → out ≡ Some ticket
      → lines.items ≡ map epoch_line w.past ++ epoch_line w.present ∷ []
      → (with_some (begun_now given.program (summary flow (with_answer flow given out w))) lines).items
      ≡ map epoch_line (with_answer flow given out w).past ++ epoch_line (with_answer flow given out w).present ∷ []
  epochs-given given None ticket w lines out is = absurd (let wrong : None ≡ Some ticket = out in (cc))
  epochs-given given (Some other) ticket w lines out is = epochs-values given.program given.values (shut flow other w) lines is

  pub records-given : (given : Given) (ticket : Taken ℕ) (w : World ℕ) (j : Journal) (line : TicketLine) (epoch : Option EpochLine) → w.out ≡ Some ticket
      → line ≡ ticket_line flow (answered_now flow ticket w) → epoch ≡ begun_now given.program (summary flow (after_given flow given w))
      → Records flow w j → Records flow (after_given flow given w) (journal_answer given line epoch j)
  records-given given ticket w j line epoch out is_line is_epoch records =
      let kept = given-keeps flow given w in
      record {
        acks = records.acks ∙ sym kept.acks;
        tickets =
            (λ i. records.tickets i ++ is_line i ∷ [])
            ∙ sym (map-append (ticket_line flow) w.answered (answered_now flow ticket w ∷ []))
            ∙ ap (map (ticket_line flow)) (sym (given-tickets flow given ticket w out));
        epochs =
            ap (λ (e : Option EpochLine). (with_some e j.epochs).items) is_epoch
            ∙ epochs-given given w.out ticket w j.epochs out records.epochs;
        faults = records.faults ∙ ap (map (notice_of flow)) (sym kept.faults);
      }

-- ---- the first change

pub driven-open : (programs : Codes) (case : DrivenCase) (program : ℕ) (values : List Pair) (opened : Opened) → IsOpened programs case program values opened
    → (sums : Sums) (peak : ℕ) → sums ≡ sums_of [] → peak ≡ opened.running.machine.kept.cwnd
    → IsDriven (record { case = case; programs = programs; program = program; values = values; answers = []; word = [] }) opened.running opened.link opened.journal sums peak
driven-open programs case program values opened is sums peak is_sums is_peak =
    record {
      whole = is.whole;
      stands = is.stands;
      records = record {
        acks = is.journal.acks;
        tickets = is.journal.tickets;
        epochs = is.journal.epochs ∙ (λ i. record { program = (is.stands i).program; at = 0; cwnd = (is.stands i).track.env.cwnd } ∷ []);
        faults = is.journal.faults;
      };
      all = refl;
      taken = refl;
      link_case = is.link_case;
      link_stands = is.link_stands;
      calls = is.calls;
      linked = refl;
      summed = is_sums;
      greatest = is_peak ∙ ap (λ (s : Summary). s.track.env.cwnd) is.stands;
    }

abbrev pub opened_with : Codes → DrivenCase → ℕ → List Pair → Journal → DrivenState
opened_with programs case program values j =
    record { case = case; programs = programs; program = program; values = values; answers = j.answers.items; word = j.word.items }

-- before the first letter the journal has no answer and no letter
pub opened-same : (programs : Codes) (case : DrivenCase) (program : ℕ) (values : List Pair) (line : EpochLine) (j : Journal) → Begins line j
    → opened_with programs case program values j
    ≡ record { case = case; programs = programs; program = program; values = values; answers = []; word = [] }
opened-same programs case program values line j begins =
    λ i. record { case = case; programs = programs; program = program; values = values; answers = begins.answers i; word = begins.word i }

-- ---- one more answer

module _ (d : DrivenState) (given : Given) (taken : answers_in d.word ≡ length d.answers) where
  abbrev start : World ℕ
  start = begun (flow_by d) d.case.link.mss d.program d.values

  enough : length start.answered + answers_in d.word ≤ length d.answers
  enough = omega (arith, taken)

  before-same : world_from (flow_by d) (from_link (flow_by d) d.case.link) (d.answers ++ given ∷ []) start d.word ≡ world_by d
  before-same = world-more (flow_by d) (from_link (flow_by d) d.case.link) d.answers (given ∷ []) d.word start enough

  peak-same : peak_from (flow_by d) (from_link (flow_by d) d.case.link) (d.answers ++ given ∷ []) start d.word ≡ peak_by (flow_by d) d
  peak-same = peak-more (flow_by d) (from_link (flow_by d) d.case.link) d.answers (given ∷ []) d.word start enough

-- the state after one more answer, if each one so far was taken
pub world-given : (d : DrivenState) (given : Given) → length d.answers ≡ length (world_by d).answered → answers_in d.word ≡ length d.answers
    → world_by (with_given given d) ≡ after_given (flow_by d) given (world_by d)
world-given d given all taken =
    let flow = flow_by d in
    world-append flow (from_link flow d.case.link) (d.answers ++ given ∷ []) d.word C (begun flow d.case.link.mss d.program d.values)
    ∙ ap (λ (u : World ℕ). answered_by flow (slice_get (d.answers ++ given ∷ []) (length u.answered)) u) (before-same d given taken)
    ∙ ap (λ (n : ℕ). answered_by flow (slice_get (d.answers ++ given ∷ []) n) (world_by d)) (sym all)
    ∙ ap (λ (o : Option Given). answered_by flow o (world_by d)) (slice_get-last d.answers given)

-- ---- all that is kept

some-of : {Y : Type 0} → (o : Option Y) → is_some o ≡ true → (y : Y) × (o ≡ Some y)
some-of None some = absurd (let wrong : false ≡ true = some in (cc))
some-of (Some y) some = (y, refl)

module _ (d : DrivenState) (running : Running) (link : LinkState) (j : Journal) (sums : Sums) (peak : ℕ) (is : IsDriven d running link j sums peak) where
  abbrev flow : Flow ℕ
  flow = flow_by d

  abbrev w : World ℕ
  w = world_by d

  abbrev giving : Giving ℕ
  giving = from_link flow d.case.link

  abbrev first : World ℕ
  first = begun flow d.case.link.mss d.program d.values

  -- ---- which letters may be made

  pub may-make : (letter : Letter) → MayMake d letter → may_make flow (summary_by running) letter ≡ true
  may-make letter may = ap (λ (s : Summary). may_make flow s letter) is.stands ∙ sym (summary-legal flow letter w) ∙ may

  pub window-same : running.machine.kept.cwnd ≡ (track_of flow w).env.cwnd
  window-same = ap (λ (s : Summary). s.track.env.cwnd) is.stands

  pub present-same : running.epoch.program ≡ w.present.program
  present-same = ap (λ (s : Summary). s.program) is.stands

  -- ---- an acknowledgement

  module _ (ack : Ack) (is_ack : ack ≡ ack_after d.case.link w.windows (track_of flow w).env.cwnd) where
    grown-A : world_by (with_letter A d) ≡ after_ack flow ack w
    grown-A = world-append flow giving d.answers d.word A first ∙ ap (λ (a : Ack). after_ack flow a w) (sym is_ack)

    linked-A : (after_ack flow ack w).acks ≡ acks_for_windows d.case.link (after_ack flow ack w).windows
    linked-A = (λ i. is.linked i ++ is_ack i ∷ []) ∙ sym (acks_of-push d.case.link w.windows (track_of flow w).env.cwnd)

    -- the sums with it are numbers of 64 bits
    pub roomy-A : length w.acks < 65536 → AreRoomy (sums_with ack sums)
    roomy-A few =
        let windows = (after_ack flow ack w).windows in
        let calls = is.calls in
        let given = ap (λ (s : Standing). s.calls) is.link_stands ∙ calls-run link.case w.windows in
        let more = length-append w.windows ((track_of flow w).env.cwnd ∷ []) in
        subst AreRoomy (sym (ap (sums_with ack) is.summed ∙ sym (sums-append w.acks ack) ∙ ap sums_of linked-A))
        (roomy-run d.case.link windows (omega (arith, few, calls, given, more)))

    pub driven-A : (running' : Running) (link' : LinkState) (j' : Journal) (sums' : Sums) (peak' : ℕ)
        → IsDrivenBy d.programs d.case running'
        → summary_by running' ≡ step_ack flow ack (summary_by running)
        → link'.case ≡ link.case
        → Stands link' (w.windows ++ (track_of flow w).env.cwnd ∷ [])
        → link'.standing.calls ≡ link.standing.calls + 1
        → j' ≡ journal_ack ack (new_notice (acked_as (outcome_at flow ack (summary_by running)).0) (step_ack flow ack (summary_by running)).untold) j
        → sums' ≡ sums_with ack sums
        → peak' ≡ max peak running'.machine.kept.cwnd
        → IsDriven (with_letter A d) running' link' j' sums' peak'
    driven-A running' link' j' sums' peak' whole step case stands calls is_j is_sums is_peak =
        let v = after_ack flow ack w in
        let stands' : summary_by running' ≡ summary flow (world_by (with_letter A d)) =
        step ∙ ap (step_ack flow ack) is.stands ∙ sym (summary-ack flow ack w) ∙ ap (summary flow) (sym grown-A) in
        let fault = λ (s : Summary). new_notice (acked_as (outcome_at flow ack s).0) (step_ack flow ack s).untold in
        let recorded : Records flow v j' =
        subst (Records flow v) (sym (is_j ∙ ap (λ (s : Summary). journal_ack ack (fault s) j) is.stands)) (records-ack flow ack w j is.records) in
        let count = is.calls in
        let more = length-append w.acks (ack ∷ []) in
        let none = answers-append d.word (A ∷ []) in
        let taken = is.taken in
        record {
          whole = whole;
          stands = stands';
          records = subst (λ (u : World ℕ). Records flow u j') (sym grown-A) recorded;
          all = is.all ∙ ap (λ (u : World ℕ). length u.answered) (sym grown-A);
          taken = omega (arith, none, taken);
          link_case = case ∙ is.link_case;
          link_stands = subst (λ (u : World ℕ). Stands link' u.windows) (sym grown-A) stands;
          calls = omega (arith, calls, count, more) ∙ ap (λ (u : World ℕ). length u.acks) (sym grown-A);
          linked = subst (λ (u : World ℕ). u.acks ≡ acks_for_windows d.case.link u.windows) (sym grown-A) linked-A;
          summed =
              is_sums ∙ ap (sums_with ack) is.summed ∙ sym (sums-append w.acks ack)
              ∙ ap (λ (u : World ℕ). sums_of u.acks) (sym grown-A);
          greatest =
              is_peak ∙ (λ i. max (is.greatest i) (stands' i).track.env.cwnd)
              ∙ sym (peak-append flow giving d.answers d.word A first);
        }

  -- ---- a taking

  grown-T : world_by (with_letter T d) ≡ after_take w
  grown-T = world-append flow giving d.answers d.word T first

  pub driven-T : (running' : Running) (j' : Journal) (peak' : ℕ)
      → IsDrivenBy d.programs d.case running'
      → summary_by running' ≡ step_take (summary_by running)
      → j' ≡ journal_take j
      → peak' ≡ max peak running'.machine.kept.cwnd
      → IsDriven (with_letter T d) running' link j' sums peak'
  driven-T running' j' peak' whole step is_j is_peak =
      let v = after_take w in
      let kept = take-keeps flow w in
      let stands' : summary_by running' ≡ summary flow (world_by (with_letter T d)) =
      step ∙ ap step_take is.stands ∙ sym (summary-take flow w) ∙ ap (summary flow) (sym grown-T) in
      let recorded : Records flow v j' = subst (Records flow v) (sym is_j) (records-take flow w j is.records) in
      let none = answers-append d.word (T ∷ []) in
      let taken = is.taken in
      let linked : v.acks ≡ acks_for_windows d.case.link v.windows = kept.acks ∙ is.linked ∙ ap (acks_for_windows d.case.link) (sym kept.windows) in
      record {
        whole = whole;
        stands = stands';
        records = subst (λ (u : World ℕ). Records flow u j') (sym grown-T) recorded;
        all = is.all ∙ ap length (sym (taking-keeps flow w).answered) ∙ ap (λ (u : World ℕ). length u.answered) (sym grown-T);
        taken = omega (arith, none, taken);
        link_case = is.link_case;
        link_stands = subst (λ (u : World ℕ). Stands link u.windows) (sym grown-T) (subst (Stands link) (sym kept.windows) is.link_stands);
        calls = is.calls ∙ ap length (sym kept.acks) ∙ ap (λ (u : World ℕ). length u.acks) (sym grown-T);
        linked = subst (λ (u : World ℕ). u.acks ≡ acks_for_windows d.case.link u.windows) (sym grown-T) linked;
        summed = is.summed ∙ ap sums_of (sym kept.acks) ∙ ap (λ (u : World ℕ). sums_of u.acks) (sym grown-T);
        greatest =
            is_peak ∙ (λ i. max (is.greatest i) (stands' i).track.env.cwnd)
            ∙ sym (peak-append flow giving d.answers d.word T first);
      }

  -- ---- an answer

  module _ (given : Given) where
    grown-C : world_by (with_given given d) ≡ after_given flow given w
    grown-C = world-given d given is.all is.taken

    pub driven-C : MayMake d C → (running' : Running) (j' : Journal) (peak' : ℕ) (line : TicketLine) (epoch : Option EpochLine)
        → IsDrivenBy d.programs d.case running'
        → summary_by running' ≡ step_given flow given (summary_by running)
        → line_out (out_by running) running.acks ≡ Some line
        → epoch ≡ line_begun given.program running'
        → j' ≡ journal_answer given line epoch j
        → peak' ≡ max peak running'.machine.kept.cwnd
        → IsDriven (with_given given d) running' link j' sums peak'
    driven-C may running' j' peak' line epoch whole step is_line is_epoch is_j is_peak =
        let v = after_given flow given w in
        let kept = given-keeps flow given w in
        let some = some-of w.out may in
        let ticket = some.0 in
        let out : w.out ≡ Some ticket = some.1 in
        let over : summary_by running' ≡ summary flow v = step ∙ ap (step_given flow given) is.stands ∙ sym (summary-given flow given w) in
        let stands' : summary_by running' ≡ summary flow (world_by (with_given given d)) = over ∙ ap (summary flow) (sym grown-C) in
        let line_same : line ≡ ticket_line flow (answered_now flow ticket w) =
        sym (same_Some (ticket_line flow (answered_now flow ticket w)) line
        ((λ i. line_out (option_map (issued_as flow) (sym out i)) (length w.acks))
        ∙ (λ i. line_out (sym is.stands i).out (sym is.stands i).acks) ∙ is_line)) in
        let epoch_same = is_epoch ∙ ap (λ (s : Summary). option_map (λ (program : ℕ). record { program = s.program; at = s.acks; cwnd = s.track.env.cwnd }) given.program) over in
        let recorded : Records flow v j' =
        subst (Records flow v) (sym is_j) (records-given flow given ticket w j line epoch out line_same epoch_same is.records) in
        let one = answers-append d.word (C ∷ []) in
        let taken = is.taken in
        let all = is.all in
        let more = length-append d.answers (given ∷ []) in
        let tickets : length v.answered ≡ length w.answered + 1 =
        ap length (given-tickets flow given ticket w out) ∙ length-append w.answered (answered_now flow ticket w ∷ []) in
        let linked : v.acks ≡ acks_for_windows d.case.link v.windows = kept.acks ∙ is.linked ∙ ap (acks_for_windows d.case.link) (sym kept.windows) in
        record {
          whole = whole;
          stands = stands';
          records = subst (λ (u : World ℕ). Records flow u j') (sym grown-C) recorded;
          all = omega (arith, all, more, tickets) ∙ ap (λ (u : World ℕ). length u.answered) (sym grown-C);
          taken = omega (arith, one, taken, more);
          link_case = is.link_case;
          link_stands = subst (λ (u : World ℕ). Stands link u.windows) (sym grown-C) (subst (Stands link) (sym kept.windows) is.link_stands);
          calls = is.calls ∙ ap length (sym kept.acks) ∙ ap (λ (u : World ℕ). length u.acks) (sym grown-C);
          linked = subst (λ (u : World ℕ). u.acks ≡ acks_for_windows d.case.link u.windows) (sym grown-C) linked;
          summed = is.summed ∙ ap sums_of (sym kept.acks) ∙ ap (λ (u : World ℕ). sums_of u.acks) (sym grown-C);
          greatest =
              is_peak ∙ (λ i. max (is.greatest i) (stands' i).track.env.cwnd)
              ∙ (λ i. max (sym (peak-same d given is.taken) i) (track_of flow (world_by (with_given given d))).env.cwnd)
              ∙ sym (peak-append flow giving (d.answers ++ given ∷ []) d.word C first);
        }

-- ---- the state after one more letter

world-grown : (d : DrivenState) (letter : Letter) → world_by (with_letter letter d) ≡ after_next d letter
world-grown d letter =
    world-append (flow_by d) (from_link (flow_by d) d.case.link) d.answers d.word letter (begun (flow_by d) d.case.link.mss d.program d.values)

pub world-next : {R E : Type 0} (result : Result R E) (d d' : DrivenState) (letter : Letter) → OnOk result (d' ≡ with_letter letter d)
    → OnOk result (world_by d' ≡ after_next d letter)
world-next (Ok r) d d' letter grown = ap world_by grown ∙ world-grown d letter
world-next (Err e) d d' letter grown = tt

-- ---- how many letters can come yet

-- not an answer
abbrev pub IsPlain : Letter → Type 0
IsPlain A = Unit {0}
IsPlain T = Unit {0}
IsPlain C = ⊥

values-left : {X : Type 0} (flow : Flow X) (program : Option ℕ) (values : List Pair) (w : World X)
    → letters_left flow (with_values_given flow program values w) ≤ letters_left flow w
values-left flow None [] w = omega arith
values-left flow None (pair ∷ rest) w = omega arith
values-left flow (Some program) values w = omega arith

given-left : {X : Type 0} (flow : Flow X) (given : Given) (out : Option (Taken X)) (w : World X) → w.out ≡ out → is_some out ≡ true
    → letters_left flow (with_answer flow given out w) < letters_left flow w
given-left flow given None w is some = absurd (let wrong : false ≡ true = some in (cc))
given-left flow given (Some ticket) w is some =
    let one = ap some_count is in
    let fewer = values-left flow given.program given.values (shut flow ticket w) in
    omega (arith, one, fewer)

-- a legal letter leaves fewer
pub left-next : {R E : Type 0} (result : Result R E) (d d' : DrivenState) (letter : Letter) → IsPlain letter → MayMake d letter
    → OnOk result (d' ≡ with_letter letter d) → OnOk result (left_of d' < left_of d)
left-next (Err e) d d' letter plain may grown = tt
left-next (Ok r) d d' A plain may grown =
    let flow = flow_by d in
    let w = world_by d in
    let next : world_by (with_letter A d) ≡ after_ack flow (ack_after d.case.link w.windows (track_of flow w).env.cwnd) w = world-grown d A in
    subst (λ (e : DrivenState). left_of e < left_of d) (sym grown)
    (subst (λ (u : World ℕ). letters_left flow u < letters_left flow w) (sym next)
    (left-ack flow (ack_after d.case.link w.windows (track_of flow w).env.cwnd) w (ltb-true (length w.acks) flow.acks may)))
left-next (Ok r) d d' T plain may grown =
    let flow = flow_by d in
    let w = world_by d in
    let next : world_by (with_letter T d) ≡ after_take w = world-grown d T in
    subst (λ (e : DrivenState). left_of e < left_of d) (sym grown)
    (subst (λ (u : World ℕ). letters_left flow u < letters_left flow w) (sym next) (left-take flow w may))
left-next (Ok r) d d' C plain may grown = absurd plain

pub left-given : (d d' : DrivenState) (given : Given) → MayMake d C → d' ≡ with_given given d
    → world_by d' ≡ after_given (flow_by d) given (world_by d) → left_of d' < left_of d
left-given d d' given may grown world =
    let flow = flow_by d in
    let w = world_by d in
    let same : left_of d' ≡ letters_left flow (world_by d') = ap (λ (e : DrivenState). letters_left (flow_by e) (world_by d')) grown in
    subst (λ (n : ℕ). n < left_of d) (sym (same ∙ ap (letters_left flow) world)) (given-left flow given w.out w refl may)

-- ---- the ticket that is out

told-mapped : (reading : Flow ℕ) (out : Option (Taken ℕ))
    → option_map (λ (issued : Issued). issued.told) (option_map (issued_as reading) out) ≡ option_map (λ (ticket : Taken ℕ). told_as reading ticket.told) out
told-mapped reading None = refl
told-mapped reading (Some ticket) = refl

module _ (d : DrivenState) (running : Running) (link : LinkState) (j : Journal) (sums : Sums) (peak : ℕ) (is : IsDriven d running link j sums peak) where
  pub told-same : option_map (λ (issued : Issued). issued.told) (out_by running) ≡ told_out (flow_by d) (world_by d)
  told-same = ap (λ (s : Summary). option_map (λ (issued : Issued). issued.told) s.out) is.stands ∙ told-mapped (flow_by d) (world_by d).out
