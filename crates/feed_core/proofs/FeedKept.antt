-- What holds of a feed's fields holds after each message, and each answer has a frame.
use Rattle.std.proofs.Common.{◌≡◌, ℕ, zero, suc, ◌+◌, ◌*◌, ◌<◌, ◌≤◌, Bool, true, false, nat_lt, Option, Some, None, option_map, List, [], ◌∷◌, length, slice_set, sym, refl, subst, ◌∙◌, arith, cond}
use Rattle.std.specs.List.{AllByRecursion}
use Rattle.std.proofs.lemmas.Bool.Decides.{nat_tests}
use Rattle.std.proofs.lemmas.List.{length-set, length-map}
use Rattle.ccp_base.specs.declared.ack.Ack.{Ack}
use Rattle.ccp_base.specs.declared.arithmetic.FaultKind.{FaultKind}
use Rattle.ccp_base.specs.declared.fields.FieldReg.{FieldReg}
use Rattle.ccp_base.specs.declared.fields.FieldReg.TheVariants as field
use Rattle.ccp_base.specs.declared.running_epoch.RunningEpoch.{RunningEpoch}
use Rattle.ccp_base.specs.RunningEpochs.{epoch_after, epochs_in, first_in, notice_at, report_at}
use Rattle.ccp_base.specs.FieldReg.{Pair, first_bad_pair}
use Rattle.ccp_base.specs.declared.exchange.Notice.{Notice}
use Rattle.ccp_base.specs.declared.exchange.Report.{Report}
use Rattle.ccp_base.specs.Limits.{most_fields, most_flows, most_kept_programs, most_messages}
use Rattle.ccp_base.specs.Truth.{is_true}
use Rattle.reg_code.specs.declared.code.Code.{Code}
use Rattle.reg_code.specs.AcceptedCode.{◌or_else◌, Refusal, rejected, IsAccepted, sizes_of, counts_refusal, events_refusal}
use Rattle.reg_code.specs.CodeStart.{with_value, with_values, declared_kept}
use Rattle.reg_code.specs.CodeStep.{Kept, IsKeptOf, Work, done, failed, stuck, events_of, before_events, settled, made_of}
use Rattle.reg_code.specs.CodeStep as steps
use Rattle.reg_code.specs.AcceptedLaws.{WorkSized, none-first, none-next, refusal_where-none}
use Rattle.reg_code.proofs.SoundLemmas.{events-sized, IsSound-accepted}
use Rattle.reply_frames.specs.declared.outline.Version.{Version}
use Rattle.reply_frames.specs.declared.outline.Version.TheVariants.{One, Two}
use Rattle.ccp_messages.specs.declared.message.Message.{Message}
use Rattle.ccp_messages.specs.declared.message.Message.TheVariants.{Create, Measure, Install, Update, Change, Fault, Refused}
use Rattle.ccp_messages.specs.declared.message.Message.TheVariants as message
use Rattle.ccp_messages.specs.declared.reason.Reason.{Reason}
use Rattle.ccp_messages.specs.declared.reason.Reason.TheVariants.{FlowAbove, FlowExists, NoFlow, ProgramAbove}
use Rattle.ccp_messages.specs.declared.reason.Reason.TheVariants.{ProgramExists, NoProgram, NotAccepted, NoRegister}
use Rattle.ccp_messages.specs.declared.reason.Reason.TheVariants.{TooWide}
use Rattle.ccp_messages.specs.Messages.{AreFew, IsShortCount, frame_bytes}
use Rattle.ccp_messages.proofs.Encoding.{length-frame}
use Rattle.fold_machine.specs.declared.acked.Acked.{Acked}
use Rattle.fold_machine.specs.declared.acked.Acked.TheVariants as acked
use Rattle.fold_machine.specs.MachineState.{MachineState, Fits}
use Rattle.fold_machine.specs.Heard.{after_acknowledgement, heard_where, after_made, started_by, updated_by}
use Rattle.feed_core.specs.declared.flow.Flow.{Flow}
use Rattle.feed_core.specs.Feed.{FeedState, there, Answer, MessageAnswer, refused, with_flow, fresh_flow, created_at, installed_as, installed_at, changed_flow, is_too_wide, changed_with, changed_to, changed_at, running_code, updated_flow, updated_with, updated_on, updated_at, counted_flow, epoch_heard, flow_after, message_about, in_version, acked_on, flow_acked, handled}
use Rattle.feed_core.specs.FeedHolds.{RunsCode, RunsOn, IsFlow, IsFlowThere, IsAcceptedThere, AreFeedParts, IsFeed, longest_answer, HasShortFrame}

-- ---- lists of places

each-there : {A : Type 0} (P : Option A → Type 0) → P None → (xs : List (Option A)) (n : ℕ) → AllByRecursion P xs → P (there xs n)
each-there P none [] n all = none
each-there P none (x ∷ xs) zero all = all.0
each-there P none (x ∷ xs) (suc n) all = each-there P none xs n all.1

each-set : {A : Type 0} (P : Option A → Type 0) (xs : List (Option A)) (n : ℕ) (x : Option A) → P x → AllByRecursion P xs → AllByRecursion P (slice_set xs n x)
each-set P [] n x is all = all
each-set P (y ∷ xs) zero x is all = (is, all.1)
each-set P (y ∷ xs) (suc n) x is all = (all.0, each-set P xs n x is all.1)

each-too : {A : Type 0} (P Q : A → Type 0) → ((x : A) → P x → Q x) → (xs : List A) → AllByRecursion P xs → AllByRecursion Q xs
each-too P Q too [] all = tt
each-too P Q too (x ∷ xs) all = (too x all.0, each-too P Q too xs all.1)

-- what is there stays if something is put at a free place
there-stays : {A : Type 0} (xs : List (Option A)) (p q : ℕ) (y : Option A) (x : A) → there xs p ≡ None → there xs q ≡ Some x → there (slice_set xs p y) q ≡ Some x
there-stays [] p q y x free is = is
there-stays (z ∷ xs) zero zero y x free is = let bad : ⊥ = cc in absurd bad
there-stays (z ∷ xs) zero (suc q) y x free is = is
there-stays (z ∷ xs) (suc p) zero y x free is = is
there-stays (z ∷ xs) (suc p) (suc q) y x free is = there-stays xs p q y x free is

-- ---- the registers of a code stay as many

one-kept : (reg : FieldReg) (value : ℕ) (code : Code) (kept : Kept) → IsKeptOf code kept → IsKeptOf code (with_value reg value kept)
one-kept field.Cwnd value code kept is = record { reports = is.reports; controls = is.controls }
one-kept field.Rate value code kept is = record { reports = is.reports; controls = is.controls }
one-kept (field.Control i) value code kept is = record { reports = is.reports; controls = length-set kept.controls i value ∙ is.controls }

with-kept : (values : List Pair) (code : Code) (kept : Kept) → IsKeptOf code kept → IsKeptOf code (with_values values kept)
with-kept [] code kept is = is
with-kept (pair ∷ rest) code kept is = with-kept rest code (with_value pair.0 pair.1 kept) (one-kept pair.0 pair.1 code kept is)

started-fits : (code : Code) (values : List Pair) (last : ℕ) (machine : MachineState) → Fits (started_by code values last machine) code
started-fits code values last machine = record {
  started = refl;
  kept = with-kept values code (declared_kept code machine.kept.cwnd machine.kept.rate last)
      (record { reports = length-map code.reports _; controls = length-map code.controls _ });
}

updated-fits : (code : Code) (values : List Pair) (machine : MachineState) → Fits machine code → Fits (updated_by values machine) code
updated-fits code values machine fits = record { started = fits.started; kept = with-kept values code machine.kept fits.kept }

heard-fits : (stopped : Bool) (code : Code) (ack : Ack) (machine : MachineState) → IsAccepted code → Fits machine code → Fits (heard_where stopped code ack true machine).1 code
heard-fits true code ack machine accepted fits = record { started = fits.started; kept = fits.kept }
heard-fits false code ack machine accepted fits = record { started = fits.started; kept = (IsSound-accepted code accepted).kept machine.kept ack true fits.kept }

-- ---- answers have frames

short : (version : Version) (n : ℕ) → n ≤ most_messages → IsShortCount version n
short One n small = omega (arith, small)
short Two n small = tt

-- no report, fault or refusal has a longer frame than the longest answer
report-short : (version : Version) (report : Report) → length report.fields ≤ most_fields → length (frame_bytes version (Measure report)) ≤ longest_answer
report-short One report few =
    let long : length (frame_bytes One (Measure report)) ≡ 56 + 8 * length report.fields = length-frame One (Measure report) in
    omega (arith, few, long)
report-short Two report few =
    let long : length (frame_bytes Two (Measure report)) ≡ 64 + 8 * length report.fields = length-frame Two (Measure report) in
    omega (arith, few, long)

notice-short : (version : Version) (notice : Notice) → length (frame_bytes version (Fault notice)) ≤ longest_answer
notice-short One notice =
    let long : length (frame_bytes One (Fault notice)) ≡ 47 = length-frame One (Fault notice) in
    omega (arith, long)
notice-short Two notice =
    let long : length (frame_bytes Two (Fault notice)) ≡ 51 = length-frame Two (Fault notice) in
    omega (arith, long)

refusal-short : (version : Version) (n : ℕ) (reason : Reason) (index : ℕ)
    → length (frame_bytes version (Refused n reason index)) ≤ longest_answer
refusal-short version n reason index =
    let long : length (frame_bytes version (Refused n reason index)) ≡ 21 = length-frame version (Refused n reason index) in
    omega (arith, long)

-- an accepted code has at most 64 report fields
fields-few : (code : Code) → IsAccepted code → length code.reports ≤ most_fields
fields-few code accepted =
    let counts : counts_refusal code ≡ None = none-first _ _ (none-first _ _ accepted) in
    let few : nat_lt most_fields (length code.reports) ≡ false = refusal_where-none _ _ 0 (none-first _ _ (none-first _ _ (none-first _ _ counts))) in
    grind (arith, nat_tests, few)

-- ---- the epoch after an acknowledgement

-- its unreported span begins at most at the count
heard-within : (came : Option Acked) (count : ℕ) (epoch : Option RunningEpoch) → first_in epoch ≤ count → first_in (epoch_heard came (count + 1) epoch) ≤ count + 1
heard-within None count epoch first = omega (arith, first)
heard-within (Some acked.Quiet) count epoch first = omega (arith, first)
heard-within (Some acked.Reported) count None first = omega arith
heard-within (Some acked.Reported) count (Some epoch) first = omega arith
heard-within (Some acked.Held) count epoch first = omega (arith, first)
heard-within (Some (acked.Faulted kind index)) count epoch first = omega (arith, first)
heard-within (Some acked.Stopped) count epoch first = omega (arith, first)

heard-number : (came : Option Acked) (count : ℕ) (epoch : Option RunningEpoch) → epochs_in (epoch_heard came count epoch) ≡ epochs_in epoch
heard-number None count epoch = refl
heard-number (Some acked.Quiet) count epoch = refl
heard-number (Some acked.Reported) count None = refl
heard-number (Some acked.Reported) count (Some epoch) = refl
heard-number (Some acked.Held) count epoch = refl
heard-number (Some (acked.Faulted kind index)) count epoch = refl
heard-number (Some acked.Stopped) count epoch = refl

-- its program is the same one
heard-runs : (came : Option Acked) (count : ℕ) (epoch : Option RunningEpoch) (version : Version) (machine : MachineState) (programs : List (Option Code))
    → RunsOn epoch version machine (running_code epoch programs) → RunsOn (epoch_heard came count epoch) version machine (running_code (epoch_heard came count epoch) programs)
heard-runs None count epoch version machine programs runs = runs
heard-runs (Some acked.Quiet) count epoch version machine programs runs = runs
heard-runs (Some acked.Reported) count None version machine programs runs = runs
heard-runs (Some acked.Reported) count (Some epoch) version machine programs runs = runs
heard-runs (Some acked.Held) count epoch version machine programs runs = runs
heard-runs (Some (acked.Faulted kind index)) count epoch version machine programs runs = runs
heard-runs (Some acked.Stopped) count epoch version machine programs runs = runs

module _ (code : Code) (ack : Ack) (n : ℕ) (flow : Flow) (first : first_in flow.epoch ≤ flow.count) (count : flow.count < most_messages) (few : AreFew flow.version (length code.reports)) (fit : length code.reports ≤ most_fields) where
  report-framed : (epoch : Option RunningEpoch) (cwnd rate : ℕ) (fields : List ℕ) → first_in epoch ≤ flow.count → length fields ≡ length code.reports
      → HasShortFrame (in_version flow.version (option_map (λ (epoch : RunningEpoch). Measure (report_at epoch n (flow.count + 1) ack.now cwnd rate fields)) epoch))
  report-framed None cwnd rate fields within sized = tt
  report-framed (Some epoch) cwnd rate fields within sized = (
    (short flow.version epoch.first (omega (arith, within, count)), short flow.version (flow.count + 1) (omega (arith, count)), subst (AreFew flow.version) (sym sized) few),
    report-short flow.version (report_at epoch n (flow.count + 1) ack.now cwnd rate fields) (omega (arith, sized, fit)),
  )

  notice-framed : (epoch : Option RunningEpoch) (cwnd : ℕ) (kind : FaultKind) (index : ℕ)
      → HasShortFrame (in_version flow.version (option_map (λ (epoch : RunningEpoch). Fault (notice_at epoch n flow.count ack.now cwnd kind index)) epoch))
  notice-framed None cwnd kind index = tt
  notice-framed (Some epoch) cwnd kind index =
      (short flow.version flow.count (omega (arith, count)), notice-short flow.version (notice_at epoch n flow.count ack.now cwnd kind index))

  asked-framed : (asked : Bool) (machine : MachineState) (kept : Kept) (ran : ℕ) → length kept.reports ≡ length code.reports
      → HasShortFrame (in_version flow.version (message_about (after_made (made_of (steps.answered code asked true kept) ran) machine) ack n flow))
  asked-framed false machine kept ran sized = tt
  asked-framed true machine kept ran sized =
      let told : MachineState = (after_made (made_of (steps.answered code true true kept) ran) machine).1 in
      report-framed flow.epoch told.kept.cwnd told.kept.rate told.report first sized

  work-framed : (work : Work) (kept : Kept) (machine : MachineState) → WorkSized (sizes_of code) work
      → HasShortFrame (in_version flow.version (message_about (after_made (settled code kept true work) machine) ack n flow))
  work-framed (done ran regs) kept machine sized = asked-framed (is_true regs.send) machine regs.kept ran sized.reports
  work-framed (failed kind index ran) kept machine sized =
      let told : MachineState = (after_made (settled code kept true (failed kind index ran)) machine).1 in
      notice-framed flow.epoch told.kept.cwnd kind index
  work-framed (stuck ran) kept machine sized = absurd sized

  heard-framed : (stopped : Bool) (machine : MachineState) → IsAccepted code → Fits machine code
      → HasShortFrame (in_version flow.version (message_about (heard_where stopped code ack true machine) ack n flow))
  heard-framed true machine accepted fits = tt
  heard-framed false machine accepted fits =
      let none = none-next (counts_refusal code or_else events_refusal code.events 0 (length code.instrs)) _ accepted in
      work-framed (events_of code.events 0 code.instrs ack 0 (before_events machine.kept)) machine.kept machine
      (events-sized code.events (sizes_of code) 0 0 code.instrs ack 0 (before_events machine.kept) none (record { reports = fits.kept.reports; controls = fits.kept.controls }))

-- ---- a message

-- what holds after a message: of the fields, and of the answer
abbrev pub IsKept : ℕ → MessageAnswer → Type 0
IsKept messages (answer, state) = AreFeedParts state.flows state.programs messages × HasShortFrame answer

kept-if : (messages : ℕ) (b : Bool) (x y : MessageAnswer) → IsKept messages x → IsKept messages y → IsKept messages (cond b x y)
kept-if messages true x y p q = p
kept-if messages false x y p q = q

-- a flow after one more message
later : (programs : List (Option Code)) (messages : ℕ) (flow : Option Flow) → IsFlowThere programs messages flow → IsFlowThere programs (messages + 1) flow
later programs messages None is = tt
later programs messages (Some flow) is = record { counted = omega (arith, is.counted); spanned = is.spanned; changed = omega (arith, is.changed); runs = is.runs }

module _ (state : FeedState) (is_feed : IsFeed state) where
  kept-same : (answer : Answer) → HasShortFrame answer → IsKept (state.messages + 1) (answer, state)
  kept-same answer framed = (
    record {
      flows_full = is_feed.flows_full;
      programs_full = is_feed.programs_full;
      accepted = is_feed.accepted;
      each = each-too (IsFlowThere state.programs state.messages) (IsFlowThere state.programs (state.messages + 1)) (later state.programs state.messages) state.flows is_feed.each;
    },
    framed,
  )

  kept-refused : (version : Version) (n : ℕ) (reason : Reason) (index : ℕ)
      → IsKept (state.messages + 1) (refused state version n reason index)
  kept-refused version n reason index =
      kept-same (Some (Refused n reason index, version)) (tt, refusal-short version n reason index)

  kept-flow : (n : ℕ) (flow : Flow) (answer : Answer) → IsFlow state.programs (state.messages + 1) flow → HasShortFrame answer → IsKept (state.messages + 1) (answer, with_flow state n flow)
  kept-flow n flow answer is framed = (
    record {
      flows_full = length-set state.flows n (Some flow) ∙ is_feed.flows_full;
      programs_full = is_feed.programs_full;
      accepted = is_feed.accepted;
      each = each-set (IsFlowThere state.programs (state.messages + 1)) state.flows n (Some flow) is
          (each-too (IsFlowThere state.programs state.messages) (IsFlowThere state.programs (state.messages + 1)) (later state.programs state.messages) state.flows is_feed.each);
    },
    framed,
  )

  flow-there : (n : ℕ) → IsFlowThere state.programs state.messages (there state.flows n)
  flow-there n = each-there (IsFlowThere state.programs state.messages) tt state.flows n is_feed.each

  accepted-there : (p : ℕ) (code : Code) → there state.programs p ≡ Some code → IsAccepted code
  accepted-there p code is = subst IsAcceptedThere is (each-there IsAcceptedThere tt state.programs p is_feed.accepted)

  -- ---- Create

  kept-created : (there : Option Flow) (version : Version) (n cwnd : ℕ) → IsKept (state.messages + 1) (created_at there state version n cwnd)
  kept-created (Some flow) version n cwnd = kept-refused version n FlowExists 0
  kept-created None version n cwnd = kept-flow n (fresh_flow version cwnd) None (record { counted = omega arith; spanned = omega arith; changed = omega arith; runs = tt }) tt

  -- ---- Install

  runs-stay : (version : Version) (machine : MachineState) (o o' : Option Code) → ((code : Code) → o ≡ Some code → o' ≡ Some code)
      → RunsCode version machine o → RunsCode version machine o'
  runs-stay version machine None o' stays runs = absurd runs
  runs-stay version machine (Some code) o' stays runs = subst (RunsCode version machine) (sym (stays code refl)) runs

  flow-stays : (p : ℕ) (code : Code) → there state.programs p ≡ None → (flow : Option Flow)
      → IsFlowThere state.programs state.messages flow → IsFlowThere (slice_set state.programs p (Some code)) (state.messages + 1) flow
  flow-stays p code free None is = tt
  flow-stays p code free (Some flow) is = record {
    counted = omega (arith, is.counted);
    spanned = is.spanned;
    changed = omega (arith, is.changed);
    runs = go flow.epoch is.runs;
  }
    where
      go : (epoch : Option RunningEpoch) → RunsOn epoch flow.version flow.machine (running_code epoch state.programs)
          → RunsOn epoch flow.version flow.machine (running_code epoch (slice_set state.programs p (Some code)))
      go None runs = tt
      go (Some epoch) runs = runs-stay flow.version flow.machine (there state.programs epoch.program) (there (slice_set state.programs p (Some code)) epoch.program)
          (λ other is. there-stays state.programs p epoch.program (Some code) other free is) runs

  kept-as : (version : Version) (n program : ℕ) (code : Code) → there state.programs program ≡ None → (o : Option Refusal) → rejected code ≡ o
      → IsKept (state.messages + 1) (installed_as o state version n program code)
  kept-as version n program code free (Some refusal) is = kept-refused version n NotAccepted refusal.1
  kept-as version n program code free None is = (
    record {
      flows_full = is_feed.flows_full;
      programs_full = length-set state.programs program (Some code) ∙ is_feed.programs_full;
      accepted = each-set IsAcceptedThere state.programs program (Some code) is is_feed.accepted;
      each = each-too (IsFlowThere state.programs state.messages) (IsFlowThere (slice_set state.programs program (Some code)) (state.messages + 1)) (flow-stays program code free) state.flows is_feed.each;
    },
    tt,
  )

  kept-installed : (version : Version) (n program : ℕ) (code : Code) (o : Option Code) → there state.programs program ≡ o
      → IsKept (state.messages + 1) (installed_at o state version n program code)
  kept-installed version n program code (Some old) is = kept-refused version n ProgramExists program
  kept-installed version n program code None is = kept-as version n program code is (rejected code) refl

  -- ---- Change

  few : (version : Version) (code : Code) → is_too_wide version code ≡ false → AreFew version (length code.reports)
  few One code is = grind (arith, nat_tests)
  few Two code is = tt

  module _ (version : Version) (n program : ℕ) (values : List Pair) (flow : Flow) (is : IsFlow state.programs state.messages flow) where
    after-within : (epoch : Option RunningEpoch) → (epoch_after epoch program flow.count).first ≤ flow.count
    after-within None = omega arith
    after-within (Some epoch) = omega arith

    after-number : (epoch : Option RunningEpoch) → (epoch_after epoch program flow.count).number ≡ epochs_in epoch
    after-number None = refl
    after-number (Some epoch) = refl

    after-runs : (epoch : Option RunningEpoch) (machine : MachineState) → RunsCode flow.version machine (there state.programs program)
        → RunsOn (Some (epoch_after epoch program flow.count)) flow.version machine (running_code (Some (epoch_after epoch program flow.count)) state.programs)
    after-runs None machine runs = runs
    after-runs (Some epoch) machine runs = runs

    kept-with : (code : Code) → there state.programs program ≡ Some code → is_too_wide flow.version code ≡ false → (o : Option ℕ)
        → IsKept (state.messages + 1) (changed_with o state version n program values flow code)
    kept-with code here fits (Some place) = kept-refused version n NoRegister place
    kept-with code here fits None = kept-flow n (changed_flow code program values flow) None (record {
      counted = omega (arith, is.counted);
      spanned = after-within flow.epoch;
      changed = omega (arith, is.changed, after-number flow.epoch);
      runs = after-runs flow.epoch (started_by code values flow.last flow.machine) (subst (RunsCode flow.version (started_by code values flow.last flow.machine)) (sym here) (started-fits code values flow.last flow.machine, few flow.version code fits));
    }) tt

    kept-narrow : (code : Code) → there state.programs program ≡ Some code → (b : Bool) → is_too_wide flow.version code ≡ b
        → IsKept (state.messages + 1) (cond b (refused state version n TooWide program) (changed_with (first_bad_pair (length code.controls) values) state version n program values flow code))
    kept-narrow code here true wide = kept-refused version n TooWide program
    kept-narrow code here false wide = kept-with code here wide (first_bad_pair (length code.controls) values)

    kept-to : (o : Option Code) → there state.programs program ≡ o → IsKept (state.messages + 1) (changed_to o state version n program values flow)
    kept-to None here = kept-refused version n NoProgram program
    kept-to (Some code) here = kept-narrow code here (is_too_wide flow.version code) refl

  kept-changed : (version : Version) (n program : ℕ) (values : List Pair) (flow : Option Flow) → IsFlowThere state.programs state.messages flow
      → IsKept (state.messages + 1) (changed_at flow state version n program values)
  kept-changed version n program values None is = kept-refused version n NoFlow 0
  kept-changed version n program values (Some flow) is =
      kept-if (state.messages + 1) (nat_lt program most_kept_programs) (changed_to (there state.programs program) state version n program values flow) (refused state version n ProgramAbove program)
      (kept-to version n program values flow is (there state.programs program) refl)
      (kept-refused version n ProgramAbove program)

  -- ---- Update and Ack: the program that was started is there

  module _ (n : ℕ) (flow : Flow) (is : IsFlow state.programs state.messages flow) where
    -- with another machine that fits the code
    runs-with : (machine : MachineState) (code : Code) → running_code flow.epoch state.programs ≡ Some code → Fits machine code → AreFew flow.version (length code.reports)
        → RunsOn flow.epoch flow.version machine (running_code flow.epoch state.programs)
    runs-with machine code here fits few = go flow.epoch here where
      go : (epoch : Option RunningEpoch) → running_code epoch state.programs ≡ Some code → RunsOn epoch flow.version machine (running_code epoch state.programs)
      go None here = tt
      go (Some epoch) here = subst (RunsCode flow.version machine) (sym here) (fits, few)

    -- the code that runs was accepted, and the machine fits it
    runs-now : (code : Code) → running_code flow.epoch state.programs ≡ Some code → IsAccepted code × RunsCode flow.version flow.machine (Some code)
    runs-now code here = go flow.epoch is.runs here where
      go : (epoch : Option RunningEpoch) → RunsOn epoch flow.version flow.machine (running_code epoch state.programs) → running_code epoch state.programs ≡ Some code
          → IsAccepted code × RunsCode flow.version flow.machine (Some code)
      go None runs here = let bad : ⊥ = cc in absurd bad
      go (Some epoch) runs here = (accepted-there epoch.program code here, subst (RunsCode flow.version flow.machine) here runs)

    module _ (version : Version) (values : List Pair) where
      kept-written : (code : Code) → running_code flow.epoch state.programs ≡ Some code → (o : Option ℕ) → IsKept (state.messages + 1) (updated_with o state version n values flow)
      kept-written code here (Some place) = kept-refused version n NoRegister place
      kept-written code here None =
          let runs = (runs-now code here).1 in
          kept-flow n (updated_flow values flow) None (record {
            counted = omega (arith, is.counted);
            spanned = is.spanned;
            changed = omega (arith, is.changed);
            runs = runs-with (updated_by values flow.machine) code here (updated-fits code values flow.machine runs.0) runs.1;
          }) tt

      kept-updated-on : (o : Option Code) → running_code flow.epoch state.programs ≡ o → IsKept (state.messages + 1) (updated_on o state version n values flow)
      kept-updated-on None here = kept-refused version n NoProgram 0
      kept-updated-on (Some code) here = kept-written code here (first_bad_pair (length code.controls) values)

    module _ (small : state.messages < most_messages) (ack : Ack) where
      kept-acked-on : (o : Option Code) → running_code flow.epoch state.programs ≡ o → IsKept (state.messages + 1) (acked_on o state n ack flow)
      kept-acked-on None here = kept-flow n (counted_flow ack flow) None (record {
        counted = omega (arith, is.counted);
        spanned = omega (arith, is.spanned);
        changed = omega (arith, is.changed);
        runs = is.runs;
      }) tt
      kept-acked-on (Some code) here =
          let now = runs-now code here in
          let runs = now.1 in
          let came = after_acknowledgement code ack true flow.machine in
          let count : flow.count < most_messages = omega (arith, is.counted, small) in
          let changed : epochs_in (epoch_heard came.0 (flow.count + 1) flow.epoch) ≡ epochs_in flow.epoch = heard-number came.0 (flow.count + 1) flow.epoch in
          kept-flow n (flow_after came ack flow) (in_version flow.version (message_about came ack n flow)) (record {
            counted = omega (arith, is.counted);
            spanned = heard-within came.0 flow.count flow.epoch is.spanned;
            changed = omega (arith, is.changed, changed);
            runs = heard-runs came.0 (flow.count + 1) flow.epoch flow.version came.1 state.programs
                (runs-with came.1 code here (heard-fits flow.machine.is_stopped code ack flow.machine now.0 runs.0) runs.1);
          }) (heard-framed code ack n flow is.spanned count runs.1 (fields-few code now.0) flow.machine.is_stopped flow.machine now.0 runs.0)

  kept-updated : (version : Version) (n : ℕ) (values : List Pair) (flow : Option Flow) → IsFlowThere state.programs state.messages flow
      → IsKept (state.messages + 1) (updated_at flow state version n values)
  kept-updated version n values None is = kept-refused version n NoFlow 0
  kept-updated version n values (Some flow) is = kept-updated-on n flow is version values (running_code flow.epoch state.programs) refl

  kept-acked : (version : Version) (n : ℕ) (ack : Ack) → state.messages < most_messages → (flow : Option Flow) → IsFlowThere state.programs state.messages flow
      → IsKept (state.messages + 1) (flow_acked flow state version n ack)
  kept-acked version n ack small None is = kept-refused version n NoFlow 0
  kept-acked version n ack small (Some flow) is = kept-acked-on n flow is small ack (running_code flow.epoch state.programs) refl

  pub handled-kept : (message : Message) (version : Version) → state.messages < most_messages → IsKept (state.messages + 1) (handled state message version)
  handled-kept (Create n mss cwnd) version small =
      kept-if (state.messages + 1) (nat_lt n most_flows) (created_at (there state.flows n) state version n cwnd) (refused state version n FlowAbove 0)
      (kept-created (there state.flows n) version n cwnd) (kept-refused version n FlowAbove 0)
  handled-kept (Install n program code) version small =
      kept-if (state.messages + 1) (nat_lt program most_kept_programs) (installed_at (there state.programs program) state version n program code) (refused state version n ProgramAbove program)
      (kept-installed version n program code (there state.programs program) refl) (kept-refused version n ProgramAbove program)
  handled-kept (Change n program values) version small = kept-changed version n program values (there state.flows n) (flow-there n)
  handled-kept (Update n values) version small = kept-updated version n values (there state.flows n) (flow-there n)
  handled-kept (message.Ack n ack) version small = kept-acked version n ack small (there state.flows n) (flow-there n)
  handled-kept (Measure report) version small = kept-same None tt
  handled-kept (Fault notice) version small = kept-same None tt
  handled-kept (Refused n reason index) version small = kept-same None tt
