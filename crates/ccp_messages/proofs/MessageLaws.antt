-- A message and the body of its frame determine one another.
use Rattle.std.proofs.Common.{◌≡◌, ℕ, ◌≤◌, ◌<◌, ◌^◌, List, [], ◌∷◌, ◌++◌, length, take, refl, sym, ap, subst, ◌∙◌, arith}
use Rattle.std.specs.Prelude.{map}
use Rattle.std.specs.List.{AllByRecursion}
use Rattle.std.proofs.lemmas.List.{length-map}
use Rattle.ccp_base.specs.declared.arithmetic.FaultKind.{FaultKind}
use Rattle.ccp_base.specs.declared.arithmetic.FaultKind.TheVariants.{Overflow, Underflow, ZeroDivisor}
use Rattle.ccp_base.specs.Acknowledgement.{primitives, flag_number, ack_of}
use Rattle.ccp_base.specs.FieldReg.{Pair}
use Rattle.ccp_base.specs.Limits.{most_fields}
use Rattle.reply_frames.specs.declared.outline.Version.{Version}
use Rattle.reply_frames.specs.declared.outline.Version.TheVariants.{One, Two}
use Rattle.reply_frames.specs.declared.outline.FrameKind.TheVariants as kinds
use Rattle.reply_frames.specs.Kinds.{most_n1}
use Rattle.reply_frames.specs.Frames.{Body}
use Rattle.reply_frames.specs.Frames as body
use Rattle.reply_frames.specs.Bodies.{fault_number}
use Rattle.reply_frames.specs.ValueBytes.{AreTargets, ValueFits, IsSendable}
use Rattle.reply_frames.specs.FrameBytes.{IsNumber, IsCount, IsSpellable}
use Rattle.reply_frames.proofs.BodyLaws.{fault-back, fault-again, true-back, plain-numbers, ack-again}
use Rattle.ccp_messages.specs.declared.message.Message.{Message}
use Rattle.ccp_messages.specs.declared.message.Message.TheVariants.{Create, Measure, Install, Update, Change, Fault, Refused}
use Rattle.ccp_messages.specs.declared.message.Message.TheVariants as message
use Rattle.ccp_messages.specs.CodeParts.{start_part, decoded_start, event_part, decoded_event, instruction_part, decoded_instr}
use Rattle.ccp_messages.specs.Messages.{IsShortCount, AreFew, IsNarrow, Meets, message_flow, message_body, message_of, IsTyped}
use Rattle.ccp_messages.proofs.ReasonLaws.{reason-back, reason-within, reason-again}
use Rattle.ccp_messages.proofs.CodeLaws.{truth-low, starts-back, events-back, instrs-back, starts-again, events-again, instructions-again, starts-fit, events-fit, instructions-fit}

-- ---- from a message and back

pub message-back : (m : Message) → message_of (message_flow m) (message_body m) ≡ m
message-back (Create flow mss cwnd) = refl
message-back (Measure report) = refl
message-back (Install flow program code) =
    ap (λ xs. Install flow program (record { reports = xs; controls = map decoded_start (map start_part code.controls); events = map decoded_event (map event_part code.events); instrs = map decoded_instr (map instruction_part code.instrs) })) (starts-back code.reports)
    ∙ ap (λ xs. Install flow program (record { reports = code.reports; controls = xs; events = map decoded_event (map event_part code.events); instrs = map decoded_instr (map instruction_part code.instrs) })) (starts-back code.controls)
    ∙ ap (λ xs. Install flow program (record { reports = code.reports; controls = code.controls; events = xs; instrs = map decoded_instr (map instruction_part code.instrs) })) (events-back code.events)
    ∙ ap (λ xs. Install flow program (record { reports = code.reports; controls = code.controls; events = code.events; instrs = xs })) (instrs-back code.instrs)
message-back (Update flow values) = refl
message-back (Change flow program values) = refl
message-back (Fault n) = ap (λ kind. Fault (record { flow = n.flow; program = n.program; epoch = n.epoch; at = n.at; kind = kind; index = n.index; now = n.now; cwnd = n.cwnd })) (fault-back n.kind)
message-back (message.Ack flow ack) = ap (λ b. message.Ack flow (record ack { was_timeout = b })) (true-back ack.was_timeout)
message-back (Refused flow reason index) = ap (λ reason. Refused flow reason index) (reason-back reason)

-- ---- what meets the conditions has a place in a frame

-- in both versions
pub meets-both : (m : Message) → Meets One m → Meets Two m × IsNarrow m
meets-both (Create flow mss cwnd) meets = (tt, tt)
meets-both (Measure report) meets = ((tt, tt, tt), meets)
meets-both (Install flow program code) meets = ((meets.0, meets.1, meets.2, meets.3, tt), meets.4)
meets-both (Update flow values) meets = (meets, tt)
meets-both (Change flow program values) meets = (meets, tt)
meets-both (Fault notice) meets = (tt, meets)
meets-both (message.Ack flow ack) meets = (tt, tt)
meets-both (Refused flow reason index) meets = (tt, tt)

pub meets-one : (m : Message) → Meets Two m → IsNarrow m → Meets One m
meets-one (Create flow mss cwnd) meets narrow = tt
meets-one (Measure report) meets narrow = narrow
meets-one (Install flow program code) meets narrow = (meets.0, meets.1, meets.2, meets.3, narrow)
meets-one (Update flow values) meets narrow = meets
meets-one (Change flow program values) meets narrow = meets
meets-one (Fault notice) meets narrow = narrow
meets-one (message.Ack flow ack) meets narrow = tt
meets-one (Refused flow reason index) meets narrow = tt

pairs-sendable : (values : List Pair) → AreTargets values → AllByRecursion ValueFits values → AllByRecursion IsSendable values
pairs-sendable [] targets fit = tt
pairs-sendable (value ∷ values) targets fit = ((targets.0, fit.0), pairs-sendable values targets.1 fit.1)

fault-low : (kind : FaultKind) → fault_number kind ≤ 2
fault-low Overflow = omega arith
fault-low Underflow = omega arith
fault-low ZeroDivisor = omega arith

abbrev HasBody : Version → Message → Type 0
HasBody version m = IsSpellable version (message_flow m) (message_body m)

-- a count of a typed message that is short enough
short-count : (version : Version) (n : ℕ) → IsShortCount version n → n < 2 ^ 64 → IsCount version n
short-count One n short fits = short
short-count Two n short fits = fits

few-fields : (version : Version) (n : ℕ) → AreFew version n → n ≤ 64 → n ≤ most_n1 kinds.Measure version
few-fields One n few fits = few
few-fields Two n few fits = fits

few-reports : (version : Version) (n : ℕ) → AreFew version n → n ≤ 64 → n ≤ most_n1 kinds.Install version
few-reports One n few fits = few
few-reports Two n few fits = fits

pub message-fits : (version : Version) (m : Message) → Meets version m → IsTyped m → HasBody version m
message-fits version (Create flow mss cwnd) meets typed = (typed.0, (omega arith, omega arith, omega arith, omega arith), (typed.1.1, typed.1.0))
message-fits version (Measure r) meets typed = (
  typed.0,
  (few-fields version (length r.fields) meets.2 typed.1.7.0, omega arith, omega arith, omega arith),
  (typed.1.0, typed.1.1, short-count version r.first meets.0 typed.1.2, short-count version r.end meets.1 typed.1.3, typed.1.4, typed.1.5, typed.1.6, typed.1.7.1),
)
message-fits version (Install flow program code) meets typed = (
  typed.0,
  (
    omega (arith, few-reports version (length code.reports) meets.4 meets.0, length-map code.reports start_part),
    omega (arith, meets.1, length-map code.controls start_part),
    omega (arith, meets.2, length-map code.events event_part),
    omega (arith, meets.3, length-map code.instrs instruction_part),
  ),
  (typed.1.0, starts-fit code.reports typed.1.1.0, starts-fit code.controls typed.1.1.1, events-fit code.events typed.1.1.2, instructions-fit code.instrs typed.1.1.3),
)
message-fits version (Update flow values) meets typed = (typed.0, (typed.1.0, omega arith, omega arith, omega arith), pairs-sendable values meets typed.1.1)
message-fits version (Change flow program values) meets typed = (typed.0, (typed.1.1.0, omega arith, omega arith, omega arith), (typed.1.0, pairs-sendable values meets typed.1.1.1))
message-fits version (Fault n) meets typed = (typed.0, (omega arith, omega arith, omega arith, omega arith), (typed.1.0, typed.1.1, short-count version n.at meets typed.1.2, fault-low n.kind, typed.1.3, typed.1.4, typed.1.5))
message-fits version (message.Ack flow ack) meets typed = (typed.0, (omega arith, omega arith, omega arith, omega arith), (refl, typed.1, truth-low ack.was_timeout))
message-fits version (Refused flow reason index) meets typed =
    let within = reason-within reason in
    (typed.0, (omega arith, omega arith, omega arith, omega arith), (within.0, within.1, typed.1))

-- ---- from a body and back

targets-of : (values : List Pair) → AllByRecursion IsSendable values → AreTargets values
targets-of [] sendable = tt
targets-of (value ∷ values) sendable = (sendable.0.0, targets-of values sendable.1)

numbers-of : (values : List Pair) → AllByRecursion IsSendable values → AllByRecursion ValueFits values
numbers-of [] sendable = tt
numbers-of (value ∷ values) sendable = (sendable.0.1, numbers-of values sendable.1)

-- the body's message has it, is typed, and meets the conditions
pub record IsSaid (version : Version) (flow : ℕ) (b : Body) : Type 0 where
  pub flow_is : message_flow (message_of flow b) ≡ flow
  pub body_is : message_body (message_of flow b) ≡ b
  pub meets : Meets version (message_of flow b)
  pub typed : IsTyped (message_of flow b)

count-short : (version : Version) (n : ℕ) → IsCount version n → IsShortCount version n × (n < 2 ^ 64)
count-short One n count = (count, omega (arith, count))
count-short Two n count = (tt, count)

fields-few : (version : Version) (n : ℕ) → n ≤ most_n1 kinds.Measure version → AreFew version n × (n ≤ most_fields)
fields-few One n few = (few, omega (arith, few))
fields-few Two n few = (tt, few)

reports-few : (version : Version) (n m : ℕ) → m ≡ n → n ≤ most_n1 kinds.Install version → AreFew version m × (m ≤ most_fields)
reports-few One n m is few = (omega (arith, few), omega (arith, few))
reports-few Two n m is few = (tt, omega (arith, few))

pub body-said : (version : Version) (flow : ℕ) (b : Body) → IsSpellable version flow b → IsSaid version flow b
body-said version flow (body.Create cwnd mss) ok = record { flow_is = refl; body_is = refl; meets = tt; typed = (ok.0, (ok.2.1, ok.2.0)) }
body-said version flow (body.Measure program epoch first last now cwnd rate fields) ok =
    let few = fields-few version (length fields) ok.1.0 in
    let a = count-short version first ok.2.2 in
    let b = count-short version last ok.2.3 in
    record {
      flow_is = refl;
      body_is = refl;
      meets = (a.0, b.0, few.0);
      typed = (ok.0, (ok.2.0, ok.2.1, a.1, b.1, ok.2.4, ok.2.5, ok.2.6, (few.1, ok.2.7)));
    }
body-said version flow (body.Install program reports controls events instructions) ok =
    let r = starts-again reports ok.2.1 in
    let s = starts-again controls ok.2.2 in
    let e = events-again events ok.2.3 in
    let i = instructions-again instructions ok.2.4 in
    let few = reports-few version (length reports) (length (map decoded_start reports)) (length-map reports decoded_start) ok.1.0 in
    record {
      flow_is = refl;
      body_is =
          ap (λ xs. body.Install program xs (map start_part (map decoded_start controls)) (map event_part (map decoded_event events)) (map instruction_part (map decoded_instr instructions))) r.0
          ∙ ap (λ xs. body.Install program reports xs (map event_part (map decoded_event events)) (map instruction_part (map decoded_instr instructions))) s.0
          ∙ ap (λ xs. body.Install program reports controls xs (map instruction_part (map decoded_instr instructions))) e.0
          ∙ ap (λ xs. body.Install program reports controls events xs) i.0;
      meets = (
        few.1,
        omega (arith, ok.1.1, length-map controls decoded_start),
        omega (arith, ok.1.2, length-map events decoded_event),
        omega (arith, ok.1.3, length-map instructions decoded_instr),
        few.0,
      );
      typed = (ok.0, (ok.2.0, (r.1, s.1, e.1, i.1)));
    }
body-said version flow (body.Update values) ok = record { flow_is = refl; body_is = refl; meets = targets-of values ok.2; typed = (ok.0, (ok.1.0, numbers-of values ok.2)) }
body-said version flow (body.Change program values) ok = record { flow_is = refl; body_is = refl; meets = targets-of values ok.2.1; typed = (ok.0, (ok.2.0, (ok.1.0, numbers-of values ok.2.1))) }
body-said version flow (body.Fault program epoch place kind index now cwnd) ok =
    let a = count-short version place ok.2.2 in
    record {
      flow_is = refl;
      body_is = ap (λ kind. body.Fault program epoch place kind index now cwnd) (fault-again kind ok.2.3);
      meets = a.0;
      typed = (ok.0, (ok.2.0, ok.2.1, a.1, ok.2.4, ok.2.5, ok.2.6));
    }
body-said version flow (body.Ack numbers was_timeout) ok =
    let is : take flag_number (primitives (ack_of (numbers ++ was_timeout ∷ []))) ≡ numbers = plain-numbers numbers was_timeout ok.2.0 in
    record {
      flow_is = refl;
      body_is = ack-again numbers was_timeout ok.2.0 ok.2.2;
      meets = tt;
      typed = (ok.0, subst (λ xs. AllByRecursion IsNumber xs) (sym is) ok.2.1);
    }
body-said version flow (body.Refused number index) ok = record {
  flow_is = refl;
  body_is = ap (λ n. body.Refused n index) (reason-again number ok.2.0 ok.2.1);
  meets = tt;
  typed = (ok.0, ok.2.2);
}
