-- What holds of every session, by the cases of its frames.
use Rattle.std.specs.Prelude.{◌≡◌, ℕ, true, false, if◌then◌else◌, Option, Some, None, option_map, is_some, IfSome, List, [], ◌∷◌, refl}
use Rattle.std.specs.List.{AllByRecursion}
use Rattle.ccp_base.specs.FieldReg.{Pair}
use Rattle.ccp_base.specs.declared.exchange.Told.{Told}
use Rattle.ccp_base.specs.declared.exchange.Told.TheVariants as told
use Rattle.reply_frames.specs.declared.outline.Version.{Version}
use Rattle.ccp_messages.specs.declared.message.Message.{Message}
use Rattle.ccp_messages.specs.declared.message.Message.TheVariants.{Create, Measure, Install, Update, Change, Fault, Refused}
use Rattle.ccp_messages.specs.declared.message.Message.TheVariants as message
use Rattle.ccp_messages.specs.declared.reason.Reason.TheVariants.{NoFlow}
use Rattle.feed_core.specs.Feed.{Answer}
use Rattle.driven_flow.specs.declared.case.DrivenCase.{DrivenCase}
use Rattle.driven_flow.specs.declared.refusal.Refusal.{Refusal}
use Rattle.driven_flow.specs.Driven.{Codes, Given, DrivenState, ReadsAsSources, flow_by, world_by, left_of, told_out}
use Rattle.driven_flow.specs.Session.{SessionState, created, message_of, reported, waiting, waits, is_waiting, values_refusal, program_meant, running, refused, refusal, turned_by, turned, with_ended, stopped_by, then_on, after_one, run_for, run_on, gone_on, accepted, heard_as, heard, hear}
use Rattle.driven_flow.specs.SessionLaws.{EndsForGood, KeepsPrograms, HasOwnPrograms, FlowsKeepPrograms, Refuses, RefusesWithoutChange, AllReadAlike}
use Rattle.driven_flow.proofs.DrivenLiftLemmas.{reads-alike}
use Rattle.std.proofs.Common.{ap, subst, zero, suc, ◌++◌, ◌∙◌}
use Rattle.flow_core.specs.declared.letter.Letter.{Letter}
use Rattle.flow_core.specs.declared.letter.Letter.TheVariants.{A, T, C}
use Rattle.campaign_core.specs.CampaignWord.{next_of}

abbrev update : List Pair → Given
update values = record { program = None; values = values }

abbrev change : ℕ → List Pair → Given
change program values = record { program = Some program; values = values }

-- ---- after the end

none-waits : (o : Option ℕ) → is_some o ≡ false → o ≡ None
none-waits None is = refl
none-waits (Some n) is = absurd (let wrong : true ≡ false = is in (cc))

module _ (s : SessionState) (over : waits s ≡ false) where
  refused-all : (flow : ℕ) (given : Given) → refusal s flow given ≡ Some (refused NoFlow 0)
  refused-all flow given =
      ap
      (λ (o : Option ℕ).
      if is_waiting o flow then values_refusal s.programs given.values (program_meant s.programs (running s) given.program)
      else Some (refused NoFlow 0))
      (none-waits (waiting s) over)

  heard-all : (version : Version) (flow : ℕ) (given : Given) → heard s version flow given ≡ (Some (Refused flow NoFlow 0, version), s)
  heard-all version flow given = ap (λ (o : Option Refusal). heard_as o s version flow given) (refused-all flow given)

  same-all : (message : Message) (version : Version) → (hear s message version).1 ≡ s
  same-all (Update flow values) version = ap (λ (a : Answer × SessionState). a.1) (heard-all version flow (update values))
  same-all (Change flow program values) version = ap (λ (a : Answer × SessionState). a.1) (heard-all version flow (change program values))
  same-all (Create flow mss cwnd) version = refl
  same-all (Install flow program code) version = refl
  same-all (Measure report) version = refl
  same-all (Fault notice) version = refl
  same-all (message.Ack flow ack) version = refl
  same-all (Refused flow reason index) version = refl

pub ends-for-good : EndsForGood
ends-for-good s over = record {
  same = same-all s over;
  update = λ flow values version. ap (λ (a : Answer × SessionState). a.0) (heard-all s over version flow (update values));
  change = λ flow program values version. ap (λ (a : Answer × SessionState). a.0) (heard-all s over version flow (change program values));
}

-- ---- the programs

ended-programs : (flow : Option DrivenState) (s : SessionState) → (with_ended flow s).programs ≡ s.programs
ended-programs None s = refl
ended-programs (Some flow) s = refl

stopped-programs : (answer : Answer) (s : SessionState) → (stopped_by answer s).1.programs ≡ s.programs
stopped-programs (Some ticket) s = refl
stopped-programs None s = ended-programs s.flow s

turned-programs : (flow : Option DrivenState) (left : List DrivenCase) (s : SessionState) (given : Given)
    → (turned_by flow left s given).programs ≡ s.programs
turned-programs (Some flow) left s given = refl
turned-programs None [] s given = refl
turned-programs None (case ∷ rest) s given = refl

accepted-programs : (s : SessionState) (given : Given) → (accepted s given).1.programs ≡ s.programs
accepted-programs s given =
    let later = gone_on (turned s given) given in
    stopped-programs (reported later.flow) later ∙ turned-programs s.flow s.left s given

heard-programs : (why : Option Refusal) (s : SessionState) (version : Version) (flow : ℕ) (given : Given)
    → (heard_as why s version flow given).1.programs ≡ s.programs
heard-programs (Some why) s version flow given = refl
heard-programs None s version flow given = accepted-programs s given

pub keeps-programs : KeepsPrograms
keeps-programs s (Update flow values) version = heard-programs (refusal s flow (update values)) s version flow (update values)
keeps-programs s (Change flow program values) version = heard-programs (refusal s flow (change program values)) s version flow (change program values)
keeps-programs s (Create flow mss cwnd) version = refl
keeps-programs s (Install flow program code) version = refl
keeps-programs s (Measure report) version = refl
keeps-programs s (Fault notice) version = refl
keeps-programs s (message.Ack flow ack) version = refl
keeps-programs s (Refused flow reason index) version = refl

-- ---- the programs of the flows

abbrev Own : Codes → DrivenState → Type 0
Own codes flow = flow.programs ≡ codes

all-pushed : (codes : Codes) (flows : List DrivenState) (flow : DrivenState) → AllByRecursion (Own codes) flows → Own codes flow
    → AllByRecursion (Own codes) (flows ++ flow ∷ [])
all-pushed codes [] flow all own = (own, tt)
all-pushed codes (first ∷ rest) flow all own = (all.0, all-pushed codes rest flow all.1 own)

ended-own : (flow : Option DrivenState) (s : SessionState) → s.flow ≡ flow → HasOwnPrograms s → HasOwnPrograms (with_ended flow s)
ended-own None s is own = own
ended-own (Some flow) s is own =
    let of_flow : Own s.programs flow = subst (λ (f : Option DrivenState). IfSome f (Own s.programs)) is own.1 in
    (all-pushed s.programs s.ended flow own.0 of_flow, tt)

stopped-own : (answer : Answer) (s : SessionState) → HasOwnPrograms s → HasOwnPrograms (stopped_by answer s).1
stopped-own (Some ticket) s own = own
stopped-own None s own = ended-own s.flow s refl own

turned-own : (flow : Option DrivenState) (left : List DrivenCase) (s : SessionState) (given : Given)
    → HasOwnPrograms s → HasOwnPrograms (turned_by flow left s given)
turned-own (Some flow) left s given own = own
turned-own None [] s given own = own
turned-own None (case ∷ rest) s given own = (own.0, refl)

then-own : (letter : Option Letter) (given : Given) (flow : DrivenState) (on : DrivenState → DrivenState)
    → ((f : DrivenState) → (on f).programs ≡ f.programs)
    → (then_on letter (after_one given flow) on flow).programs ≡ flow.programs
then-own None given flow on same = refl
then-own (Some A) given flow on same = same (after_one given flow A)
then-own (Some C) given flow on same = same (after_one given flow C)
then-own (Some T) given flow on same = refl

pub run-own : (most : ℕ) (given : Given) (flow : DrivenState) → (run_for most given flow).programs ≡ flow.programs
run-own zero given flow = refl
run-own (suc most) given flow =
    then-own (next_of (flow_by flow) flow.case.lag (world_by flow)) given flow (run_for most given) (λ f. run-own most given f)

gone-own : (codes : Codes) (flow : Option DrivenState) (given : Given) → IfSome flow (Own codes) → IfSome (option_map (run_on given) flow) (Own codes)
gone-own codes None given own = tt
gone-own codes (Some flow) given own = run-own (left_of flow) given flow ∙ own

accepted-own : (s : SessionState) (given : Given) → HasOwnPrograms s → HasOwnPrograms (accepted s given).1
accepted-own s given own =
    let turn = turned s given in
    let turns = turned-own s.flow s.left s given own in
    let later = gone_on turn given in
    stopped-own (reported later.flow) later (turns.0, gone-own turn.programs turn.flow given turns.1)

heard-own : (why : Option Refusal) (s : SessionState) (version : Version) (flow : ℕ) (given : Given)
    → HasOwnPrograms s → HasOwnPrograms (heard_as why s version flow given).1
heard-own (Some why) s version flow given own = own
heard-own None s version flow given own = accepted-own s given own

pub flows-keep-programs : FlowsKeepPrograms
flows-keep-programs s (Update flow values) version own = heard-own (refusal s flow (update values)) s version flow (update values) own
flows-keep-programs s (Change flow program values) version own =
    heard-own (refusal s flow (change program values)) s version flow (change program values) own
flows-keep-programs s (Create flow mss cwnd) version own = own
flows-keep-programs s (Install flow program code) version own = own
flows-keep-programs s (Measure report) version own = own
flows-keep-programs s (Fault notice) version own = own
flows-keep-programs s (message.Ack flow ack) version own = own
flows-keep-programs s (Refused flow reason index) version own = own

-- ---- a refused frame

told-refuses : (told : Told) → Refuses (Some (message_of told)) → ⊥
told-refuses (told.Report report) refuses = refuses
told-refuses (told.Fault notice) refuses = refuses

created-refuses : (left : List DrivenCase) → Refuses (created left) → ⊥
created-refuses [] refuses = refuses
created-refuses (case ∷ rest) refuses = refuses

ticket-refuses : (told : Option Told) (s : SessionState) → Refuses (stopped_by (option_map message_of told) s).0 → ⊥
ticket-refuses (Some told) s refuses = told-refuses told refuses
ticket-refuses None s refuses = created-refuses s.left refuses

flow-refuses : (flow : Option DrivenState) (s : SessionState) → Refuses (stopped_by (reported flow) s).0 → ⊥
flow-refuses None s refuses = ticket-refuses None s refuses
flow-refuses (Some flow) s refuses = ticket-refuses (told_out (flow_by flow) (world_by flow)) s refuses

heard-unchanged : (why : Option Refusal) (s : SessionState) (version : Version) (flow : ℕ) (given : Given)
    → Refuses (heard_as why s version flow given).0 → (heard_as why s version flow given).1 ≡ s
heard-unchanged (Some why) s version flow given refuses = refl
heard-unchanged None s version flow given refuses =
    let later = gone_on (turned s given) given in
    absurd (flow-refuses later.flow later refuses)

pub refuses-without-change : RefusesWithoutChange
refuses-without-change s (Update flow values) version refuses = heard-unchanged (refusal s flow (update values)) s version flow (update values) refuses
refuses-without-change s (Change flow program values) version refuses = heard-unchanged (refusal s flow (change program values)) s version flow (change program values) refuses
refuses-without-change s (Create flow mss cwnd) version refuses = refl
refuses-without-change s (Install flow program code) version refuses = refl
refuses-without-change s (Measure report) version refuses = refl
refuses-without-change s (Fault notice) version refuses = refl
refuses-without-change s (message.Ack flow ack) version refuses = refl
refuses-without-change s (Refused flow reason index) version refuses = refl

-- ---- over the sources

all-alike : (flows : List DrivenState) → AllByRecursion ReadsAsSources flows
all-alike [] = tt
all-alike (flow ∷ rest) = (reads-alike flow, all-alike rest)

one-alike : (flow : Option DrivenState) → IfSome flow ReadsAsSources
one-alike None = tt
one-alike (Some flow) = reads-alike flow

pub all-read-alike : (s : SessionState) → AllReadAlike s
all-read-alike s = (all-alike s.ended, one-alike s.flow)
