-- What holds of a session at any place of its frames: its programs, and how many flows it has.
use Rattle.std.proofs.Common.{◌≡◌, ℕ, zero, suc, ◌+◌, ◌-◌, Option, Some, None, option_map, Result, Ok, Err, List, [], ◌∷◌, length, take, drop, arith, ap, refl, ◌∙◌, length-append}
use Rattle.std.specs.List.{All}
use Rattle.std.proofs.lemmas.List.Elements.{All-append, All-cons, All-nil}
use Rattle.ccp_base.specs.Limits.{most_audit_bytes}
use Rattle.ccp_messages.specs.declared.message.Message.{Message}
use Rattle.ccp_messages.specs.declared.message.Message.TheVariants as message
use Rattle.ccp_messages.specs.declared.fault.DecodeFault.{DecodeFault}
use Rattle.ccp_messages.specs.declared.fault.DecodeFault.TheVariants as decode
use Rattle.ccp_messages.specs.Decoding.{Found, decoded_of}
use Rattle.reply_frames.specs.declared.outline.Version.{Version}
use Rattle.feed_core.specs.Feed.{Answer}
use Rattle.feed_core.specs.FeedBytes.{AnswerRule, fed, fed_on, frames_from}
use Rattle.driven_flow.specs.declared.case.DrivenCase.{DrivenCase}
use Rattle.driven_flow.specs.declared.refusal.Refusal.{Refusal}
use Rattle.driven_flow.specs.Driven.{Codes, DrivenState, Given, left_of}
use Rattle.driven_flow.specs.Session.{SessionState, opening, hear, heard, heard_as, turned, turned_by, gone_on, stopped, stopped_by, reported, refusal, with_ended, run_on}
use Rattle.driven_flow.specs.SessionHolds.{HasPrograms}
use Rattle.driven_flow.proofs.SessionLawLemmas.{run-own}

-- ---- what frames keep

module _ {S : Type 0} (answer : AnswerRule S) (P : S → Type 0) (keeps : (state : S) (message : Message) (version : Version) → P state → P (answer state message version).1) where
  keeps-fed : (frames place : ℕ) (state : S) (bytes : List ℕ) → P state → P (fed answer frames place state bytes).state
  keeps-fed zero place state bytes holds = holds
  keeps-fed (suc frames) place state bytes holds = on (λ place state bytes holds. keeps-fed frames place state bytes holds) (decoded_of bytes)
    where
      on : ((place : ℕ) (state : S) (bytes : List ℕ) → P state → P (fed answer frames place state bytes).state) → (found : Result Found DecodeFault) → P (fed_on answer (fed answer frames) place state bytes found).state
      on again (Ok (message, version, used)) =
          again (place + used) (answer state message version).1 (drop used bytes) (keeps state message version holds)
      on again (Err (decode.Bad field offset)) = holds
      on again (Err (decode.More needed)) = holds
      on again (Err (decode.NoMemory _)) = holds

  pub keeps-frames : (limit place : ℕ) (state : S) (bytes : List ℕ) → P state → P (frames_from answer limit place state bytes).state
  unfolding frames_from
  keeps-frames limit place state bytes holds = keeps-fed (limit - place) place state (take (limit - place) bytes) holds

-- ---- a session

-- whether there is a flow, as a number
abbrev pub in_flow : Option DrivenState → ℕ
in_flow None = 0
in_flow (Some flow) = 1

abbrev pub HasCodes : Codes → DrivenState → Type 0
HasCodes codes flow = flow.programs ≡ codes

-- the session and its flows have these programs, and it has this number of flows in all
pub record IsSessionOf (codes : Codes) (count : ℕ) (s : SessionState) : Type 0 where
  pub programs : s.programs ≡ codes
  pub flow : HasPrograms codes s.flow
  pub ended : All (HasCodes codes) s.ended
  pub counted : length s.ended + in_flow s.flow + length s.left ≡ count

pub opening-holds : (codes : Codes) (cases : List DrivenCase) → IsSessionOf codes (length cases) (opening codes cases)
opening-holds codes cases = record { programs = refl; flow = tt; ended = All-nil (HasCodes codes); counted = omega arith }

module _ (codes : Codes) (count : ℕ) where
  abbrev pub Holds : SessionState → Type 0
  Holds s = IsSessionOf codes count s

  turned-holds : (s : SessionState) (given : Given) → Holds s → Holds (turned s given)
  turned-holds s given h = go s.flow s.left refl refl
    where
      go : (flow : Option DrivenState) (left : List DrivenCase) → s.flow ≡ flow → s.left ≡ left → Holds (turned_by flow left s given)
      go (Some flow) left is rest = h
      go None [] is rest = h
      go None (case ∷ later) is rest =
          let counted = h.counted in
          record {
            programs = h.programs;
            flow = h.programs;
            ended = h.ended;
            counted = omega (arith, counted, ap in_flow is, ap length rest);
          }

  gone-holds : (s : SessionState) (given : Given) → Holds s → Holds (gone_on s given)
  gone-holds s given h = go s.flow refl h.flow
    where
      go : (flow : Option DrivenState) → s.flow ≡ flow → HasPrograms codes flow → Holds (record s { flow = option_map (run_on given) flow })
      go None is none =
          let counted = h.counted in
          record { programs = h.programs; flow = tt; ended = h.ended; counted = omega (arith, counted, ap in_flow is) }
      go (Some flow) is own =
          let counted = h.counted in
          record {
            programs = h.programs;
            flow = run-own (left_of flow) given flow ∙ own;
            ended = h.ended;
            counted = omega (arith, counted, ap in_flow is);
          }

  ended-holds : (s : SessionState) → Holds s → Holds (with_ended s.flow s)
  ended-holds s h = go s.flow refl h.flow
    where
      go : (flow : Option DrivenState) → s.flow ≡ flow → HasPrograms codes flow → Holds (with_ended flow s)
      go None is none = h
      go (Some flow) is own =
          let counted = h.counted in
          record {
            programs = h.programs;
            flow = tt;
            ended = All-append (HasCodes codes) s.ended (flow ∷ []) h.ended (All-cons (HasCodes codes) flow [] own (All-nil (HasCodes codes)));
            counted = omega (arith, counted, ap in_flow is, length-append s.ended (flow ∷ []));
          }

  stopped-holds : (s : SessionState) → Holds s → Holds (stopped s).1
  stopped-holds s h = go (reported s.flow)
    where
      go : (ticket : Answer) → Holds (stopped_by ticket s).1
      go (Some ticket) = h
      go None = ended-holds s h

  heard-holds : (s : SessionState) (version : Version) (flow : ℕ) (given : Given) → Holds s → Holds (heard s version flow given).1
  heard-holds s version flow given h = go (refusal s flow given)
    where
      go : (why : Option Refusal) → Holds (heard_as why s version flow given).1
      go (Some why) = h
      go None = stopped-holds (gone_on (turned s given) given) (gone-holds (turned s given) given (turned-holds s given h))

  hear-holds : (s : SessionState) (message : Message) (version : Version) → Holds s → Holds (hear s message version).1
  hear-holds s (message.Create flow mss cwnd) version h = h
  hear-holds s (message.Measure report) version h = h
  hear-holds s (message.Update flow values) version h = heard-holds s version flow (record { program = None; values = values }) h
  hear-holds s (message.Install flow program code) version h = h
  hear-holds s (message.Change flow program values) version h = heard-holds s version flow (record { program = Some program; values = values }) h
  hear-holds s (message.Fault notice) version h = h
  hear-holds s (message.Ack flow ack) version h = h
  hear-holds s (message.Refused flow reason index) version h = h

  pub frames-hold : (place : ℕ) (s : SessionState) (bytes : List ℕ) → Holds s → Holds (frames_from hear most_audit_bytes place s bytes).state
  frames-hold place s bytes h = keeps-frames hear Holds hear-holds most_audit_bytes place s bytes h
