-- The answers of a feed's calls, place by place.
use Rattle.std.proofs.Common.{◌≡◌, ℕ, ◌<◌, Bool, true, false, nat_lt, Option, Some, None, unwrap_or, List, length, slice_set, slice_index_or, ap, sym, ◌∙◌, cond}
use Rattle.std.proofs.lemmas.List.{set-get_or}
use Rattle.std.proofs.lemmas.Option.{slice_get-get_or}
use Rattle.ccp_base.specs.declared.ack.Ack.{Ack}
use Rattle.ccp_base.specs.FieldReg.{Pair, first_bad_pair}
use Rattle.ccp_base.specs.Limits.{most_kept_programs}
use Rattle.reg_code.specs.declared.code.Code.{Code}
use Rattle.reg_code.specs.AcceptedCode.{Refusal, rejected}
use Rattle.reply_frames.specs.declared.outline.Version.{Version}
use Rattle.ccp_messages.specs.declared.message.Message.TheVariants.{Refused}
use Rattle.ccp_messages.specs.declared.reason.Reason.{Reason}
use Rattle.ccp_messages.specs.declared.reason.Reason.TheVariants.{NoFlow, ProgramAbove, NoProgram, NotAccepted}
use Rattle.ccp_messages.specs.declared.reason.Reason.TheVariants.{NoRegister, TooWide}
use Rattle.fold_machine.specs.Heard.{after_acknowledgement, updated_by}
use Rattle.feed_core.specs.declared.flow.Flow.{Flow}
use Rattle.feed_core.specs.Feed.{FeedState, there, Answer, MessageAnswer, changed_flow, is_too_wide, changed_with, changed_to, changed_at, changed, running_code, updated_with, updated_on, updated_at, updated, counted_flow, flow_after, message_about, in_version, acked_on, flow_acked, answer_to_ack, installed_as, installed_at, installed}

-- what stands at a place, written there again, changes nothing
pub same_there : {A : Type 0} (xs : List A) (n : ℕ) (x : A) → x ≡ slice_index_or xs n x → slice_set xs n x ≡ xs
same_there xs n x is = ap (slice_set xs n) is ∙ set-get_or xs n x

pub is_there : {A : Type 0} (xs : List (Option A)) (n : ℕ) (x : Option A) → n < length xs → x ≡ slice_index_or xs n x → there xs n ≡ x
is_there xs n x lt is = ap (λ o. unwrap_or o None) (slice_get-get_or xs n x lt) ∙ sym is

module _ (flows : List (Option Flow)) (programs : List (Option Code)) (messages n : ℕ) (version : Version) (x : Option Flow) (lt : n < length flows) (is : x ≡ slice_index_or flows n x) where
  abbrev old : FeedState
  old = record { flows = flows; programs = programs; messages = messages }

  abbrev put : Option Flow → FeedState
  put y = record { flows = slice_set flows n y; programs = programs; messages = messages }

  put-same : (y : Option Flow) → y ≡ x → put y ≡ old
  put-same y e = ap put e ∙ ap (λ fs. record { flows = fs; programs = programs; messages = messages }) (same_there flows n x is)

  refuses : (reason : Reason) (index : ℕ) (y : Option Flow) (r : Answer) → y ≡ x → r ≡ Some (Refused n reason index, version)
      → ◌≡◌ {A = MessageAnswer} (r, put y) (Some (Refused n reason index, version), old)
  refuses reason index y r e answer = λ i. (answer i, put-same y e i)

  -- ---- acknowledgements

  pub ack-absent : (ack : Ack) (y : Option Flow) (r : Answer) → x ≡ None → y ≡ x → r ≡ Some (Refused n NoFlow 0, version)
      → ◌≡◌ {A = MessageAnswer} (r, put y) (answer_to_ack old version n ack)
  ack-absent ack y r none e answer =
      refuses NoFlow 0 y r e answer ∙ sym (ap (λ f. flow_acked f old version n ack) (is_there flows n x lt is ∙ none))

  pub ack-counted : (ack : Ack) (flow flow' : Flow) (r : Answer) → x ≡ Some flow → running_code flow.epoch programs ≡ None → flow' ≡ counted_flow ack flow → r ≡ None
      → ◌≡◌ {A = MessageAnswer} (r, put (Some flow')) (answer_to_ack old version n ack)
  ack-counted ack flow flow' r some none e answer =
      (λ i. (answer i, put (Some (e i))))
      ∙ sym (ap (λ f. flow_acked f old version n ack) (is_there flows n x lt is ∙ some) ∙ ap (λ c. acked_on c old n ack flow) none)

  pub ack-heard : (ack : Ack) (flow flow' : Flow) (code : Code) (r : Answer) → x ≡ Some flow → running_code flow.epoch programs ≡ Some code
      → flow' ≡ flow_after (after_acknowledgement code ack true flow.machine) ack flow
      → r ≡ in_version flow.version (message_about (after_acknowledgement code ack true flow.machine) ack n flow)
      → ◌≡◌ {A = MessageAnswer} (r, put (Some flow')) (answer_to_ack old version n ack)
  ack-heard ack flow flow' code r some runs e answer =
      (λ i. (answer i, put (Some (e i))))
      ∙ sym (ap (λ f. flow_acked f old version n ack) (is_there flows n x lt is ∙ some) ∙ ap (λ c. acked_on c old n ack flow) runs)

  -- ---- updates

  pub update-absent : (values : List Pair) (y : Option Flow) (r : Answer) → x ≡ None → y ≡ x → r ≡ Some (Refused n NoFlow 0, version)
      → ◌≡◌ {A = MessageAnswer} (r, put y) (updated old version n values)
  update-absent values y r none e answer =
      refuses NoFlow 0 y r e answer ∙ sym (ap (λ f. updated_at f old version n values) (is_there flows n x lt is ∙ none))

  module _ (values : List Pair) (flow : Flow) (some : x ≡ Some flow) where
    update-there : updated old version n values ≡ updated_on (running_code flow.epoch programs) old version n values flow
    update-there = ap (λ f. updated_at f old version n values) (is_there flows n x lt is ∙ some)

    pub update-idle : (r : Answer) → running_code flow.epoch programs ≡ None → r ≡ Some (Refused n NoProgram 0, version)
        → ◌≡◌ {A = MessageAnswer} (r, put (Some flow)) (updated old version n values)
    update-idle r none answer =
        refuses NoProgram 0 (Some flow) r (sym some) answer ∙ sym (update-there ∙ ap (λ c. updated_on c old version n values flow) none)

    pub update-bad : (code : Code) (flow' : Flow) (place : ℕ) (r : Answer) → running_code flow.epoch programs ≡ Some code
        → first_bad_pair (length code.controls) values ≡ Some place → flow' ≡ flow → r ≡ Some (Refused n NoRegister place, version)
        → ◌≡◌ {A = MessageAnswer} (r, put (Some flow')) (updated old version n values)
    update-bad code flow' place r runs bad e answer =
        refuses NoRegister place (Some flow') r (ap Some e ∙ sym some) answer
        ∙ sym (update-there ∙ ap (λ c. updated_on c old version n values flow) runs ∙ ap (λ b. updated_with b old version n values flow) bad)

    pub update-written : (code : Code) (flow' : Flow) → running_code flow.epoch programs ≡ Some code
        → first_bad_pair (length code.controls) values ≡ None → flow' ≡ record flow { machine = updated_by values flow.machine }
        → ◌≡◌ {A = MessageAnswer} (None, put (Some flow')) (updated old version n values)
    update-written code flow' runs good e =
        ap (λ f. (None, put (Some f))) e
        ∙ sym (update-there ∙ ap (λ c. updated_on c old version n values flow) runs ∙ ap (λ b. updated_with b old version n values flow) good)

  -- ---- changes

  pub change-absent : (program : ℕ) (values : List Pair) (y : Option Flow) (r : Answer) → x ≡ None → y ≡ x → r ≡ Some (Refused n NoFlow 0, version)
      → ◌≡◌ {A = MessageAnswer} (r, put y) (changed old version n program values)
  change-absent program values y r none e answer =
      refuses NoFlow 0 y r e answer ∙ sym (ap (λ f. changed_at f old version n program values) (is_there flows n x lt is ∙ none))

  module _ (program : ℕ) (values : List Pair) (flow : Flow) (some : x ≡ Some flow) where
    change-at : changed old version n program values ≡ changed_at (Some flow) old version n program values
    change-at = ap (λ f. changed_at f old version n program values) (is_there flows n x lt is ∙ some)

    pub change-above : (r : Answer) → nat_lt program most_kept_programs ≡ false → r ≡ Some (Refused n ProgramAbove program, version)
        → ◌≡◌ {A = MessageAnswer} (r, put (Some flow)) (changed old version n program values)
    change-above r above answer =
        refuses ProgramAbove program (Some flow) r (sym some) answer
        ∙ sym (change-at ∙ ap (λ b. cond b (changed_to (there programs program) old version n program values flow) (Some (Refused n ProgramAbove program, version), old)) above)

    module _ (below : nat_lt program most_kept_programs ≡ true) where
      change-to : changed old version n program values ≡ changed_to (there programs program) old version n program values flow
      change-to = change-at ∙ ap (λ b. cond b (changed_to (there programs program) old version n program values flow) (Some (Refused n ProgramAbove program, version), old)) below

      pub change-unknown : (r : Answer) → there programs program ≡ None → r ≡ Some (Refused n NoProgram program, version)
          → ◌≡◌ {A = MessageAnswer} (r, put (Some flow)) (changed old version n program values)
      change-unknown r none answer =
          refuses NoProgram program (Some flow) r (sym some) answer
          ∙ sym (change-to ∙ ap (λ c. changed_to c old version n program values flow) none)

      module _ (code : Code) (here : there programs program ≡ Some code) where
        abbrev wide : Bool → MessageAnswer
        wide b = cond b (Some (Refused n TooWide program, version), old) (changed_with (first_bad_pair (length code.controls) values) old version n program values flow code)

        change-here : changed old version n program values ≡ wide (is_too_wide flow.version code)
        change-here = change-to ∙ ap (λ c. changed_to c old version n program values flow) here

        pub change-wide : (r : Answer) → is_too_wide flow.version code ≡ true → r ≡ Some (Refused n TooWide program, version)
            → ◌≡◌ {A = MessageAnswer} (r, put (Some flow)) (changed old version n program values)
        change-wide r is_wide answer = refuses TooWide program (Some flow) r (sym some) answer ∙ sym (change-here ∙ ap wide is_wide)

        pub change-bad : (flow' : Flow) (place : ℕ) (r : Answer) → is_too_wide flow.version code ≡ false → first_bad_pair (length code.controls) values ≡ Some place
            → flow' ≡ flow → r ≡ Some (Refused n NoRegister place, version)
            → ◌≡◌ {A = MessageAnswer} (r, put (Some flow')) (changed old version n program values)
        change-bad flow' place r fits bad e answer =
            refuses NoRegister place (Some flow') r (ap Some e ∙ sym some) answer
            ∙ sym (change-here ∙ ap wide fits ∙ ap (λ b. changed_with b old version n program values flow code) bad)

        pub change-started : (flow' : Flow) → is_too_wide flow.version code ≡ false → first_bad_pair (length code.controls) values ≡ None
            → flow' ≡ changed_flow code program values flow
            → ◌≡◌ {A = MessageAnswer} (None, put (Some flow')) (changed old version n program values)
        change-started flow' fits good e =
            ap (λ f. (None, put (Some f))) e
            ∙ sym (change-here ∙ ap wide fits ∙ ap (λ b. changed_with b old version n program values flow code) good)

-- ---- installs

module _ (flows : List (Option Flow)) (programs : List (Option Code)) (messages n : ℕ) (version : Version) (program : ℕ) (code : Code)
    (below : nat_lt program most_kept_programs ≡ true) (free : there programs program ≡ None) where
  abbrev before : FeedState
  before = record { flows = flows; programs = programs; messages = messages }

  abbrev by_rule : Option Refusal → MessageAnswer
  by_rule refusal = installed_as refusal before version n program code

  install-free : installed before version n program code ≡ by_rule (rejected code)
  install-free =
      ap (λ b. cond b (installed_at (there programs program) before version n program code) (Some (Refused n ProgramAbove program, version), before)) below
      ∙ ap (λ old. installed_at old before version n program code) free

  pub install-rejected : (refusal : Refusal) (r : Answer) → rejected code ≡ Some refusal → r ≡ Some (Refused n NotAccepted refusal.1, version)
      → ◌≡◌ {A = MessageAnswer} (r, before) (installed before version n program code)
  install-rejected refusal r is answer = ap (λ r. (r, before)) answer ∙ sym (install-free ∙ ap by_rule is)

  pub install-kept : (programs' : List (Option Code)) → rejected code ≡ None → programs' ≡ slice_set programs program (Some code)
      → ◌≡◌ {A = MessageAnswer} (None, record { flows = flows; programs = programs'; messages = messages }) (installed before version n program code)
  install-kept programs' is e = ap (λ ps. (None, record { flows = flows; programs = ps; messages = messages })) e ∙ sym (install-free ∙ ap by_rule is)
