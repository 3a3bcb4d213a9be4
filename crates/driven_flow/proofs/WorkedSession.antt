-- A short session, worked out: what is refused, and two flows without acknowledgements, which end with their first change.
use Rattle.std.proofs.Common.{◌≡◌, ℕ, [], ◌∷◌, Some, None, refl, arith, lit≤}
use Rattle.std.specs.Option.{ForSome}
use Rattle.std.specs.List.Sorted.{IsStrictlyIncreasing}
use Rattle.ccp_base.specs.declared.fields.FieldReg.TheVariants.{Cwnd}
use Rattle.link_model.specs.declared.link_case.LinkCase.{LinkCase}
use Rattle.reply_frames.specs.declared.outline.Version.TheVariants.{One, Two}
use Rattle.ccp_messages.specs.declared.message.Message.TheVariants.{Create, Update, Change, Refused}
use Rattle.ccp_messages.specs.declared.reason.Reason.TheVariants.{NoFlow, ProgramAbove, NoProgram}
use Rattle.reg_code.specs.declared.code.Code.{Code}
use Rattle.driven_flow.specs.declared.case.DrivenCase.{DrivenCase}
use Rattle.driven_flow.specs.Session.{SessionState, opening, first_frame, hear, begun}

none : (P : ℕ → Type 0) → ForSome None P
none P x is = absurd (let h : None ≡ Some x = is in (cc))

no_losses : IsStrictlyIncreasing []
no_losses k within = absurd (omega arith)

abbrev link : LinkCase
link = record {
  trace = 10 ∷ [];
  mss = 1500;
  queue = 10;
  delay_us = 20000;
  timeout_us = 1000000;
  losses = [];
  mark = None;
  mss_within = (lit≤ tt, lit≤ tt);
  queue_within = (lit≤ tt, lit≤ tt);
  delay_within = lit≤ tt;
  timeout_within = (lit≤ tt, lit≤ tt);
  losses_rise = no_losses;
  mark_within = none _;
}

abbrev case_of : ℕ → DrivenCase
case_of flow = record {
  flow = flow;
  name = [];
  link = link;
  acks = 0;
  slots = 1;
  lag = 0;
  acks_within = lit≤ tt;
  slots_within = (lit≤ tt, lit≤ tt);
  lag_within = lit≤ tt;
}

module _ (code : Code) where
  -- program 3 and two flows
  abbrev first : SessionState
  first = opening ((3, code) ∷ []) (case_of 0 ∷ case_of 1 ∷ [])

  created : first_frame first ≡ Some (Create 0 1500 4500, One)
  created = refl

  before-change : hear first (Update 0 []) Two ≡ (Some (Refused 0 NoProgram 0, Two), first)
  before-change = refl

  other-program : hear first (Change 0 7 []) One ≡ (Some (Refused 0 NoProgram 7, One), first)
  other-program = refl

  program-above : hear first (Change 0 16 []) One ≡ (Some (Refused 0 ProgramAbove 16, One), first)
  program-above = refl

  other-flow : hear first (Change 1 16 []) One ≡ (Some (Refused 1 NoFlow 0, One), first)
  other-flow = refl

  abbrev second : SessionState
  second = record {
    programs = (3, code) ∷ [];
    ended = begun ((3, code) ∷ []) (case_of 0) (record { program = Some 3; values = (Cwnd, 6000) ∷ [] }) ∷ [];
    flow = None;
    left = case_of 1 ∷ [];
  }

  accepted : hear first (Change 0 3 ((Cwnd, 6000) ∷ [])) One ≡ (Some (Create 1 1500 4500, One), second)
  accepted = refl

  last : (hear second (Change 1 3 []) One).0 ≡ None
  last = refl

  after-end : (hear (hear second (Change 1 3 []) One).1 (Update 1 []) Two).0 ≡ Some (Refused 1 NoFlow 0, Two)
  after-end = refl
