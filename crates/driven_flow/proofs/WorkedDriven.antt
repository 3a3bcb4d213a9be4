-- The text of one driven flow, worked out: it reports twice, and is answered without values and with a window.
use Rattle.std.specs.Prelude.{◌≡◌, refl, Some, None, true, false, [], ◌∷◌, codes, decimal}
use Rattle.ccp_base.specs.declared.exchange.Reply.TheVariants.{Nothing}
use Rattle.ccp_base.specs.declared.exchange.Report.{Report}
use Rattle.ccp_base.specs.declared.exchange.Told.TheVariants as told
use Rattle.ccp_base.specs.declared.fields.FieldReg.TheVariants.{Cwnd, Rate, Control}
use Rattle.ccp_base.specs.Text.{◌⧺◌}
use Rattle.flow_core.specs.LiveText.{Account, Sources}
use Rattle.live_lines.specs.FlowLabels.{labelled_line, own}
use Rattle.driven_flow.specs.declared.case.DrivenCase.{DrivenCase}
use Rattle.driven_flow.specs.Driven.{Given}
use Rattle.driven_flow.specs.DrivenText.{driven_account_text, given_text}

abbrev acked_only : Sources
acked_only = (
  3,
  record {
    fields = record { name = codes "acked"; volatile = true; truth = false; start = 0 } ∷ [];
    controls = [];
    blocks = [];
  },
) ∷ []

abbrev first : Report
first = record {
  flow = 0;
  program = 3;
  epoch = 0;
  first = 0;
  end = 2;
  now = 40000;
  cwnd = 6000;
  rate = 0;
  fields = 3000 ∷ [];
}

abbrev second : Report
second = record first { first = 2; end = 4; now = 60000 }

abbrev account : Account
account = record {
  epochs = record { program = 3; at = 0; cwnd = 6000 } ∷ [];
  faults = [];
  tickets =
      record { told = told.Report first; taken = 2; answered = 2; reply = Nothing }
      ∷ record { told = told.Report second; taken = 4; answered = 4; reply = Nothing }
      ∷ [];
  held = 0;
  program = 3;
  end = record { acks = 5; first = 4; stopped = false; cwnd = 9000; rate = 0; fields = 1500 ∷ [] };
}

abbrev nothing : Given
nothing = record { program = None; values = [] }

abbrev window : Given
window = record { program = None; values = (Cwnd, 9000) ∷ [] }

first-line : labelled_line 0 (codes "a") own ≡ (codes "flow " ⧺ decimal 0 ⧺ codes " case=a") ⧺ codes " agent=own\n"
first-line = refl

-- the lines after it, each number as its digits
other-lines : (case : DrivenCase) → driven_account_text acked_only case account (nothing ∷ window ∷ [])
    ≡ labelled_line case.flow case.name own
    ⧺ ((codes "epoch " ⧺ decimal 0 ⧺ codes " program=" ⧺ decimal 3 ⧺ codes " at=" ⧺ decimal 0 ⧺ codes " cwnd=" ⧺ decimal 6000 ⧺ codes "\n") ⧺ [])
    ⧺ ((codes "ticket " ⧺ decimal 0 ⧺ codes " "
    ⧺ ((codes "report program=" ⧺ decimal 3 ⧺ codes " epoch=" ⧺ decimal 0 ⧺ codes " span=" ⧺ decimal 0 ⧺ codes ".." ⧺ decimal 2)
    ⧺ (codes " taken=" ⧺ decimal 2 ⧺ codes " answered=" ⧺ decimal 2 ⧺ codes " reply=none")
    ⧺ (codes " now=" ⧺ decimal 40000 ⧺ (codes " cwnd=" ⧺ decimal 6000 ⧺ codes " rate=" ⧺ decimal 0)
    ⧺ (codes " acked=" ⧺ decimal 3000 ⧺ []) ⧺ codes "\n")))
    ⧺ (codes "ticket " ⧺ decimal 1 ⧺ codes " "
    ⧺ ((codes "report program=" ⧺ decimal 3 ⧺ codes " epoch=" ⧺ decimal 0 ⧺ codes " span=" ⧺ decimal 2 ⧺ codes ".." ⧺ decimal 4)
    ⧺ (codes " taken=" ⧺ decimal 4 ⧺ codes " answered=" ⧺ decimal 4 ⧺ codes " reply=update:cwnd=" ⧺ decimal 9000 ⧺ [])
    ⧺ (codes " now=" ⧺ decimal 60000 ⧺ (codes " cwnd=" ⧺ decimal 6000 ⧺ codes " rate=" ⧺ decimal 0)
    ⧺ (codes " acked=" ⧺ decimal 3000 ⧺ []) ⧺ codes "\n")))
    ⧺ [])
    ⧺ (codes "end acks=" ⧺ decimal 5 ⧺ codes " reports=" ⧺ decimal 2)
    ⧺ codes " held=" ⧺ decimal 0 ⧺ codes " faults=" ⧺ decimal 0
    ⧺ (codes " tail=" ⧺ decimal 4 ⧺ codes ".." ⧺ decimal 5)
    ⧺ codes " stopped=no" ⧺ (codes " cwnd=" ⧺ decimal 9000 ⧺ codes " rate=" ⧺ decimal 0)
    ⧺ (codes " acked=" ⧺ decimal 1500 ⧺ []) ⧺ codes "\n"
other-lines case = refl

change-told : given_text (record { program = Some 3; values = (Cwnd, 6000) ∷ (Rate, 0) ∷ (Control 0, 2) ∷ [] })
    ≡ codes "change:" ⧺ decimal 3 ⧺ codes ":"
    ⧺ (codes "cwnd=" ⧺ decimal 6000) ⧺ codes "," ⧺ (codes "rate=" ⧺ decimal 0)
    ⧺ codes "," ⧺ (codes "control" ⧺ decimal 0 ⧺ codes "=" ⧺ decimal 2) ⧺ []
change-told = refl

change-alone : given_text (record { program = Some 3; values = [] }) ≡ codes "change:" ⧺ decimal 3 ⧺ codes ":"
change-alone = refl
