-- The text of one flow, worked out: a Reno flow that reports its four acknowledgements in one report.
use Rattle.std.specs.Prelude.{◌≡◌, ℕ, refl, true, false, List, [], ◌∷◌, codes, decimal}
use Rattle.ccp_base.specs.declared.exchange.Reply.TheVariants.{Nothing, Change}
use Rattle.ccp_base.specs.declared.exchange.Report.{Report}
use Rattle.ccp_base.specs.declared.exchange.Told.TheVariants as told
use Rattle.portus_core.specs.declared.program.Decl.{Decl}
use Rattle.ccp_base.specs.Text.{◌⧺◌}
use Rattle.reno_agent.specs.Reno.{RenoState}
use Rattle.agent_core.specs.declared.agent.Agent.TheVariants.{Reno}
use Rattle.flow_core.specs.declared.case.Case.{Case}
use Rattle.flow_core.specs.LiveText.{Sources, Account, flow_line, account_text, reply_text}

abbrev field : List ℕ → Decl
field name = record { name = name; volatile = true; truth = false; start = 0 }

abbrev slow_start : Sources
slow_start = (
  0,
  record {
    fields =
        field (codes "acked") ∷ field (codes "sacked") ∷ field (codes "loss") ∷ field (codes "timeout")
        ∷ field (codes "rtt") ∷ field (codes "inflight") ∷ field (codes "ecn") ∷ [];
    controls = [];
    blocks = [];
  },
) ∷ []

abbrev reported : Report
reported = record {
  flow = 0;
  program = 0;
  epoch = 0;
  first = 0;
  end = 4;
  now = 60000;
  cwnd = 10136;
  rate = 0;
  fields = 5792 ∷ 0 ∷ 0 ∷ 0 ∷ 30000 ∷ 7240 ∷ 0 ∷ [];
}

abbrev account : Account
account = record {
  epochs = record { program = 0; at = 0; cwnd = 4344 } ∷ [];
  faults = [];
  tickets = record { told = told.Report reported; taken = 4; answered = 4; reply = Nothing } ∷ [];
  held = 0;
  program = 0;
  end = record {
    acks = 4;
    first = 4;
    stopped = false;
    cwnd = 10136;
    rate = 0;
    fields = 0 ∷ 0 ∷ 0 ∷ 0 ∷ 30000 ∷ 7240 ∷ 0 ∷ [];
  };
}

first-line : (state : RenoState)
    → flow_line 0 (codes "a") (Reno state) ≡ (codes "flow " ⧺ decimal 0 ⧺ codes " case=a") ⧺ codes " agent=reno\n"
first-line state = refl

-- the lines after it, each number as its digits
other-lines : (case : Case) → account_text slow_start case account
    ≡ flow_line case.flow case.name case.agent
    ⧺ ((codes "epoch " ⧺ decimal 0 ⧺ codes " program=" ⧺ decimal 0 ⧺ codes " at=" ⧺ decimal 0 ⧺ codes " cwnd=" ⧺ decimal 4344 ⧺ codes "\n") ⧺ [])
    ⧺ ((codes "ticket " ⧺ decimal 0 ⧺ codes " "
    ⧺ ((codes "report program=" ⧺ decimal 0 ⧺ codes " epoch=" ⧺ decimal 0 ⧺ codes " span=" ⧺ decimal 0 ⧺ codes ".." ⧺ decimal 4)
    ⧺ (codes " taken=" ⧺ decimal 4 ⧺ codes " answered=" ⧺ decimal 4 ⧺ codes " reply=none")
    ⧺ (codes " now=" ⧺ decimal 60000 ⧺ (codes " cwnd=" ⧺ decimal 10136 ⧺ codes " rate=" ⧺ decimal 0)
    ⧺ (codes " acked=" ⧺ decimal 5792 ⧺ codes " sacked=" ⧺ decimal 0 ⧺ codes " loss=" ⧺ decimal 0 ⧺ codes " timeout=" ⧺ decimal 0
    ⧺ codes " rtt=" ⧺ decimal 30000 ⧺ codes " inflight=" ⧺ decimal 7240 ⧺ codes " ecn=" ⧺ decimal 0 ⧺ [])
    ⧺ codes "\n")))
    ⧺ [])
    ⧺ (codes "end acks=" ⧺ decimal 4 ⧺ codes " reports=" ⧺ decimal 1)
    ⧺ codes " held=" ⧺ decimal 0 ⧺ codes " faults=" ⧺ decimal 0
    ⧺ (codes " tail=" ⧺ decimal 4 ⧺ codes ".." ⧺ decimal 4)
    ⧺ codes " stopped=no" ⧺ (codes " cwnd=" ⧺ decimal 10136 ⧺ codes " rate=" ⧺ decimal 0)
    ⧺ (codes " acked=" ⧺ decimal 0 ⧺ codes " sacked=" ⧺ decimal 0 ⧺ codes " loss=" ⧺ decimal 0 ⧺ codes " timeout=" ⧺ decimal 0
    ⧺ codes " rtt=" ⧺ decimal 30000 ⧺ codes " inflight=" ⧺ decimal 7240 ⧺ codes " ecn=" ⧺ decimal 0 ⧺ [])
    ⧺ codes "\n"
other-lines case = refl

change-told : reply_text (Change 3 2896 1448) ≡ codes "change:" ⧺ decimal 3 ⧺ codes ":" ⧺ decimal 2896 ⧺ codes ":" ⧺ decimal 1448
change-told = refl
