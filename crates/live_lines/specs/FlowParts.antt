-- A flow's part of a live text after the flow's first line.
use Rattle.std.specs.Prelude.{ℕ, List}
use Rattle.ccp_base.specs.Text.{◌⧺◌}
use Rattle.ccp_base.specs.declared.place.Place.{Place}
use Rattle.flow_core.specs.LiveText.{Account, Sources, account_end_line, epoch_lines, fault_lines, ticket_lines}
use Rattle.flow_core.specs.World.{Failure}
use Rattle.live_lines.specs.declared.parts.FlowPart.{FlowPart}

-- an account's lines from its epochs on, which are all after its flow's first line
abbrev pub body_text : Sources → Account → List ℕ
body_text sources account =
    epoch_lines 0 account.epochs
    ⧺ fault_lines account.faults
    ⧺ ticket_lines sources 0 account.tickets
    ⧺ account_end_line sources account

-- the account of a part with these faults
abbrev pub account_with : FlowPart → List (Failure Place) → Account
account_with part faults = record {
  epochs = part.epochs.now;
  faults = faults;
  tickets = part.tickets.now;
  held = part.held;
  program = part.program;
  end = part.end.now;
}
