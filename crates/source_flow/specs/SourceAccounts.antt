-- The account of a flow's word, read over the sources of programs, and what is made of it.
use Rattle.std.specs.Prelude.{◌≡◌, ℕ, ◌&&◌, Option, Some, None, option_map, if◌then◌else◌, List, map}
use Rattle.ccp_base.specs.declared.place.Place.{Place}
use Rattle.link_model.specs.declared.link_case.LinkCase.{LinkCase}
use Rattle.reg_compiler.specs.declared.built.Built.{Built}
use Rattle.flow_core.specs.declared.case.Case.{Case}
use Rattle.flow_core.specs.declared.letter.Letter.{Letter}
use Rattle.flow_core.specs.Readings.{Flow}
use Rattle.flow_core.specs.World.{Failure}
use Rattle.flow_core.specs.Words.{world, legal, is_complete}
use Rattle.flow_core.specs.LiveText.{Account, account_of, flow_from, sources_of}
use Rattle.source_flow.specs.declared.flow_account.SourceFault.{SourceFault}
use Rattle.source_flow.specs.declared.flow_account.FlowAccount.{FlowAccount}

-- the flow of a case, read over the sources of these programs
abbrev pub flow_by : List (ℕ × Built) → Case → Flow Place
flow_by programs case = flow_from (sources_of programs) case

-- the account of a word that is legal and complete; none of another word
abbrev pub account_after : Flow Place → LinkCase → List Letter → Option Account
account_after flow link word =
    if legal flow link word && is_complete flow (world flow link word)
    then Some (account_of flow (world flow link word)) else None

-- ---- what an account says

abbrev pub failure_of : SourceFault → Failure Place
failure_of fault = record {
  program = fault.program;
  epoch = fault.epoch;
  at = fault.at;
  kind = fault.kind;
  site = fault.place;
  now = fault.time;
  cwnd = fault.cwnd;
}

abbrev pub account_in : FlowAccount → Account
account_in account = record {
  epochs = account.epochs;
  faults = map failure_of account.faults;
  tickets = account.tickets;
  held = account.held;
  program = account.program;
  end = account.end;
}

-- this is found after a word: its account, or nothing if the word isn't legal or isn't complete
abbrev pub IsAccountAfter : Flow Place → LinkCase → List Letter → Option FlowAccount → Type 0
IsAccountAfter flow link word found = option_map account_in found ≡ account_after flow link word
