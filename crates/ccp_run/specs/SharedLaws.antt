-- What the texts of `shared` and `shared-timeline` say of one run. Both end with one line of the link by their
-- definitions, and so does that of `shared-acks`.
use Rattle.std.specs.Prelude.{ℕ, List, [], ◌∷◌, map}
use Rattle.reg_compiler.specs.declared.built.Built.{Built}
use Rattle.reg_compiler.specs.Sources.{Sources, sources_of}
use Rattle.flow_core.specs.declared.case.Case.{Case}
use Rattle.flow_core.specs.Cores.{CoreState}
use Rattle.flow_core.specs.LiveText.{Account, account_of, flow_from}
use Rattle.campaign_core.specs.declared.row.Row.{Row}
use Rattle.shared_link.specs.declared.shared_case.SharedCase.{SharedCase}
use Rattle.campaign_core.specs.FlowRow.{world_of_core}
use Rattle.mode_laws.specs.RowLaws.{TellsRow}
use Rattle.shared_run.specs.SharedHistory.{shared_rows}
use Rattle.ccp_run.specs.SharedSeries.{source_flows}

-- the account whose lines are a flow's part
abbrev pub core_account : Sources → CoreState → Account
core_account sources core = account_of (flow_from sources core.case) (world_of_core (flow_from sources) core)

-- one row for each account, in order, and with its numbers
abbrev pub TellEach : List Account → List Row → Type 0
TellEach [] [] = Unit {0}
TellEach [] (row ∷ rows) = ⊥
TellEach (account ∷ accounts) [] = ⊥
TellEach (account ∷ accounts) (row ∷ rows) = TellsRow account row × TellEach accounts rows

-- the rows of the table of `shared` have the numbers that the lines of the flows' parts in `shared-timeline` show
abbrev pub TellsSharedRows : Type 0
TellsSharedRows =
    (programs : List (ℕ × Built)) (cases : List Case) (link : SharedCase) (rounds : ℕ)
    → TellEach (map (core_account (sources_of programs)) (source_flows programs cases link rounds))
    (shared_rows link (flow_from (sources_of programs)) cases rounds)
