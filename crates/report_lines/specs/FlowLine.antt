-- How the first line of a flow begins: its number and the name of its case.
use Rattle.std.specs.Prelude.{ℕ, List, codes, decimal}
use Rattle.ccp_base.specs.Text.{◌⧺◌}

abbrev pub flow_head : ℕ → List ℕ → List ℕ
flow_head flow name = codes "flow " ⧺ decimal flow ⧺ codes " case=" ⧺ name
