-- The first line of a flow, with any word in its agent's place.
use Rattle.std.specs.Prelude.{ℕ, List, codes}
use Rattle.ccp_base.specs.Text.{◌⧺◌}
use Rattle.report_lines.specs.FlowLine.{flow_head}

-- the word for an agent outside
abbrev pub own : List ℕ
own = codes "own"

-- the first line of a flow, with this word in its agent's place
abbrev pub labelled_line : ℕ → List ℕ → List ℕ → List ℕ
labelled_line flow name label = flow_head flow name ⧺ codes " agent=" ⧺ label ⧺ codes "\n"
