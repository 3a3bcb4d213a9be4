-- The text that says why a text is no scenario: a word, and the path, or the name with the refusal of its text.
use Rattle.std.specs.Prelude.{ℕ, List, codes, decimal}
use Rattle.ccp_base.specs.Text.{◌⧺◌}
use Rattle.link_model.specs.declared.trace.TraceFault.{TraceFault}
use Rattle.link_model.specs.declared.trace.TraceFault.TheVariants as trace
use Rattle.portus_build.specs.RefusalText as build
use Rattle.scene_faults.specs.declared.fault.SceneFault.{SceneFault}
use Rattle.scene_faults.specs.declared.fault.SceneFault.TheVariants.{Json, Missing, Wrong, Range, Program, Trace, Totals, NoMemory}

-- why a text is no trace
abbrev pub trace_text : TraceFault → List ℕ
trace_text (trace.BadLine line) = codes "BadLine " ⧺ decimal line
trace_text trace.EmptyTrace = codes "EmptyTrace"
trace_text (trace.NotRising line) = codes "NotRising " ⧺ decimal line
trace_text trace.ZeroPeriod = codes "ZeroPeriod"
trace_text (trace.NoMemory _) = codes "NoMemory"

-- why a text is no scenario
abbrev pub refusal_text : SceneFault → List ℕ
refusal_text Json = codes "json"
refusal_text (Missing path) = codes "missing " ⧺ path
refusal_text (Wrong path) = codes "wrong " ⧺ path
refusal_text (Range path) = codes "range " ⧺ path
refusal_text (Program name fault) = codes "program " ⧺ name ⧺ codes " " ⧺ build.refusal_text fault
refusal_text (Trace name fault) = codes "trace " ⧺ name ⧺ codes " " ⧺ trace_text fault
refusal_text Totals = codes "totals"
refusal_text (NoMemory _) = codes "NoMemory"
