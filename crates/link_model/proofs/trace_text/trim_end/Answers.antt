use Rattle.std.proofs.Common.{◌∙◌}
use Rattle.link_model.proofs.TraceTextLemmas.{without_last_blanks-blank, without_last_blanks-other}
use Rattle.link_model.proofs.trace_text.trim_end.Goals as goal

pub returns-then-not-is : goal.returns-then-not-is
returns-then-not-is c = without_last_blanks-other _ c.in-Some.before.now c.in-Some.last.now c.in-Some.ensures.cases.0 (cc) ∙ c.loop-last.invariant

pub loop-last-preserved : goal.loop-last-preserved
loop-last-preserved c = without_last_blanks-blank _ c.in-Some.before.now c.in-Some.last.now c.in-Some.ensures.cases.0 (cc) ∙ c.loop-last.invariant
