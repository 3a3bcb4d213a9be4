use Rattle.std.proofs.Common.{ap, arith}
use Rattle.flow_core.specs.Readings.{code_at}
use Rattle.flow_core.specs.Summaries.{summary_with}
use Rattle.flow_core.proofs.RunningLemmas.{issued-same}
use Rattle.flow_core.proofs.BareLemmas.{is-stepped}
use Rattle.flow_core.proofs.bare.BareParts.issue.Goals as goal

pub returns-clause-parts : goal.returns-clause-parts
returns-clause-parts c =
    let s = c.args.self.now in
    let parts = c.requires.parts in
    let same = issued-same s.running c.issue.new.self c.issue.ensures.step in
    let acks = same.1 in
    let few = parts.acks in
    is-stepped s parts c.issue.new.self c.issue.ensures.running same.0 (c.issue.ensures.fits (code_at s.case s.running.epoch.program) parts.runs.fits)
    c.issue.ensures.size (omega (arith, acks, few))

pub returns-clause-step : goal.returns-clause-step
returns-clause-step c = ap (summary_with c.args.self.now.agent) c.issue.ensures.step
