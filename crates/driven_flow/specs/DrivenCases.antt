-- The case of a driven flow that a scenario's case says.
use Rattle.flow_core.specs.declared.case.Case.{Case}
use Rattle.driven_flow.specs.declared.case.DrivenCase.{DrivenCase}

-- all that a case says but its agent and its programs, which a driven flow doesn't have
abbrev pub driven_case : Case → DrivenCase
driven_case case = record {
  flow = case.flow;
  name = case.name;
  link = case.link;
  acks = case.acks;
  slots = case.slots;
  lag = case.lag;
  acks_within = case.acks_within;
  slots_within = case.slots_within;
  lag_within = case.lag_within;
}
