-- What an agent's reply writes names control variables that the program has.
use Rattle.std.specs.Prelude.{◌≡◌, ℕ, ◌==◌, Bool, true, false, if◌then◌else◌, None, length}
use Rattle.std.proofs.Common.{ap, ◌∙◌}
use Rattle.ccp_base.specs.FieldReg.{first_bad_pair}
use Rattle.ccp_base.specs.declared.exchange.Reply.{Reply}
use Rattle.ccp_base.specs.declared.exchange.Reply.TheVariants.{Nothing, Update, Change}
use Rattle.portus_core.specs.ProgramForm.{form_of}
use Rattle.agent_core.specs.declared.agent.Agent.{Agent}
use Rattle.agent_core.specs.Agents.{opening_change, course_of, values_of}
use Rattle.agent_core.specs.RoleLaws.{AreRoles}
use Rattle.flow_core.proofs.ValueLemmas.{good-values}
use Rattle.flow_core.specs.Readings.{code_at}
use Rattle.source_flow.specs.declared.source_case.SourceCase.{SourceCase}
use Rattle.source_flow.specs.SourceStates.{form_at, AreMatched}
use Rattle.source_flow.specs.SourceSteps.{AreGood}

-- ---- the agents' values

-- the program with a number declares as many control variables as the code with that number has
controls-by : (source : SourceCase) (test : Bool) → AreMatched source
    → length (if test then form_of source.ss.now else form_of source.ca.now).controls
    ≡ length (if test then source.case.now.ss.code.code else source.case.now.ca.code.code).controls
controls-by source true matched = matched.ss_controls
controls-by source false matched = matched.ca_controls

pub controls-at : (source : SourceCase) (number : ℕ) → AreMatched source
    → length (form_at source number).controls ≡ length (code_at source.case.now number).controls
controls-at source number matched = controls-by source (number == source.case.now.ss.role.number) matched

pub good-reply : (source : SourceCase) (agent : Agent) (reply : Reply) → AreMatched source
    → AreRoles source.case.now.ss.role source.case.now.ca.role (course_of agent) → AreGood source agent reply
good-reply source agent Nothing matched roles = tt
good-reply source agent (Update cwnd) matched roles = tt
good-reply source agent (Change program cwnd cap_value) matched roles =
    ap (λ (n : ℕ). first_bad_pair n (values_of agent (Change program cwnd cap_value))) (controls-at source program matched)
    ∙ good-values source.case.now agent roles program (Change program cwnd cap_value)

pub good-opening : (source : SourceCase) → AreMatched source
    → first_bad_pair (length (form_at source (course_of source.case.now.agent).ss.number).controls) (values_of source.case.now.agent (opening_change source.case.now.agent)) ≡ None
good-opening source matched =
    let case = source.case.now in
    good-reply source case.agent (opening_change case.agent) matched (record { ss_same = case.ss_role; ca_same = case.ca_role })
