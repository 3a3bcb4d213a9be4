use Rattle.std.proofs.Common.{◌≡◌, length, ap, ◌∙◌}
use Rattle.ccp_base.specs.FieldReg.{first_bad_pair}
use Rattle.ccp_base.specs.declared.running_epoch.RunningEpoch.{RunningEpoch}
use Rattle.portus_core.specs.ProgramForm.{form_of}
use Rattle.agent_core.specs.Agents.{opening_change, course_of, values_of}
use Rattle.source_flow.specs.SourceStates.{form_at}
use Rattle.source_flow.proofs.GoodLemmas.{good-opening}
use Rattle.source_flow.proofs.opening.opening_epoch.Goals as goal

pub start_env-requires : goal.start_env-requires
start_env-requires c =
    let source = c.args.source.now in
    let agent = source.case.now.agent in
    let form : form_of c.program.result.now ≡ form_at source (course_of agent).ss.number =
    c.program.ensures
    ∙ ap (λ (epoch : RunningEpoch). form_at source epoch.program) c.opening-epoch.ensures
    ∙ ap (λ course. form_at source course.ss.number) c.course.ensures in
    let values : c.values-values.result ≡ values_of agent (opening_change agent) =
    c.values-values.ensures.values ∙ ap (λ reply. values_of agent reply) c.begin.ensures in
    record { good = (λ i. first_bad_pair (length (form i).controls) (values i)) ∙ good-opening source c.requires }
