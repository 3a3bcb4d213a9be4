use Rattle.std.proofs.Common.{◌≡◌, sym, subst}
use Rattle.ccp_base.specs.declared.look.Look.{Look}
use Rattle.portus_core.specs.ProgramForm.{form_of}
use Rattle.reg_code.specs.declared.checked.Checked.{Checked}
use Rattle.portus_build.specs.Looks.{look_of}
use Rattle.flow_core.specs.Cases.{KeepsWithin}
use Rattle.scenario_json.proofs.CaseLemmas.{coded_here, looks_within}
use Rattle.scenario_json.proofs.cases.coded_program.Goals as goal

pub returns-clause-coded : goal.returns-clause-coded
returns-clause-coded c =
    coded_here c.args.programs.now c.args.number c.index-programs-number.result c.look.result c.in_ok-copy.field-0
    c.requires c.index-programs-number.is c.look.ensures c.in_ok-copy.ensures

pub returns-clause-within : goal.returns-clause-within
returns-clause-within c =
    let built = c.index-programs-number.result.1 in
    let same : c.in_ok-copy.field-0 ≡ built.code = c.in_ok-copy.ensures in
    let looked : c.look.result ≡ look_of (form_of built.program) = c.look.ensures in
    subst (λ (checked : Checked). KeepsWithin c.look.result checked.code) (sym same)
    (subst (λ (look : Look). KeepsWithin look built.code.code) (sym looked)
    (looks_within (form_of built.program) built.code.code built.places built.simulates))
