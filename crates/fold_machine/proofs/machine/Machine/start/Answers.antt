use Rattle.std.proofs.Common.{◌≡◌, ◌∙◌, length, ap, refl}
use Rattle.reg_code.specs.declared.rule.Sizes.{Sizes}
use Rattle.reg_code.specs.AcceptedCode.{sizes_of}
use Rattle.fold_machine.proofs.MachineLemmas.{Fits-sizes}
use Rattle.fold_machine.proofs.machine.Machine.start.Goals as goal

pub returns-clause-fits : goal.returns-clause-fits
returns-clause-fits c =
    let inside = c.self.inside in
    let sizes : Sizes = record { reports = length c.reports.result.now; controls = length c.controls-2.result.now } in
    let code = c.code-code.result.now in
    let reports : length c.reports.result.now ≡ length code.reports = ap length c.reports.ensures in
    let controls : length c.controls-2.result.now ≡ length code.controls = ap length c.controls-2.ensures in
    let counted : sizes ≡ sizes_of code = λ i. record { reports = reports i; controls = controls i } in
    let same : sizes ≡ sizes_of c.args.code.now.code = counted ∙ ap sizes_of c.code-code.ensures.code in
    Fits-sizes c.args.code.now.code c.write_values.new.store sizes inside.reported _ _ 0 refl same
