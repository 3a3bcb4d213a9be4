use Rattle.std.proofs.Common.{ap}
use Rattle.reg_code.specs.declared.checked.Checked.{Checked}
use Rattle.reg_code.specs.declared.code.Code.{Code}
use Rattle.reg_code.specs.contracts.checked.Checked.{the_type}
use Rattle.flow_core.proofs.case.same_checked.Goals as goal

pub returns : goal.returns
returns c = (
  λ yes. the_type.to_one c.args.this.now c.args.other.now (ap (λ (k : Code). (k, tt {0})) (c.same_code.ensures.0 yes)),
  λ same. c.same_code.ensures.1 (ap (λ (k : Checked). k.code) same),
)
