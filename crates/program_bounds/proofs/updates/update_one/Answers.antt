use Rattle.std.proofs.Common.{sym, subst}
use Rattle.ccp_base.specs.declared.fields.FieldReg.{FieldReg}
use Rattle.range_cases.specs.declared.case.Kept.{Kept}
use Rattle.program_bounds.specs.Turns.{IsWritten}
use Rattle.program_bounds.proofs.updates.update_one.Goals as goal

pub returns-then-i-lt64-clause-has : goal.returns-then-i-lt64-clause-has
returns-then-i-lt64-clause-has c value has =
    let state : Kept = record { fields = c.args.state.now.fields; controls = c.widen_at.new.ranges; cwnd = c.args.state.now.cwnd; rate = c.args.state.now.rate } in
    subst (λ (r : FieldReg). IsWritten state r value) (sym c.in-Control.is) (λ few past. c.widen_at.ensures.has past value has)
