use Rattle.std.proofs.Common.{◌⊎◌, List, subst}
use Rattle.program_bounds.specs.declared.premises.Item.{Item}
use Rattle.program_bounds.specs.Premises.{IsAllowed}
use Rattle.program_bounds.specs.Turns.{IsWritten}
use Rattle.program_bounds.proofs.UpdateLemmas.{update_step, widens_then}
use Rattle.program_bounds.proofs.updates.update.Goals as goal

pub loop-item-preserved : goal.loop-item-preserved
loop-item-preserved c = record {
  widens = widens_then c.args.state.now c.loop-item.state c.update_one.new.state c.loop-item.invariant.widens c.update_one.ensures.widens;
  has = λ pair allowed. update_step c.loop-item.state c.update_one.new.state c.in-Some.item.now c.in-Some.rest.now pair c.update_one.ensures.widens c.update_one.ensures.has
      (subst (λ (xs : List Item). IsAllowed xs pair ⊎ IsWritten c.loop-item.state pair.0 pair.1) c.in-Some.ensures.cases.0 (c.loop-item.invariant.has pair allowed));
}
