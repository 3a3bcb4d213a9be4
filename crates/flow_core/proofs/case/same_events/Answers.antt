use Rattle.std.proofs.Common.{◌≡◌, Bool, true, sym, subst, rules}
use lib.Pointwise.{pointwise_decides}
use Rattle.reg_code.specs.contracts.code.EventPartialEq.TheImpl.{eq-value}
use Rattle.reg_code.specs.declared.code.Event.{Event}
use Rattle.flow_core.proofs.case.same_events.Goals as goal

pub returns : goal.returns
returns c =
    subst (λ (r : Bool). (r ≡ true → c.args.these.now ≡ c.args.others.now) × (c.args.these.now ≡ c.args.others.now → r ≡ true)) (sym c.eq.ensures)
    (pointwise_decides {E = (eq-value).it} (λ (a b : Event). search rules) c.args.these.now c.args.others.now)
