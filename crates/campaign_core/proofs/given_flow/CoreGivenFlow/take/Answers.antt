use Rattle.std.proofs.Common.{◌≡◌, true, Err, sym, ◌∙◌, subst}
use Rattle.std.specs.Prelude.{is_none}
use Rattle.flow_core.specs.declared.letter.Letter.TheVariants.{T}
use Rattle.flow_core.specs.Words.{can_take, is_legal}
use Rattle.flow_core.specs.Cores.{CoreState, flow_in, world_in}
use Rattle.campaign_core.proofs.PlanLemmas.{takes-not-still, takes-not-out}
use Rattle.campaign_core.proofs.given_flow.CoreGivenFlow.take.Goals as goal

pub unreachable-requires : goal.unreachable-requires
unreachable-requires c =
    let core = c.args.self.now in
    let w = world_in core in
    let legal : is_legal (flow_in core) w T ≡ true =
    subst (λ (one : CoreState). is_legal (flow_in one) (world_in one) T ≡ true) (sym c.requires.after) c.requires.legal in
    let fault = c.in-Err-NotYet in
    takes-not-still (is_none w.out) (can_take w) legal (c.take.ensures.not_yet.0 (fault.is ∙ (λ i. Err (fault.field-0-is i))))

pub unreachable-requires-in-Err-Out : goal.unreachable-requires-in-Err-Out
unreachable-requires-in-Err-Out c =
    let core = c.args.self.now in
    let w = world_in core in
    let legal : is_legal (flow_in core) w T ≡ true =
    subst (λ (one : CoreState). is_legal (flow_in one) (world_in one) T ≡ true) (sym c.requires.after) c.requires.legal in
    let fault = c.in-Err-Out in
    takes-not-out _ _ w.out (can_take w) fault.field-0-0 legal ((c.take.ensures.out fault.field-0-0).0 (fault.is ∙ (λ i. Err (fault.field-0-is i))))
