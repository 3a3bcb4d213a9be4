use Rattle.std.proofs.Common.{ℕ, List, subst, sym}
use Rattle.std.specs.List.Sorted.{IsStrictlyIncreasing}
use Rattle.link_model.proofs.link_case.LinkCase.copy.Goals as goal

pub invariant_of-result : goal.invariant_of-result
invariant_of-result c =
    let case = c.args.self.now in
    record {
      mss_within = case.mss_within;
      queue_within = case.queue_within;
      delay_within = case.delay_within;
      timeout_within = case.timeout_within;
      losses_rise = subst (λ (xs : List ℕ). IsStrictlyIncreasing xs) (sym c.in_ok-losses.ensures) case.losses_rise;
      mark_within = case.mark_within;
    }
