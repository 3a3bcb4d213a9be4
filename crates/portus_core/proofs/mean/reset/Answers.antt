use Rattle.std.proofs.Common.{ℕ, ◌+◌, ◌<◌, List, ◌++◌, length, take, drop, arith, ◌∙◌, ap}
use Rattle.portus_core.specs.OneAcknowledgement.{reset}
use Rattle.portus_core.proofs.ResetLemmas.{reset-turned}
use Rattle.portus_core.proofs.mean.reset.Goals as goal

pub loop-i-preserved : goal.loop-i-preserved
loop-i-preserved c =
    let within : c.loop-i.i < length c.loop-i.values = omega arith in
    let next : ℕ = c.loop-i.i + 1 in
    record {
      long = c.reset_at.ensures.long ∙ c.loop-i.invariant.long;
      same =
          ap (λ (values : List ℕ). take next values ++ reset (drop next c.args.decls.now) (drop next values)) c.reset_at.ensures.exact
          ∙ reset-turned c.args.decls.now c.loop-i.values c.loop-i.i c.index-decls-i.result within c.loop-i-test.true c.index-decls-i.is
          ∙ c.loop-i.invariant.same;
    }
