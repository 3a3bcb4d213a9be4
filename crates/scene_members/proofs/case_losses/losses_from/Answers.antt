use Rattle.std.proofs.Common.{rules, ◌≡◌, ◌<◌, [], ◌∷◌, ◌++◌, sym, subst}
use Rattle.std.specs.Option.{ForSome}
use Rattle.std.specs.List.Sorted.{IsStrictlyIncreasing}
use Rattle.scene_members.specs.CaseWalk.{last_of}
use Rattle.scene_members.proofs.LossLemmas.{rising_pushed}
use Rattle.scene_members.proofs.case_losses.losses_from.Goals as goal

pub loop-value-preserved : goal.loop-value-preserved
loop-value-preserved c =
    let l = c.loop-value in
    let number = c.in_ok-number.number in
    let pushed : c.push.new.self ≡ l.losses ++ number ∷ [] = search rules in
    let above : ForSome (last_of l.losses) (λ b. b < number) = search rules in (
      search rules,
      subst (λ losses. IsStrictlyIncreasing losses) (sym pushed) (rising_pushed l.losses number l.invariant.1 above),
    )
