-- Labels of agents outside: only how many there are matters.
use Rattle.std.proofs.Common.{◌≡◌, List, [], ◌∷◌, length, map, refl, arith}
use Rattle.live_lines.specs.declared.labels.Own.{Own}
use Rattle.live_lines.specs.FlowLabels.{own}

pub owns-alike : {X : Type 0} (owns : List Own) (rows : List X) → length owns ≡ length rows → map (λ (o : Own). own) owns ≡ map (λ (row : X). own) rows
owns-alike [] [] same = refl
owns-alike (o ∷ owns) (row ∷ rows) same =
    let fewer : length owns ≡ length rows = omega (arith, same) in
    λ i. own ∷ owns-alike owns rows fewer i
owns-alike [] (row ∷ rows) same = cc
owns-alike (o ∷ owns) [] same = cc
