-- The duties of workers, one more worker at a time.
use Rattle.std.specs.Prelude.{◌≡◌, ℕ, ◌+◌, List, [], ◌∷◌, ◌++◌, map}
use Rattle.std.proofs.Common.{ap, sym, ◌∙◌, add-one}
use Rattle.std.proofs.lemmas.List.{map-append}
use Rattle.worker_desk.specs.declared.receipt.Duty.{Duty}
use Rattle.worker_desk.specs.declared.work.Work.{Work}
use Rattle.worker_desk.specs.Works.{duty_of, duties}

pub duties-push : {S : Type 0} (duty : ℕ → Duty S) (worker : ℕ) (works more : List (Work S)) (work : Work S)
    → more ≡ works ++ work ∷ [] → map duty_of works ≡ duties duty worker → duty_of work ≡ duty worker
    → map duty_of more ≡ duties duty (worker + 1)
duties-push duty worker works more work longer before own =
    ap (map duty_of) longer ∙ map-append duty_of works (work ∷ [])
    ∙ (λ i. before i ++ own i ∷ []) ∙ ap (duties duty) (sym (add-one worker))
