-- Laws of the definition of the link.
use Rattle.std.specs.Prelude.{◌≡◌, ℕ, List, [], ◌∷◌, ◌++◌, refl}
use Rattle.std.proofs.Common.{ap}
use Rattle.link_model.specs.declared.link_case.LinkCase.{LinkCase}
use Rattle.link_model.specs.Link.{Run, called, run_from, ack_after, acks_in_order, acks_for_windows}

pub run_from-push : (case : LinkCase) (windows : List ℕ) (window : ℕ) (run : Run)
    → run_from case run (windows ++ window ∷ []) ≡ called case window (run_from case run windows)
run_from-push case [] window run = refl
run_from-push case (first ∷ later) window run = run_from-push case later window (called case first run)

-- one more window gives one more acknowledgement
pub acks_of-push : (case : LinkCase) (windows : List ℕ) (window : ℕ)
    → acks_for_windows case (windows ++ window ∷ [])
    ≡ acks_for_windows case windows ++ ack_after case windows window ∷ []
acks_of-push case windows window =
    ap (λ (run : Run). acks_in_order run.givens)
    (run_from-push case windows window (record { packets = []; givens = [] }))
