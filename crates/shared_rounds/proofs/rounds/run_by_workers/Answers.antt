use mir.Syntax.{of_param}
use denote.Exit.{unseen}
use denote.Param.Send.{Quiet-if}
use Rattle.shared_rounds.proofs.rounds.run_by_workers.Goals as goal

-- the closure requires what the function requires, and what may be sent to and shared with a thread
pub scoped-requires : goal.scoped-requires
scoped-requires g c =
    let b = c.type_bounds in
    record {
      at = λ a. (
        c.requires.begins,
        (
          record { owned = b.send-C.owned; leaving = λ k. Quiet-if (k (of_param 0)) unseen unseen (λ x w. tt) (λ x w. tt) },
          record { owned = b.send-F.owned; leaving = λ k. Quiet-if (k (of_param 1)) unseen unseen (λ x w. tt) (λ x w. tt) },
          record { shared = b.sync-C.shared },
          record { shared = b.sync-R.shared },
          record { shared = b.sync-G.shared },
        ),
      );
    }
