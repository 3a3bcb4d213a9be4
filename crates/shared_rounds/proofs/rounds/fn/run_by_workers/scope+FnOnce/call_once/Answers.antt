use Rattle.shared_rounds.proofs.rounds.fn.run_by_workers.scope+FnOnce.call_once.Goals as goal

-- what the closure requires, and beside it what may be sent to and shared with a thread
pub scope-requires : goal.scope-requires
scope-requires g c =
    let r = c.requires.1.1.1.1 in
    let threads = r.1 in (threads.0, (threads.1, (threads.2, (threads.3, (threads.4, r.0)))))
