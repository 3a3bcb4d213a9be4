use Rattle.std.proofs.Common.{rules}
use Rattle.std.proofs.Crossing.{crosses}
use Rattle.std.proofs.sync.Mutex.TheSendSync as mutex
use denote.Param.Send.{IsSync, sendable}
use Rattle.live_install.proofs.SendLemmas.{flow-send}
use Rattle.live_install.proofs.installer_threads.begin.Goals as goal

pub spawn_with-started-requires-send-F : goal.spawn_with-started-requires-send-F
spawn_with-started-requires-send-F g c κs within =
    let s : IsSync g.row.R = search rules in
    let t : IsSync g.row.G = search rules in
    search (flow-send, mutex.the_sync, crosses, sendable) depth 60 fits 20000
