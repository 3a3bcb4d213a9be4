use Rattle.std.proofs.Common.{◌≡◌, map, length}
use Rattle.worker_desk.specs.Works.{duty_of, duties}
use Rattle.live_install.specs.Crews.{install_duty}
use Rattle.live_install.proofs.installer_threads.begin_all.Given as goal

abbrev pub invariant-loop-agent : goal.invariant-loop-agent
invariant-loop-agent g l =
    map duty_of l.works.items ≡ duties (install_duty l.workers.datapaths.count l.workers.agents.count (length l.table)) l.agent
