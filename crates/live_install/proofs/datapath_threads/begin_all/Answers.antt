use Rattle.std.proofs.Common.{length}
use Rattle.flow_table.specs.Duties.{duty}
use Rattle.live_install.proofs.DutyLemmas.{duties-push}
use Rattle.live_install.proofs.datapath_threads.begin_all.Goals as goal

pub loop-worker-preserved : goal.loop-worker-preserved
loop-worker-preserved g c =
    duties-push (duty c.args.datapaths.count (length c.args.table.now))
    c.loop-worker.worker c.loop-worker.works.items c.push.new.self.items c.begin-work.result
    c.in_ok-push.ensures.items c.loop-worker.invariant c.begin-work.ensures
