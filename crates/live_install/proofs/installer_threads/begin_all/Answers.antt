use Rattle.std.proofs.Common.{length}
use Rattle.live_install.specs.Crews.{install_duty}
use Rattle.live_install.proofs.DutyLemmas.{duties-push}
use Rattle.live_install.proofs.installer_threads.begin_all.Goals as goal

pub loop-agent-preserved : goal.loop-agent-preserved
loop-agent-preserved g c =
    duties-push (install_duty c.args.workers.datapaths.count c.args.workers.agents.count (length c.args.table.now))
    c.loop-agent.agent c.loop-agent.works.items c.push.new.self.items c.begin-work.result
    c.in_ok-push.ensures.items c.loop-agent.invariant c.begin-work.ensures
