use Rattle.std.proofs.Common.{sym, subst, ◌≡◌, ◌∙◌, Option, Result, IfSome, IfOk, map, length}
use Rattle.ccp_base.specs.declared.outside.NoMemory.{NoMemory}
use Rattle.worker_desk.specs.EveryNth.{every}
use Rattle.campaign_gate.proofs.ShareLemmas.{queues-go-on, parts-go-on}
use Rattle.campaign_gate.proofs.workers.queues_of.Goals as goal

pub loop-part-preserved : goal.loop-part-preserved
loop-part-preserved g c =
    let all = map g.M.CaseResult.of_case g.C.Campaign.cases in
    let l = c.loop-part in
    let workers = c.args.workers in
    let count = length l.queues in
    let share = c.in_ok-share.share in
    let put = c.in_ok-put.ensures in
    let parts = parts-go-on c.args.parts l.parts c.take.new.self l.queues c.put.new.self c.in-Some.part share.made l.invariant.1 (sym c.in-Some.is ∙ c.take.ensures.item) c.take.ensures.rest put in
    let told : (share.run.worker ≡ count) × (share.run.workers ≡ workers.count) =
    subst (λ (p : Result _ NoMemory). IfOk p (λ s. (s.run.worker ≡ count) × (s.run.workers ≡ workers.count))) c.in_ok-share.was
    (subst (λ (o : Option _). IfSome o (λ p. IfOk p (λ s. (s.run.worker ≡ count) × (s.run.workers ≡ workers.count)))) parts.0 (c.requires.each count)) in
    let made = share.is_share ∙ (λ i. every (told.1 i) (told.0 i) all) in (
      queues-go-on workers.count all l.queues c.put.new.self share.made l.invariant.0 made put,
      parts.1,
      parts.2 ∙ l.invariant.2,
    )
