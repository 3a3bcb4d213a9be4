use Rattle.std.proofs.Common.{arith, sym, ap, ◌≡◌, ◌∙◌, ◌+◌, ◌<◌, List, ◌∷◌, [], ◌++◌, Some, None, map, length, length-append}
use Rattle.campaign_gate.specs.Shares.{front_of}
use Rattle.campaign_gate.proofs.ShareLemmas.{merged-fewer, merged-goes-on, merged-ends}
use Rattle.campaign_gate.proofs.workers.merge.Goals as goal

pub loop-made-smaller : goal.loop-made-smaller
loop-made-smaller g c =
    let all = map g.M.CaseResult.of_case g.C.Campaign.cases in
    let l = c.loop-made in
    let one = c.in-Some.one in
    let front : Some one ≡ front_of l.queues = sym c.in-Some.is ∙ c.in_ok-one.ensures.item in
    let fewer : length l.made < length all = merged-fewer c.args.workers.count all l.queues l.made one c.args.workers.some l.invariant front in
    let put : c.push.new.self ≡ l.made ++ one ∷ [] = c.in_ok-push.ensures.ok in
    let count : length c.push.new.self ≡ length l.made + 1 = ap (λ (xs : List _). length xs) put ∙ length-append l.made (one ∷ []) in
    omega (arith, fewer, count)

pub loop-made-preserved : goal.loop-made-preserved
loop-made-preserved g c =
    let all = map g.M.CaseResult.of_case g.C.Campaign.cases in
    let l = c.loop-made in
    let one = c.in-Some.one in
    let front : Some one ≡ front_of l.queues = sym c.in-Some.is ∙ c.in_ok-one.ensures.item in
    merged-goes-on c.args.workers.count all l.queues c.take_front.new.queues l.made c.push.new.self one c.args.workers.some l.invariant front
    c.in_ok-one.ensures.rest c.in_ok-push.ensures.ok

pub returns : goal.returns
returns g c =
    let all = map g.M.CaseResult.of_case g.C.Campaign.cases in
    let l = c.loop-made in
    let front : None ≡ front_of l.queues = sym c.in_default.is ∙ c.in_ok-one.ensures.item in
    merged-ends c.args.workers.count all l.queues l.made c.args.workers.some l.invariant front
