use Rattle.std.proofs.Common.{◌≡◌, [], ◌∷◌, ◌++◌, List, length, map, arith, rules, sym, ap, ◌∙◌}
use Rattle.std.specs.Vec.Iter.{into_iter_items, into_iter_len}
use Rattle.std.proofs.lemmas.List.{nil_from_length}
use Rattle.flow_core.specs.Cores.{CoreState}
use Rattle.campaign_core.specs.declared.tallied_flow.TalliedFlow.{TalliedFlow}
use Rattle.shared_run.proofs.BookLemmas.{done-none, done-one, still-next, done-all}
use Rattle.shared_run.proofs.books.givens_of.Goals as goal

pub loop-flow-init : goal.loop-flow-init
loop-flow-init c =
    let gives : into_iter_items c.into_iter-flow-iterator.result ≡ c.args.flows.items = search rules in
    let counts : into_iter_len c.into_iter-flow-iterator.result ≡ length (into_iter_items c.into_iter-flow-iterator.result) = search rules in (
      done-none (map (λ (shared : TalliedFlow CoreState). shared.flow) c.args.flows.items)
          (map (λ (shared : TalliedFlow CoreState). shared.flow) (into_iter_items c.into_iter-flow-iterator.result)) c.new-givens.result
          (ap (map (λ (shared : TalliedFlow CoreState). shared.flow)) gives) c.new-givens.ensures c.requires,
      counts,
    )

pub finish-requires : goal.finish-requires
finish-requires c =
    let l = c.loop-flow in
    let is : into_iter_items l.flow-iterator ≡ c.in-Some.flow ∷ into_iter_items c.next.new.self = c.in-Some.ensures.steps.0 in
    still-next (map (λ (shared : TalliedFlow CoreState). shared.flow) c.args.flows.items)
    (map (λ (shared : TalliedFlow CoreState). shared.flow) (into_iter_items l.flow-iterator))
    (map (λ (shared : TalliedFlow CoreState). shared.flow) (into_iter_items c.next.new.self)) c.in-Some.flow.flow l.givens l.invariant.0
    (ap (map (λ (shared : TalliedFlow CoreState). shared.flow)) is)

pub loop-flow-preserved : goal.loop-flow-preserved
loop-flow-preserved c =
    let l = c.loop-flow in
    let is : into_iter_items l.flow-iterator ≡ c.in-Some.flow ∷ into_iter_items c.next.new.self = c.in-Some.ensures.steps.0 in
    let shorter = ap (λ (xs : List (TalliedFlow CoreState)). length xs) is in
    let pushed : c.push.new.self ≡ l.givens ++ c.finish.result ∷ [] = search rules in (
      done-one (map (λ (shared : TalliedFlow CoreState). shared.flow) c.args.flows.items)
          (map (λ (shared : TalliedFlow CoreState). shared.flow) (into_iter_items l.flow-iterator))
          (map (λ (shared : TalliedFlow CoreState). shared.flow) (into_iter_items c.next.new.self)) c.in-Some.flow.flow l.givens c.finish.result c.push.new.self
          l.invariant.0 (ap (map (λ (shared : TalliedFlow CoreState). shared.flow)) is) c.finish.ensures.given pushed,
      omega (arith, shorter, c.in-Some.ensures.steps.1, l.invariant.1),
    )

pub returns : goal.returns
returns c =
    let l = c.loop-flow in
    let none : into_iter_items l.flow-iterator ≡ [] =
    nil_from_length (into_iter_items l.flow-iterator) (sym l.invariant.1 ∙ c.in-None.ensures.steps.0) in
    done-all (map (λ (shared : TalliedFlow CoreState). shared.flow) c.args.flows.items)
    (map (λ (shared : TalliedFlow CoreState). shared.flow) (into_iter_items l.flow-iterator)) l.givens l.invariant.0
    (ap (map (λ (shared : TalliedFlow CoreState). shared.flow)) none)
