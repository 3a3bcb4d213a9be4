use Rattle.std.proofs.Common.{◌≡◌, ℕ, List, [], ◌∷◌, ◌++◌, sym, ap, subst}
use Rattle.slot_pool.specs.Pool.{words_at}
use Rattle.flow_lists.specs.Outbox.{OutboxState, AreOwned, Lies}
use Rattle.flow_lists.proofs.OutboxLemmas.{owned-pushed_report, lies-pushed, kept_whole}
use Rattle.flow_lists.proofs.outbox.Outbox.push.Goals as goal

pub returns-clause-owned : goal.returns-clause-owned
returns-clause-owned g c =
    let new = g.P.Slots.pool c.store-slot.new.slots in
    let slot = c.store-slot.result in
    let whole : c.push_back.new.self.items ≡ c.args.self.now.slots ++ slot ∷ [] =
    kept_whole c.args.self.now c.self.inside.waiting.items c.self.inside.waiting.capacity slot c.push_back.new.self
    (ap (λ (o : OutboxState). o.slots) c.self.view_is) (ap (λ (o : OutboxState). o.size) c.self.view_is)
    c.requires.room c.push_back.ensures.items in
    subst (λ (xs : List ℕ). AreOwned new xs) (sym whole)
    (owned-pushed_report (g.P.Slots.pool c.args.slots.now) new slot (words_at new slot) c.args.self.now.slots c.args.report.now
    c.store-slot.ensures.was_free c.store-slot.ensures.changed c.store-slot.ensures.stored c.requires.owned)

pub returns-clause-gained : goal.returns-clause-gained
returns-clause-gained g c = λ reports lies.
    let new = g.P.Slots.pool c.store-slot.new.slots in
    let slot = c.store-slot.result in
    let whole : c.push_back.new.self.items ≡ c.args.self.now.slots ++ slot ∷ [] =
    kept_whole c.args.self.now c.self.inside.waiting.items c.self.inside.waiting.capacity slot c.push_back.new.self
    (ap (λ (o : OutboxState). o.slots) c.self.view_is) (ap (λ (o : OutboxState). o.size) c.self.view_is)
    c.requires.room c.push_back.ensures.items in
    subst (λ (xs : List ℕ). Lies new xs (reports ++ c.args.report.now ∷ [])) (sym whole)
    (lies-pushed (g.P.Slots.pool c.args.slots.now) new slot (words_at new slot) c.args.self.now.slots c.args.report.now reports
    c.store-slot.ensures.was_free c.store-slot.ensures.changed c.store-slot.ensures.stored lies)
