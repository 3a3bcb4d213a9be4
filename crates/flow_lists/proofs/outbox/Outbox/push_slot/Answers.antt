use Rattle.std.proofs.Common.{◌≡◌, ℕ, [], ◌∷◌, ◌++◌, ap, ◌∙◌}
use Rattle.circular_buffer.specs.Buffer.{Buffer}
use Rattle.flow_lists.specs.Outbox.{OutboxState}
use Rattle.flow_lists.proofs.OutboxLemmas.{kept_whole}
use Rattle.flow_lists.proofs.outbox.Outbox.push_slot.Goals as goal

pub returns : goal.returns
returns c =
    let old = c.args.self.now in
    let inside = c.self.inside in
    let size : inside.waiting.capacity ≡ old.size = ap (λ (o : OutboxState). o.size) c.self.view_is in
    let whole : c.push_back.new.self.items ≡ old.slots ++ c.args.slot ∷ [] =
    kept_whole old inside.waiting.items inside.waiting.capacity c.args.slot c.push_back.new.self
    (ap (λ (o : OutboxState). o.slots) c.self.view_is) size c.requires c.push_back.ensures.items in
    let full : c.push_back.new.self.capacity ≡ old.size =
    ap (λ (b : Buffer ℕ). b.capacity) c.push_back.ensures.items ∙ size in
    λ i. record { slots = whole i; untold = ap (λ (o : OutboxState). o.untold) c.self.view_is i; size = full i }
