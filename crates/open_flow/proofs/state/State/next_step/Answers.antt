use Rattle.std.proofs.Common.{ap, ◌∙◌, ◌-◌, ℕ, ◌≡◌, List, length, drop, take}
use Rattle.std.proofs.lemmas.List.{take_rest}
use Rattle.open_flow.specs.declared.entry.Entry.{Entry}
use Rattle.open_flow.specs.States.{world_of, next_from, accepted_from}
use Rattle.open_flow.proofs.NextLemmas.{next-found}
use Rattle.open_flow.proofs.state.State.next_step.Goals as goal

pub returns : goal.returns
returns c =
    let s = c.args.self.now in
    let keeps = c.requires.keeps in
    let from : accepted_from c.next_from-from.result (drop c.next_from-from.result s.entries.items) ≡ accepted_from (next_from s.running) (drop (next_from s.running) s.entries.items) =
    ap (λ (n : ℕ). accepted_from n (drop n s.entries.items)) c.next_from-from.ensures in
    let n = c.next_from-from.result in
    c.accepted_from.ensures
    ∙ ap (λ (entries : List Entry). accepted_from n (take (length entries - n) (drop n entries))) c.as_slice.ensures
    ∙ ap (accepted_from n) (take_rest s.entries.items n)
    ∙ from ∙ next-found (next_from s.running) s.entries.items (world_of s) keeps.entries keeps.passed
