use Rattle.std.proofs.Common.{◌≤◌, List, ℕ, length, drop, ap, sym, subst, ◌∙◌}
use Rattle.feed_core.proofs.RestLemmas.{between-drop}
use Rattle.feed_core.proofs.rest.Rest.drop_front.Goals as goal

pub returns : goal.returns
returns c =
    between-drop c.self.inside.bytes c.self.inside.start c.self.inside.end c.args.count (subst (λ (xs : List ℕ). c.args.count ≤ length xs) (sym c.self.view_is) c.requires)
    ∙ ap (drop c.args.count) c.self.view_is
