use Rattle.std.proofs.Common.{◌≡◌, ◌≢◌, ℕ, Option, Some, None, List, ◌++◌, Bor, refl, ap, sym, ◌∙◌}
use Rattle.std.specs.Option.{MatchOption}
use Rattle.std.proofs.lemmas.Bool.Decides.{Decides-eqb}
use Rattle.std.proofs.lemmas.Slice.Eq.{strip_prefix_is}
use Rattle.run_audit.specs.Fronts.{text_after, bytes_found}
use Rattle.run_audit.proofs.FrontLemmas.{after-front, after-is}
use Rattle.run_audit.proofs.fronts.text_after.Goals as goal

found : (text front : List ℕ) (r : Option (Bor (List ℕ))) → MatchOption r ((rest : List ℕ) → text ≢ front ++ rest) (λ x. text ≡ front ++ x.now) → bytes_found r ≡ text_after front text
found text front None none = go (text_after front text) refl
  where
    go : (o : Option (List ℕ)) → text_after front text ≡ o → None ≡ o
    go None is = refl
    go (Some rest) is = absurd (none rest (after-is front text rest is))
found text front (Some x) is = sym (ap (text_after front) is ∙ after-front front x.now)

pub returns : goal.returns
returns c = found c.args.text.now c.args.front.now c.strip_prefix.result (strip_prefix_is Decides-eqb c.args.text.now c.args.front.now c.strip_prefix.result c.strip_prefix.ensures.cases)
