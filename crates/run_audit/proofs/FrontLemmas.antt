-- Fronts of texts.
use Rattle.std.proofs.Common.{◌≡◌, ℕ, Bool, true, false, ◌==◌, Some, None, List, [], ◌∷◌, ◌++◌, refl, ap, ◌∙◌, cond}
use Rattle.std.proofs.lemmas.Bool.{eqb-true, eq-eqb}
use Rattle.run_audit.specs.Fronts.{text_after}

-- what follows a front is there
pub after-front : (front rest : List ℕ) → text_after front (front ++ rest) ≡ Some rest
after-front [] rest = refl
after-front (byte ∷ front) rest = ap (λ b. cond b (text_after front (front ++ rest)) None) (eq-eqb byte byte refl) ∙ after-front front rest

-- a text is its front and what follows
pub after-is : (front text rest : List ℕ) → text_after front text ≡ Some rest → text ≡ front ++ rest
after-is [] text rest is = let e : text ≡ rest = cc in e
after-is (byte ∷ front) [] rest is = absurd (cc)
after-is (byte ∷ front) (other ∷ text) rest is = go (after-is front text rest) (other == byte) refl is
  where
    go : (text_after front text ≡ Some rest → text ≡ front ++ rest) → (b : Bool) → other == byte ≡ b → cond b (text_after front text) None ≡ Some rest → other ∷ text ≡ byte ∷ (front ++ rest)
    go again true same is = let e : other ≡ byte = eqb-true other byte same in λ i. e i ∷ again is i
    go again false same is = absurd (cc)
