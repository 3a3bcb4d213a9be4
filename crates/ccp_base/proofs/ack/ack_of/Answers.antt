use Rattle.std.proofs.Common.{◌≡◌, ℕ, ◌<◌, zero, suc, List, [], ◌∷◌, length, slice_index, refl, ap, arith}
use Rattle.ccp_base.specs.Acknowledgement.{bool_number, primitives, ack_of}
use Rattle.ccp_base.specs.Truth.{is_true}
use Rattle.ccp_base.proofs.ack.ack_of.Goals as goal

flag-again : (n : ℕ) → n < 2 → bool_number (is_true n) ≡ n
flag-again zero below = refl
flag-again (suc zero) below = refl
flag-again (suc (suc n)) below = absurd (omega arith)

numbers-again : (numbers : List ℕ) → length numbers ≡ 15 → slice_index numbers 14 < 2 → primitives (ack_of numbers) ≡ numbers
numbers-again (a ∷ b ∷ c ∷ d ∷ e ∷ f ∷ g ∷ h ∷ i ∷ j ∷ k ∷ l ∷ m ∷ n ∷ o ∷ []) is below =
    ap (λ last. a ∷ b ∷ c ∷ d ∷ e ∷ f ∷ g ∷ h ∷ i ∷ j ∷ k ∷ l ∷ m ∷ n ∷ last ∷ []) (flag-again o below)
numbers-again numbers is below = absurd (omega (arith, is))

pub returns-clause-back : goal.returns-clause-back
returns-clause-back c = numbers-again c.args.numbers.now c.requires
