-- The kind of a fault and an acknowledgement go into a body and come back.
use Rattle.std.proofs.Common.{◌≡◌, ℕ, zero, suc, ◌≤◌, Bool, true, false, eqb, List, [], ◌∷◌, ◌++◌, length, take, refl, ap, arith}
use Rattle.ccp_base.specs.declared.arithmetic.FaultKind.{FaultKind}
use Rattle.ccp_base.specs.declared.arithmetic.FaultKind.TheVariants.{Overflow, Underflow, ZeroDivisor}
use Rattle.ccp_base.specs.Acknowledgement.{bool_number, primitives, flag_number, ack_of}
use Rattle.ccp_base.specs.Truth.{is_true}
use Rattle.reply_frames.specs.Frames as body
use Rattle.reply_frames.specs.Bodies.{fault_number, fault_kind_of, ack_body}

pub fault-back : (kind : FaultKind) → fault_kind_of (fault_number kind) ≡ kind
fault-back Overflow = refl
fault-back Underflow = refl
fault-back ZeroDivisor = refl

pub fault-again : (n : ℕ) → n ≤ 2 → fault_number (fault_kind_of n) ≡ n
fault-again zero le = refl
fault-again (suc zero) le = refl
fault-again (suc (suc zero)) le = refl
fault-again (suc (suc (suc n))) le = absurd (omega arith)

-- a Bool as a byte
pub truth-back : (b : Bool) → eqb (bool_number b) 1 ≡ b
truth-back true = refl
truth-back false = refl

pub truth-again : (n : ℕ) → n ≤ 1 → bool_number (eqb n 1) ≡ n
truth-again zero le = refl
truth-again (suc zero) le = refl
truth-again (suc (suc n)) le = absurd (omega arith)

-- a Bool as a primitive
pub true-back : (b : Bool) → is_true (bool_number b) ≡ b
true-back true = refl
true-back false = refl

true-again : (n : ℕ) → n ≤ 1 → bool_number (is_true n) ≡ n
true-again zero le = refl
true-again (suc zero) le = refl
true-again (suc (suc n)) le = absurd (omega arith)

pub plain-numbers : (n : List ℕ) (was_timeout : ℕ) → length n ≡ flag_number → take flag_number (primitives (ack_of (n ++ was_timeout ∷ []))) ≡ n
plain-numbers (a ∷ b ∷ c ∷ d ∷ e ∷ f ∷ g ∷ h ∷ i ∷ j ∷ k ∷ l ∷ m ∷ n ∷ []) was_timeout is = refl
plain-numbers n was_timeout is = absurd (omega (arith, is))

pub ack-again : (n : List ℕ) (was_timeout : ℕ) → length n ≡ flag_number → was_timeout ≤ 1 → ack_body (ack_of (n ++ was_timeout ∷ [])) ≡ body.Ack n was_timeout
ack-again (a ∷ b ∷ c ∷ d ∷ e ∷ f ∷ g ∷ h ∷ i ∷ j ∷ k ∷ l ∷ m ∷ n ∷ []) was_timeout is le =
    ap (λ last. body.Ack (a ∷ b ∷ c ∷ d ∷ e ∷ f ∷ g ∷ h ∷ i ∷ j ∷ k ∷ l ∷ m ∷ n ∷ []) last) (true-again was_timeout le)
ack-again n was_timeout is le = absurd (omega (arith, is))
