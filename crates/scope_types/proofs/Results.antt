-- What holds of the answers of a choice, and of two walks one after the other.
use Rattle.std.proofs.Common.{◌≡◌, Bool, true, false, refl, Result, Ok, Err, IfOk, if◌then◌else◌}
use Rattle.scope_types.specs.WalkResults.{and_then}

-- what holds of a choice's answer holds in each branch
pub if_ok : {A E : Type 0} (b : Bool) (r s : Result A E) (P : A → Type 0) → (b ≡ true → IfOk r P) → (b ≡ false → IfOk s P) → IfOk (if b then r else s) P
if_ok true r s P f g = f refl
if_ok false r s P f g = g refl

-- what holds after two walks follows from what holds after the first
pub then_ok : {A B E : Type 0} (r : Result A E) (walk : A → Result B E) (P : A → Type 0) (Q : B → Type 0) → IfOk r P → ((a : A) → P a → IfOk (walk a) Q) → IfOk (and_then r walk) Q
then_ok (Ok a) walk P Q p f = f a p
then_ok (Err e) walk P Q p f = tt
