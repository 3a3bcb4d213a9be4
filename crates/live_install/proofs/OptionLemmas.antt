-- What an option has.
use Rattle.std.specs.Prelude.{◌≡◌, Option, Some, None, IfSome, refl}

-- what an option has, it is
pub some_itself : {X : Type 0} → (option : Option X) → IfSome option (λ x. option ≡ Some x)
some_itself None = tt
some_itself (Some x) = refl
