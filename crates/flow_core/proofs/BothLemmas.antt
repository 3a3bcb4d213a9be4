-- What two tests that both hold say of an option.
use Rattle.std.specs.Prelude.{◌≡◌, Bool, true, ◌&&◌, is_none, Option, Some, None, refl}
use Rattle.std.proofs.Common.{sym}
use Rattle.std.proofs.lemmas.Bool.{true≢false}

pub none-left : {A : Type 0} (out : Option A) (can : Bool) → (is_none out && can) ≡ true → out ≡ None
none-left None can both = refl
none-left (Some a) can both = absurd (true≢false (sym both))
