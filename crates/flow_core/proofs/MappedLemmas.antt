-- A map of an option changes nothing about whether it has something.
use Rattle.std.specs.Prelude.{◌≡◌, is_some, is_none, Option, Some, None, option_map, refl}
use Rattle.flow_core.specs.States.{some_count}

module _ {A B : Type 0} (f : A → B) where
  pub some-mapped : (option : Option A) → is_some option ≡ is_some (option_map f option)
  some-mapped None = refl
  some-mapped (Some a) = refl

  pub none-mapped : (option : Option A) → is_none option ≡ is_none (option_map f option)
  none-mapped None = refl
  none-mapped (Some a) = refl

  pub count-mapped : (option : Option A) → some_count (option_map f option) ≡ some_count option
  count-mapped None = refl
  count-mapped (Some a) = refl
