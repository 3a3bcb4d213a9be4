-- What a contract sees of a list with reserved room.
use Rattle.std.specs.Prelude.{ℕ, List, refl}
use Rattle.std.specs.Coded.{Coded, code_by, coded×, coded_list, coded_ℕ}

-- the items in order, and how many the list can have before it takes memory
pub record ReservedState (X : Type 0) : Type 0 where
  pub items : List X
  pub room : ℕ

module _ {X : Type 0} where
  -- it is stored as the pair of its fields
  abbrev pub reserved_code : Coded X → Coded (ReservedState X)
  reserved_code c =
      code_by
      (List X × ℕ)
      (coded× (coded_list c) coded_ℕ)
      (λ r. (r.items, r.room))
      (λ p. record { items = p.0; room = p.1 })
      (λ _. refl)
