-- How the search for a stray byte goes on from one byte to the next.
use Rattle.std.specs.Prelude.{◌≡◌, ℕ, Bool, true, false, not, ◌&&◌, ◌==◌, Some, if◌then◌else◌, List, ◌∷◌}
use Rattle.std.proofs.Common.{refl}
use Rattle.ccp_base.specs.declared.place.Place.{Place}
use Rattle.portus_lexer.specs.Bytes.{is_allowed}
use Rattle.portus_lexer.specs.Places.{place_past_byte}
use Rattle.portus_lexer.specs.Strays.{stray_from}

-- a byte that may stand here
pub stray_step : (commented : Bool) (at : Place) (b : ℕ) (rest : List ℕ) → (not commented && not (is_allowed b)) ≡ false → stray_from commented at (b ∷ rest) ≡ stray_from (if commented then not (b == 10) else b == 35) (place_past_byte at b) rest
stray_step true at b rest h = refl
stray_step false at b rest h = go (is_allowed b) refl h
  where
    go : (allowed : Bool) → is_allowed b ≡ allowed → not allowed ≡ false → stray_from false at (b ∷ rest) ≡ stray_from (b == 35) (place_past_byte at b) rest
    go true is h = rw is refl
    go false is h = absurd (cc)

-- a byte that may not stand here
pub stray_here : (commented : Bool) (at : Place) (b : ℕ) (rest : List ℕ) → (not commented && not (is_allowed b)) ≡ true → stray_from commented at (b ∷ rest) ≡ Some at
stray_here true at b rest h = absurd (cc)
stray_here false at b rest h = go (is_allowed b) refl h
  where
    go : (allowed : Bool) → is_allowed b ≡ allowed → not allowed ≡ true → stray_from false at (b ∷ rest) ≡ Some at
    go true is h = absurd (cc)
    go false is h = rw is refl
