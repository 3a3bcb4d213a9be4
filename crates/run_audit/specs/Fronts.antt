-- What follows a front of a text.
use Rattle.std.specs.Prelude.{◌≡◌, ℕ, ◌==◌, Option, Some, None, option_map, if◌then◌else◌, List, [], ◌∷◌}
use Rattle.std.specs.Borrow.{Bor}

-- what follows this front; None if the text doesn't begin with it
abbrev pub text_after : List ℕ → List ℕ → Option (List ℕ)
text_after [] text = Some text
text_after (byte ∷ front) [] = None
text_after (byte ∷ front) (other ∷ text) = if other == byte then text_after front text else None

-- the bytes that are found, wherever they stand
abbrev pub bytes_found : Option (Bor (List ℕ)) → Option (List ℕ)
bytes_found found = option_map (λ bytes. bytes.now) found

-- this is what follows this front of a text, wherever it stands; None if the text doesn't begin with it
abbrev pub IsLeftAfter : List ℕ → List ℕ → Option (Bor (List ℕ)) → Type 0
IsLeftAfter front text found = bytes_found found ≡ text_after front text
