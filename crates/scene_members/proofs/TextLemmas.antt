-- What a text says as JSON, if it is UTF-8 and if it isn't.
use Rattle.std.proofs.Common.{◌≡◌, ℕ, List, Bool, true, false, Some, None, Ok, Err, if◌then◌else◌, refl, ap, ◌∙◌}
use Rattle.std.proofs.lemmas.Str.{IsUtf8-from_is_utf8, is_utf8-from_IsUtf8}
use Rattle.std.specs.Str.{IsUtf8, is_utf8}
use Rattle.serde_json.specs.Data.{Data}
use Rattle.serde_json.specs.Read.{read}
use Rattle.scene_members.specs.Whole.{or_json, value_of_bytes}
use Rattle.scene_members.specs.declared.fault.MemberFault.TheVariants.{Json}

text_value : (text : List ℕ) → IsUtf8 text → value_of_bytes text ≡ or_json (read text)
text_value text h = ap (λ b. or_json (if b then read text else None)) (is_utf8-from_IsUtf8 text h)

pub value_read : (text : List ℕ) (value : Data) → IsUtf8 text → read text ≡ Some value → value_of_bytes text ≡ Ok value
value_read text value h is = text_value text h ∙ ap or_json is

pub value_unread : (text : List ℕ) → IsUtf8 text → read text ≡ None → value_of_bytes text ≡ Err Json
value_unread text h is = text_value text h ∙ ap or_json is

unless : (text : List ℕ) (b : Bool) → is_utf8 text ≡ b → (IsUtf8 text → ⊥) → or_json (if b then read text else None) ≡ Err Json
unless text false is h = refl
unless text true is h = absurd (h (IsUtf8-from_is_utf8 text is))

pub value_of_no_text : (text : List ℕ) → (IsUtf8 text → ⊥) → value_of_bytes text ≡ Err Json
value_of_no_text text h = unless text (is_utf8 text) refl h

-- what a text says, in each case
pub ruleset text_values = (value_read, value_unread, value_of_no_text)
