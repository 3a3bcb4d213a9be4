-- What the first word of a text gives a primitive.
use Rattle.std.specs.Prelude.{◌≡◌, ℕ, Some, None, List, [], slice_index_or, map}
use Rattle.ccp_base.specs.declared.parts.Separator.TheVariants.{Blank}
use Rattle.ccp_base.specs.Numerals.{numeral_of}
use Rattle.ccp_base.specs.PrimitiveNames.{primitive_names}
use Rattle.fold_run.specs.declared.line_values.LineValues.{LineValues}
use Rattle.fold_run.specs.AckLine.{with_line_value, with_one_word}
use Rattle.fold_run.specs.FirstPart.{first_of, after_separator}

-- the name of the primitive with this number
abbrev pub primitive_word : ℕ → List ℕ
primitive_word n = slice_index_or (map (λ known. known.1) primitive_names) n []

-- the first word of a text gives the primitive with this number the numeral that the rest begins with
pub record GivesNumeral (text : List ℕ) (number : ℕ) (rest : List ℕ) : Type 0 where
  pub word : (values : LineValues)
      → with_one_word values (first_of Blank text)
      ≡ with_line_value values (Some number) (numeral_of (first_of Blank rest))
  pub after : after_separator Blank text ≡ after_separator Blank rest

-- the first word of a text gives no primitive a value
abbrev pub GivesNothing : List ℕ → Type 0
GivesNothing text = (values : LineValues) → with_one_word values (first_of Blank text) ≡ None
