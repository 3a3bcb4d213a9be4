-- Lemmas on the parts of a text.
use Rattle.std.proofs.Common.{◌≡◌, ◌≢◌, ℕ, ◌+◌, ◌-◌, ◌<◌, true, false, List, [], ◌∷◌, ◌++◌, length, take, drop, get_or, refl, ap, sym, ◌∙◌, arith, cond, eqb, add-one, append-nil}
use Rattle.std.proofs.Math.Seq.{drop-cons, drop-length, take-length}
use Rattle.std.proofs.lemmas.List.{take_more, take_rest, take-append-drop}
use Rattle.std.proofs.lemmas.Bool.Decides.{nat_tests}
use Rattle.ccp_base.specs.declared.parts.Separator.{Separator}
use Rattle.ccp_base.specs.Parts.{separates, with_first, parts_of, IsSplit, without_last}

-- the bytes at the front of the first part
abbrev pub prefixed : List ℕ → List (List ℕ) → List (List ℕ)
prefixed [] parts = parts
prefixed (byte ∷ rest) parts = with_first byte (prefixed rest parts)

pub prefixed-push : (front : List ℕ) (byte : ℕ) (parts : List (List ℕ)) → prefixed (front ++ byte ∷ []) parts ≡ prefixed front (with_first byte parts)
prefixed-push [] byte parts = refl
prefixed-push (x ∷ front) byte parts = ap (with_first x) (prefixed-push front byte parts)

pub prefixed-cons : (front part : List ℕ) (parts : List (List ℕ)) → prefixed front (part ∷ parts) ≡ (front ++ part) ∷ parts
prefixed-cons [] part parts = refl
prefixed-cons (x ∷ front) part parts = ap (with_first x) (prefixed-cons front part parts)

pub prefixed-nil : (front : List ℕ) → 0 < length front → prefixed front [] ≡ front ∷ []
prefixed-nil [] some = absurd (omega arith)
prefixed-nil (byte ∷ []) some = refl
prefixed-nil (byte ∷ x ∷ front) some = ap (with_first byte) (prefixed-nil (x ∷ front) (omega arith))

module _ (separator : Separator) (text : List ℕ) (i : ℕ) (within : i < length text) where
  parts_from : parts_of separator (drop i text) ≡ cond (separates separator (get_or text i 0)) ([] ∷ parts_of separator (drop (i + 1) text)) (with_first (get_or text i 0) (parts_of separator (drop (i + 1) text)))
  parts_from = rw (add-one, drop-cons text i 0 within) refl

  -- at a separator the first part ends
  pub parts_at_separator : separates separator (get_or text i 0) ≡ true → parts_of separator text ≡ prefixed (take i text) (parts_of separator (drop i text)) → parts_of separator text ≡ take i text ∷ parts_of separator (take (length text - (i + 1)) (drop (i + 1) text))
  parts_at_separator is so_far =
      so_far
      ∙ ap (prefixed (take i text)) (parts_from ∙ ap (λ b. cond b ([] ∷ parts_of separator (drop (i + 1) text)) (with_first (get_or text i 0) (parts_of separator (drop (i + 1) text)))) is)
      ∙ prefixed-cons (take i text) [] (parts_of separator (drop (i + 1) text))
      ∙ ap (λ front. front ∷ parts_of separator (drop (i + 1) text)) (append-nil (take i text))
      ∙ ap (λ rest. take i text ∷ parts_of separator rest) (sym (take_rest text (i + 1)))

  pub IsSplit_at_separator : separates separator (get_or text i 0) ≡ true → IsSplit separator text (take i text) (take (length text - (i + 1)) (drop (i + 1) text))
  IsSplit_at_separator is = record {
    byte = get_or text i 0;
    separated = is;
    whole =
        sym (take-append-drop i text)
        ∙ ap (λ rest. take i text ++ rest) (rw (add-one, drop-cons text i 0 within) refl)
        ∙ ap (λ rest. take i text ++ get_or text i 0 ∷ rest) (sym (take_rest text (i + 1)));
  }

  -- at another byte it continues
  pub parts_past_byte : separates separator (get_or text i 0) ≡ false → parts_of separator text ≡ prefixed (take i text) (parts_of separator (drop i text)) → parts_of separator text ≡ prefixed (take (i + 1) text) (parts_of separator (drop (i + 1) text))
  parts_past_byte is so_far =
      so_far
      ∙ ap (prefixed (take i text)) (parts_from ∙ ap (λ b. cond b ([] ∷ parts_of separator (drop (i + 1) text)) (with_first (get_or text i 0) (parts_of separator (drop (i + 1) text)))) is)
      ∙ sym (prefixed-push (take i text) (get_or text i 0) (parts_of separator (drop (i + 1) text)))
      ∙ ap (λ front. prefixed front (parts_of separator (drop (i + 1) text))) (sym (take_more text i 0 within))

-- without a separator the whole text is one part
pub parts_at_end : (separator : Separator) (text : List ℕ) (i : ℕ) → 0 < length text → i ≡ length text → parts_of separator text ≡ prefixed (take i text) (parts_of separator (drop i text)) → parts_of separator text ≡ text ∷ parts_of separator (take (length text - length text) (drop (length text) text))
parts_at_end separator text i some at_end so_far =
    so_far
    ∙ ap (λ n. prefixed (take n text) (parts_of separator (drop n text))) at_end
    ∙ ap (λ rest. prefixed (take (length text) text) (parts_of separator rest)) (drop-length text)
    ∙ ap (λ front. prefixed front []) (take-length text)
    ∙ prefixed-nil text some
    ∙ ap (λ rest. text ∷ parts_of separator rest) (sym (take_rest text (length text) ∙ drop-length text))

pub without_last-push : (byte : ℕ) (front : List ℕ) (last : ℕ) → without_last byte (front ++ last ∷ []) ≡ cond (eqb last byte) front (front ++ last ∷ [])
without_last-push byte [] last = refl
without_last-push byte (x ∷ []) last = elim (eqb last byte) as (λ b. x ∷ cond b [] (last ∷ []) ≡ cond b (x ∷ []) (x ∷ last ∷ [])) [ true ↦ refl | false ↦ refl ]
without_last-push byte (x ∷ y ∷ front) last =
    ap (λ rest. x ∷ rest) (without_last-push byte (y ∷ front) last)
    ∙ elim (eqb last byte) as (λ b. x ∷ cond b (y ∷ front) (y ∷ (front ++ last ∷ [])) ≡ cond b (x ∷ y ∷ front) (x ∷ y ∷ (front ++ last ∷ []))) [ true ↦ refl | false ↦ refl ]

pub without_last-same : (byte : ℕ) (line front : List ℕ) (last : ℕ) → line ≡ front ++ last ∷ [] → last ≡ byte → front ≡ without_last byte line
without_last-same byte line front last split same =
    let e = without_last-push byte front last in
    grind (arith, nat_tests)

pub without_last-other : (byte : ℕ) (line front : List ℕ) (last : ℕ) → line ≡ front ++ last ∷ [] → last ≢ byte → line ≡ without_last byte line
without_last-other byte line front last split other =
    let e = without_last-push byte front last in
    grind (arith, nat_tests)
