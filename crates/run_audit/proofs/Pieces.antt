-- A text of pieces, and the pieces in which no line ends and no count of a ticket has its name.
use Rattle.std.proofs.Common.{◌≡◌, ℕ, Bool, true, false, not, ◌&&◌, nat_eq, Some, List, [], ◌∷◌, ◌++◌, length, drop, codes, refl, ap, sym, ◌∙◌, arith, cond, append_assoc}
use Rattle.std.specs.List.{list_all, starts_with}
use Rattle.std.specs.Bool.{⊤}
use Rattle.std.specs.Fmt.{decimal}
use Rattle.std.proofs.lemmas.Bool.{and_parts, and_from, eqb-true, false≢true, not-true}
use Rattle.std.proofs.lemmas.Bool.Decides.{nat_tests}
use Rattle.std.proofs.lemmas.List.Elements.{All-weaker}
use Rattle.std.proofs.lemmas.List.Folds.{list_all-append}
use Rattle.std.proofs.lemmas.List.Sums.{AllPass-from_list_all, list_all-from_AllPass}
use Rattle.ccp_base.specs.declared.parts.Separator.{Separator}
use Rattle.ccp_base.specs.declared.parts.Separator.TheVariants.{LineFeed, Blank}
use Rattle.ccp_base.specs.Numerals.{is_digit}
use Rattle.ccp_base.specs.Parts.{separates, parts_of, with_first}
use Rattle.ccp_base.proofs.DecimalLemmas.{decimal-digits, joined, joined-append}
use Rattle.run_audit.specs.Marks.{past}

-- ---- pieces without a separator

-- no byte of the text is this separator
pub record IsPlain (separator : Separator) (text : List ℕ) : Type 0 where
  pub plain : list_all (λ byte. not (separates separator byte)) text ≡ true

-- what each byte of a kind passes, a text of such bytes passes
all-of : (p q : ℕ → Bool) (xs : List ℕ) → ((x : ℕ) → p x ≡ true → q x ≡ true) → list_all p xs ≡ true → list_all q xs ≡ true
all-of p q xs more is = list_all-from_AllPass q xs (All-weaker (λ x. p x ≡ true) (λ x. q x ≡ true) more xs (AllPass-from_list_all p xs is))

pub plain-append : {s : Separator} {x y : List ℕ} → IsPlain s x → IsPlain s y → IsPlain s (x ++ y)
plain-append {s} {x} {y} a b = record { plain = list_all-append (λ byte. not (separates s byte)) x y ∙ and_from _ _ a.plain b.plain }

pub plain-of : (s : Separator) (p : ℕ → Bool) (x : List ℕ) → ((b : ℕ) → p b ≡ true → not (separates s b) ≡ true) → list_all p x ≡ true → IsPlain s x
plain-of s p x never is = record { plain = all-of p (λ byte. not (separates s byte)) x never is }

-- a part is what stands before the first separator
pub ended-part : (s : Separator) (part : List ℕ) (byte : ℕ) (rest : List ℕ) → IsPlain s part → separates s byte ≡ true → parts_of s (part ++ byte ∷ rest) ≡ part ∷ parts_of s rest
ended-part s [] byte rest plain is = ap (λ b. cond b ([] ∷ parts_of s rest) (with_first byte (parts_of s rest))) is
ended-part s (x ∷ xs) byte rest plain is =
    let parts = and_parts (not (separates s x)) (list_all (λ b. not (separates s b)) xs) plain.plain in
    ap (λ b. cond b ([] ∷ parts_of s (xs ++ byte ∷ rest)) (with_first x (parts_of s (xs ++ byte ∷ rest)))) (not-true (separates s x) parts.0)
    ∙ ap (with_first x) (ended-part s xs byte rest (record { plain = parts.1 }) is)

-- ---- digits

digit_plain : (s : Separator) (b : ℕ) → is_digit b ≡ true → not (separates s b) ≡ true
digit_plain LineFeed b is = grind (arith, nat_tests)
digit_plain Blank b is = grind (arith, nat_tests)

pub decimal-plain : (s : Separator) (n : ℕ) → IsPlain s (decimal n)
decimal-plain s n = plain-of s is_digit (decimal n) (digit_plain s) (decimal-digits n)

-- ---- pieces that are ignored

-- the name stands at no place of the text, whatever follows
abbrev pub Passes : List ℕ → List ℕ → Type 0
Passes name text = (rest : List ℕ) → past name (text ++ rest) ≡ past name rest

passes-append : (name x y : List ℕ) → Passes name x → Passes name y → Passes name (x ++ y)
passes-append name x y these those rest = ap (past name) (append_assoc x y rest) ∙ these (y ++ rest) ∙ those rest

passes-digits : (first : ℕ) (name digits : List ℕ) → is_digit first ≡ false → list_all is_digit digits ≡ true → Passes (first ∷ name) digits
passes-digits first name [] other is rest = refl
passes-digits first name (d ∷ ds) other is rest =
    let parts = and_parts (is_digit d) (list_all is_digit ds) is in
    ap (λ b. cond (b && starts_with nat_eq (ds ++ rest) name) (Some (drop (length name) (ds ++ rest))) (past (first ∷ name) (ds ++ rest))) (differ parts.0)
    ∙ passes-digits first name ds other parts.1 rest
  where
    go : is_digit d ≡ true → (b : Bool) → nat_eq first d ≡ b → b ≡ false
    go digit true same = let e : first ≡ d = eqb-true first d same in absurd (false≢true (sym other ∙ ap is_digit e ∙ digit))
    go digit false same = refl

    differ : is_digit d ≡ true → nat_eq first d ≡ false
    differ digit = go digit (nat_eq first d) refl

-- neither a line's end nor the name of a count
pub record IsQuiet (text : List ℕ) : Type 0 where
  pub plain : IsPlain LineFeed text
  pub taken : Passes (codes "taken=") text
  pub answered : Passes (codes "answered=") text

pub quiet-append : {x y : List ℕ} → IsQuiet x → IsQuiet y → IsQuiet (x ++ y)
quiet-append {x} {y} a b = record {
  plain = plain-append a.plain b.plain;
  taken = passes-append (codes "taken=") x y a.taken b.taken;
  answered = passes-append (codes "answered=") x y a.answered b.answered;
}

pub quiet-decimal : (n : ℕ) → IsQuiet (decimal n)
quiet-decimal n = record {
  plain = decimal-plain LineFeed n;
  taken = passes-digits 116 (codes "aken=") (decimal n) refl (decimal-digits n);
  answered = passes-digits 97 (codes "nswered=") (decimal n) refl (decimal-digits n);
}

-- ---- lines of pieces

abbrev pub ArePlain : List (List ℕ) → Type 0
ArePlain [] = ⊤
ArePlain (piece ∷ pieces) = IsPlain LineFeed piece × ArePlain pieces

abbrev pub AreQuiet : List (List ℕ) → Type 0
AreQuiet [] = ⊤
AreQuiet (piece ∷ pieces) = IsQuiet piece × AreQuiet pieces

pub quiet-plain : (pieces : List (List ℕ)) → AreQuiet pieces → ArePlain pieces
quiet-plain [] are = tt
quiet-plain (piece ∷ pieces) are = (are.0.plain, quiet-plain pieces are.1)

pub joined-plain : (pieces : List (List ℕ)) → ArePlain pieces → IsPlain LineFeed (joined pieces [])
joined-plain [] are = record { plain = refl }
joined-plain (piece ∷ pieces) are = plain-append are.0 (joined-plain pieces are.1)

-- the first line of a text of plain pieces
pub first_line : (pieces : List (List ℕ)) (rest : List ℕ) → ArePlain pieces → parts_of LineFeed (joined pieces (codes "\n" ++ rest)) ≡ joined pieces [] ∷ parts_of LineFeed rest
first_line pieces rest are =
    ap (parts_of LineFeed) (sym (joined-append pieces [] (codes "\n" ++ rest)))
    ∙ ended-part LineFeed (joined pieces []) 10 rest (joined-plain pieces are) refl

pub taken-past : (pieces : List (List ℕ)) (rest : List ℕ) → AreQuiet pieces → past (codes "taken=") (joined pieces rest) ≡ past (codes "taken=") rest
taken-past [] rest are = refl
taken-past (piece ∷ pieces) rest are = are.0.taken (joined pieces rest) ∙ taken-past pieces rest are.1

pub answered-past : (pieces : List (List ℕ)) (rest : List ℕ) → AreQuiet pieces → past (codes "answered=") (joined pieces rest) ≡ past (codes "answered=") rest
answered-past [] rest are = refl
answered-past (piece ∷ pieces) rest are = are.0.answered (joined pieces rest) ∙ answered-past pieces rest are.1
