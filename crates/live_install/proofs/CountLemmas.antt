-- A word without its changes, or without its entries, is known by the counts of acknowledgements before its letters.
use Rattle.std.proofs.Common.{◌≡◌, ℕ, ◌+◌, ◌-◌, ◌<◌, ◌≤◌, List, [], ◌∷◌, ◌++◌, replicate, refl, ap, sym, ◌∙◌, arith, add-one}
use Rattle.std.specs.Bool.{⊤}
use Rattle.open_flow.specs.declared.letter.OpenLetter.{OpenLetter}
use Rattle.open_flow.specs.declared.letter.OpenLetter.TheVariants.{A, I, G}
use Rattle.live_install.specs.WordsShown.{without_changes, without_entries, AreAlike}

-- how many letters are acknowledgements
abbrev pub acks_in : List OpenLetter → ℕ
acks_in [] = 0
acks_in (A ∷ rest) = 1 + acks_in rest
acks_in (I ∷ rest) = acks_in rest
acks_in (G ∷ rest) = acks_in rest

-- the entries, each by the number of acknowledgements before it
abbrev pub entry_counts : ℕ → List OpenLetter → List ℕ
entry_counts at [] = []
entry_counts at (A ∷ rest) = entry_counts (at + 1) rest
entry_counts at (I ∷ rest) = at ∷ entry_counts at rest
entry_counts at (G ∷ rest) = entry_counts at rest

-- the changes
abbrev pub change_counts : ℕ → List OpenLetter → List ℕ
change_counts at [] = []
change_counts at (A ∷ rest) = change_counts (at + 1) rest
change_counts at (I ∷ rest) = change_counts at rest
change_counts at (G ∷ rest) = at ∷ change_counts at rest

-- all of these numbers are between two others
abbrev pub AreBetween : ℕ → ℕ → List ℕ → Type 0
AreBetween low high [] = ⊤
AreBetween low high (n ∷ rest) = (low ≤ n) × (n ≤ high) × AreBetween low high rest

between-wider : (low high : ℕ) (ns : List ℕ) → AreBetween (low + 1) high ns → AreBetween low high ns
between-wider low high [] are = tt
between-wider low high (n ∷ rest) are = (omega (arith, are.0), are.1, between-wider low high rest are.2)

pub entries-between : (at high : ℕ) (word : List OpenLetter) → at + acks_in word ≤ high → AreBetween at high (entry_counts at word)
entries-between at high [] within = tt
entries-between at high (A ∷ rest) within = between-wider at high (entry_counts (at + 1) rest) (entries-between (at + 1) high rest (omega (arith, within)))
entries-between at high (I ∷ rest) within = (omega arith, omega (arith, within), entries-between at high rest within)
entries-between at high (G ∷ rest) within = entries-between at high rest within

pub changes-between : (at high : ℕ) (word : List OpenLetter) → at + acks_in word ≤ high → AreBetween at high (change_counts at word)
changes-between at high [] within = tt
changes-between at high (A ∷ rest) within = between-wider at high (change_counts (at + 1) rest) (changes-between (at + 1) high rest (omega (arith, within)))
changes-between at high (I ∷ rest) within = changes-between at high rest within
changes-between at high (G ∷ rest) within = (omega arith, omega (arith, within), changes-between at high rest within)

-- ---- from counts to words

-- acknowledgements up to a number, with one of these letters at each of the counts
abbrev spelled : OpenLetter → ℕ → ℕ → List ℕ → List OpenLetter
spelled letter high at [] = replicate (high - at) A
spelled letter high at (n ∷ rest) = replicate (n - at) A ++ letter ∷ spelled letter high n rest

one-more : (n : ℕ) → replicate (n + 1) A ≡ A ∷ replicate n A
one-more n = ap (λ k. replicate k A) (add-one n)

-- an acknowledgement in front
front-ack : (letter : OpenLetter) (high at : ℕ) (ns : List ℕ) → at < high → AreBetween (at + 1) high ns
    → spelled letter high at ns ≡ A ∷ spelled letter high (at + 1) ns
front-ack letter high at [] below are =
    let more : high - at ≡ (high - (at + 1)) + 1 = omega (arith, below) in
    ap (λ n. replicate n A) more ∙ one-more (high - (at + 1))
front-ack letter high at (n ∷ rest) below are =
    let least = are.0 in
    let more : n - at ≡ (n - (at + 1)) + 1 = omega (arith, least) in
    ap (λ k. replicate k A ++ letter ∷ spelled letter high n rest) more
    ∙ ap (λ (acks : List OpenLetter). acks ++ letter ∷ spelled letter high n rest) (one-more (n - (at + 1)))

-- a letter in front
front-letter : (letter : OpenLetter) (high at : ℕ) (ns : List ℕ) → letter ∷ spelled letter high at ns ≡ spelled letter high at (at ∷ ns)
front-letter letter high at ns =
    let none : 0 ≡ at - at = omega arith in
    ap (λ n. replicate n A ++ letter ∷ spelled letter high at ns) none

no-ack : (letter : OpenLetter) (high at : ℕ) → at ≡ high → [] ≡ spelled letter high at []
no-ack letter high at is =
    let none : 0 ≡ high - at = omega (arith, is) in
    ap (λ n. replicate n A) none

entries-spelled : (at high : ℕ) (word : List OpenLetter) → at + acks_in word ≡ high
    → without_changes word ≡ spelled I high at (entry_counts at word)
entries-spelled at high [] is = no-ack I high at (omega (arith, is))
entries-spelled at high (A ∷ rest) is =
    ap (λ (w : List OpenLetter). A ∷ w) (entries-spelled (at + 1) high rest (omega (arith, is)))
    ∙ sym (front-ack I high at (entry_counts (at + 1) rest) (omega (arith, is)) (entries-between (at + 1) high rest (omega (arith, is))))
entries-spelled at high (I ∷ rest) is =
    ap (λ (w : List OpenLetter). I ∷ w) (entries-spelled at high rest is) ∙ front-letter I high at (entry_counts at rest)
entries-spelled at high (G ∷ rest) is = entries-spelled at high rest is

changes-spelled : (at high : ℕ) (word : List OpenLetter) → at + acks_in word ≡ high
    → without_entries word ≡ spelled G high at (change_counts at word)
changes-spelled at high [] is = no-ack G high at (omega (arith, is))
changes-spelled at high (A ∷ rest) is =
    ap (λ (w : List OpenLetter). A ∷ w) (changes-spelled (at + 1) high rest (omega (arith, is)))
    ∙ sym (front-ack G high at (change_counts (at + 1) rest) (omega (arith, is)) (changes-between (at + 1) high rest (omega (arith, is))))
changes-spelled at high (I ∷ rest) is = changes-spelled at high rest is
changes-spelled at high (G ∷ rest) is =
    ap (λ (w : List OpenLetter). G ∷ w) (changes-spelled at high rest is) ∙ front-letter G high at (change_counts at rest)

pub alike-by-counts : (word other : List OpenLetter) → acks_in word ≡ acks_in other → entry_counts 0 word ≡ entry_counts 0 other
    → change_counts 0 word ≡ change_counts 0 other → AreAlike word other
alike-by-counts word other acks entries changes = record {
  entries = entries-spelled 0 (acks_in word) word (omega arith) ∙ (λ i. spelled I (acks i) 0 (entries i))
      ∙ sym (entries-spelled 0 (acks_in other) other (omega arith));
  changes = changes-spelled 0 (acks_in word) word (omega arith) ∙ (λ i. spelled G (acks i) 0 (changes i))
      ∙ sym (changes-spelled 0 (acks_in other) other (omega arith));
}

-- ---- from words to counts

counts-without : (at : ℕ) (word : List OpenLetter) → entry_counts at word ≡ entry_counts at (without_changes word)
counts-without at [] = refl
counts-without at (A ∷ rest) = counts-without (at + 1) rest
counts-without at (I ∷ rest) = ap (λ (ns : List ℕ). at ∷ ns) (counts-without at rest)
counts-without at (G ∷ rest) = counts-without at rest

pub alike-entries : (word other : List OpenLetter) → AreAlike word other → entry_counts 0 word ≡ entry_counts 0 other
alike-entries word other alike = counts-without 0 word ∙ ap (entry_counts 0) alike.entries ∙ sym (counts-without 0 other)
