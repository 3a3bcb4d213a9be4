-- What a text spells is printed as a text that spells the same but for places.
use Rattle.std.specs.Prelude.{◌≡◌, ℕ, ◌+◌, ◌<◌, true, false, List, [], ◌∷◌, ◌++◌, codes}
use Rattle.std.proofs.Common.{arith, refl, ap, sym, ◌∙◌, subst, append_assoc}
use Rattle.ccp_base.specs.declared.place.Place.{Place}
use Rattle.portus_core.specs.Trees.{Node, number, word, list, Nodes, none, more}
use Rattle.portus_core.specs.PrintedTree.{printed_of, printed_after, printed_forms}
use Rattle.portus_lexer.specs.Places.{first_place, place_past_byte, place_after}
use Rattle.portus_lexer.specs.Lexemes.{is_blank, ends_atom, ended}
use Rattle.portus_parser.specs.Spelling.{IsListAround, SpellsParts}
use Rattle.portus_parser.specs.PrintedBack.{node_without_places, without_places, PrintsBack}
use Rattle.portus_parser.proofs.Joins.{is_blank-append}
use Rattle.portus_parser.proofs.Finishes.{parts-more}
use Rattle.portus_parser.proofs.PrintedAtoms.{spells_number, spells_word}

abbrev mutual
  -- a node with the places that its parts have where it is printed at this one
  placed_node : Place → Node → Node
  placed_node at (number place value) = number at value
  placed_node at (word place name) = word at name
  placed_node at (list place parts) = list at (placed (codes " ") [] (place_past_byte at 40) parts)

  -- nodes with their places, the first one after this gap and each later one after another
  placed : List ℕ → List ℕ → Place → Nodes → Nodes
  placed between gap at none = none
  placed between gap at (more node rest) =
      more (placed_node (place_after at gap) node) (placed between between (place_after (place_after at gap) (printed_of node)) rest)

same-placed : (nodes : Nodes) (between gap : List ℕ) (at : Place) → without_places nodes ≡ without_places (placed between gap at nodes)
same-placed none between gap at = refl
same-placed (more (number place value) rest) between gap at =
    ap (more (number first_place value)) (same-placed rest between between (place_after (place_after at gap) (printed_of (number place value))))
same-placed (more (word place name) rest) between gap at =
    ap (more (word first_place name)) (same-placed rest between between (place_after (place_after at gap) name))
same-placed (more (list place own) rest) between gap at =
    ap (λ parts. more (list first_place parts) (without_places rest)) (same-placed own (codes " ") [] (place_past_byte (place_after at gap) 40))
    ∙ ap (more (node_without_places (placed_node (place_after at gap) (list place own)))) (same-placed rest between between (place_after (place_after at gap) (printed_of (list place own))))

-- each atom ends before a space or the end of its list
after_ends : (rest : Nodes) → ends_atom (printed_after (codes " ") rest) ≡ true
after_ends none = refl
after_ends (more node rest) = refl

list_around : (depth : ℕ) (at there : Place) (part inner : List ℕ) (place : Place) (own : Nodes) → IsListAround depth at part inner place → IsListAround depth there (printed_of (list place own)) (printed_after [] own) there
list_around depth at there part inner place own h = record { nesting = h.nesting; brackets = refl; place = refl }

-- the printed parts of a list spell the list's own, at their new places
spells_after : (nodes : Nodes) (depth : ℕ) (at there : Place) (bytes gap : List ℕ) → is_blank false gap ≡ true → SpellsParts depth at bytes nodes → SpellsParts depth there (printed_after gap nodes) (placed (codes " ") gap there nodes)
spells_after none depth at there bytes gap blank h = refl
spells_after (more (number place value) rest) depth at there bytes gap blank h =
    let split = h.0 in
    let from = place_after at split.gap in
    let begins = place_after there gap in
    let node = number place value in
    let after = place_after begins (printed_of node) in
    parts-more (placed_node begins node) (placed (codes " ") (codes " ") after rest) depth there gap (printed_of node) (printed_after (codes " ") rest) blank
    (spells_number depth from begins split.part split.others (printed_after (codes " ") rest) place value h.1.0 (after_ends rest))
    (spells_after rest depth (place_after from split.part) after split.others (codes " ") refl h.1.1)
spells_after (more (word place name) rest) depth at there bytes gap blank h =
    let split = h.0 in
    let from = place_after at split.gap in
    let begins = place_after there gap in
    let node = word place name in
    let after = place_after begins (printed_of node) in
    parts-more (placed_node begins node) (placed (codes " ") (codes " ") after rest) depth there gap (printed_of node) (printed_after (codes " ") rest) blank
    (spells_word depth from begins split.part split.others (printed_after (codes " ") rest) place name h.1.0 (after_ends rest))
    (spells_after rest depth (place_after from split.part) after split.others (codes " ") refl h.1.1)
spells_after (more (list place own) rest) depth at there bytes gap blank h =
    let split = h.0 in
    let from = place_after at split.gap in
    let begins = place_after there gap in
    let node = list place own in
    let after = place_after begins (printed_of node) in
    let around = list_around depth from begins split.part h.1.0.0 place own h.1.0.1.0 in
    let within = spells_after own (depth + 1) (place_past_byte from 40) (place_past_byte begins 40) h.1.0.0 [] refl h.1.0.1.1 in
    parts-more (placed_node begins node) (placed (codes " ") (codes " ") after rest) depth there gap (printed_of node) (printed_after (codes " ") rest) blank
    (printed_after [] own, (around, within))
    (spells_after rest depth (place_after from split.part) after split.others (codes " ") refl h.1.1)

-- a form with its line feed, and then the others
form_apart : (gap form rest : List ℕ) → gap ++ ended (form ++ (10 ∷ rest)) ≡ gap ++ (form ++ ((10 ∷ []) ++ ended rest))
form_apart gap form rest = ap (λ text. gap ++ text) (append_assoc form (10 ∷ rest) (10 ∷ []))

-- the printed forms spell the forms, at their new places
spells_forms : (forms : Nodes) (at there : Place) (bytes gap : List ℕ) → is_blank false gap ≡ true → SpellsParts 0 at bytes forms → SpellsParts 0 there (gap ++ ended (printed_forms forms)) (placed (codes "\n") gap there forms)
spells_forms none at there bytes gap blank h = is_blank-append false gap (10 ∷ []) blank refl
spells_forms (more (number place value) rest) at there bytes gap blank h = let inside : 0 < 0 = h.1.0.inside in absurd (omega (arith, inside))
spells_forms (more (word place name) rest) at there bytes gap blank h = let inside : 0 < 0 = h.1.0.inside in absurd (omega (arith, inside))
spells_forms (more (list place own) rest) at there bytes gap blank h =
    let split = h.0 in
    let from = place_after at split.gap in
    let begins = place_after there gap in
    let node = list place own in
    let after = place_after begins (printed_of node) in
    let around = list_around 0 from begins split.part h.1.0.0 place own h.1.0.1.0 in
    let within = spells_after own 1 (place_past_byte from 40) (place_past_byte begins 40) h.1.0.0 [] refl h.1.0.1.1 in
    let back = (10 ∷ []) ++ ended (printed_forms rest) in
    let spelled = parts-more (placed_node begins node) (placed (codes "\n") (codes "\n") after rest) 0 there gap (printed_of node) back blank
    (printed_after [] own, (around, within))
    (spells_forms rest (place_after from split.part) after split.others (codes "\n") refl h.1.1) in
    subst (λ (text : List ℕ). SpellsParts 0 there text (placed (codes "\n") gap there (more node rest))) (sym (form_apart gap (printed_of node) (printed_forms rest))) spelled

-- what a text spells is printed as a text that spells the same but for places
pub prints_back : PrintsBack
prints_back text forms h short =
    let again = placed (codes "\n") [] first_place forms in (
      again,
      (
        record { short = short; spelled = spells_forms forms first_place first_place (ended text) [] refl h.spelled },
        same-placed forms (codes "\n") [] first_place,
      ),
    )
