-- What is read of a text's lexemes is what the text spells.
use Rattle.std.specs.Prelude.{◌≡◌, ℕ, ◌+◌, ◌<◌, Bool, true, false, nat_le, Result, Ok, Err, if◌then◌else◌, List, [], ◌∷◌, ◌++◌, length}
use Rattle.std.proofs.Common.{arith, refl, ap, sym, ◌∙◌, subst, append_assoc, append-nil, suc}
use Rattle.std.proofs.lemmas.Bool.{and_parts, and_from, leb-false}
use Rattle.ccp_base.specs.declared.place.Place.{Place}
use Rattle.portus_core.specs.Trees.{Node, number, word, list, Nodes, more, collected}
use Rattle.portus_lexer.specs.Places.{place_past_byte, place_after}
use Rattle.portus_lexer.specs.Lexemes.{Lexeme, is_blank, is_atom, ends_atom, AreLexemes}
use Rattle.portus_lexer.proofs.Scans.{place_after-append}
use Rattle.portus_parser.specs.declared.fault.ParseFault.{ParseFault}
use Rattle.portus_parser.specs.declared.fault.ParseFault.TheVariants.{Nesting, Unexpected}
use Rattle.portus_parser.specs.Atoms.{atom_of}
use Rattle.portus_parser.specs.Spelling.{SpellsAtom, IsListAround, SpellsNode, SpellsParts}
use Rattle.portus_parser.specs.Refusals.{is_opening, is_closing}
use Rattle.portus_parser.specs.Readings.{Opened, OpenLists, read_lexemes, unread, with_part, closed_over, opened_at, put_in}
use Rattle.portus_parser.proofs.OpenLists.{read-Err}
use Rattle.portus_parser.proofs.Joins.{ends_atom-front}
use Rattle.portus_parser.proofs.Turns.{is_opening-true, is_closing-true, is_atom-other, is_list, is_list-atom}

abbrev state : List Opened → List Node → Result OpenLists ParseFault
state opens parts = Ok (record { opens = opens; parts = parts })

-- the bytes that follow spell the rest of the innermost open list, and close it
record Closes (depth : ℕ) (at : Place) (bytes : List ℕ) : Type 0 where
  nodes : List Node
  inner : List ℕ
  others : List ℕ
  whole : bytes ≡ inner ++ 41 ∷ others
  spelled : SpellsParts depth at inner (collected nodes)

-- the bytes that follow close each open list, and spell the rest of the forms
abbrev Finishes : List Opened → List Node → Place → List ℕ → List Node → Type 0
Finishes [] parts at bytes forms = (rest : List Node) × ((forms ≡ parts ++ rest) × SpellsParts 0 at bytes (collected rest))
Finishes (opened ∷ opens) parts at bytes forms =
    (closes : Closes (suc (length opens)) at bytes)
    × Finishes opens (opened.before ++ list opened.place (collected (parts ++ closes.nodes)) ∷ []) (place_after (place_after at closes.inner) (41 ∷ [])) closes.others forms

-- what follows a node counts only if it is an atom
node-front : (node : Node) (depth : ℕ) (at : Place) (part inner others : List ℕ) → SpellsNode depth at part (inner ++ others) node → SpellsNode depth at part inner node
node-front (number place value) depth at part inner others h =
    let atom = and_parts (is_atom part) (ends_atom (inner ++ others)) h.atom in
    record { inside = h.inside; atom = and_from (is_atom part) (ends_atom inner) atom.0 (ends_atom-front inner others atom.1); spelled = h.spelled }
node-front (word place name) depth at part inner others h =
    let atom = and_parts (is_atom part) (ends_atom (inner ++ others)) h.atom in
    record { inside = h.inside; atom = and_from (is_atom part) (ends_atom inner) atom.0 (ends_atom-front inner others atom.1); spelled = h.spelled }
node-front (list place parts) depth at part inner others h = h

pub parts-more : (node : Node) (rest : Nodes) (depth : ℕ) (at : Place) (gap part others : List ℕ) → is_blank false gap ≡ true → SpellsNode depth (place_after at gap) part others node → SpellsParts depth (place_after (place_after at gap) part) others rest → SpellsParts depth at (gap ++ (part ++ others)) (more node rest)
parts-more node rest depth at gap part others blank h k = (record { gap = gap; part = part; others = others; whole = refl; blank = blank }, (h, k))

-- a node in front of what finishes
finishes-more : (opens : List Opened) (parts : List Node) (node : Node) (at : Place) (gap part others : List ℕ) (forms : List Node) → is_blank false gap ≡ true → SpellsNode (length opens) (place_after at gap) part others node → Finishes opens (parts ++ node ∷ []) (place_after (place_after at gap) part) others forms → Finishes opens parts at (gap ++ (part ++ others)) forms
finishes-more [] parts node at gap part others forms blank h k =
    (node ∷ k.0, (k.1.0 ∙ append_assoc parts (node ∷ []) k.0, parts-more node (collected k.0) 0 at gap part others blank h k.1.1))
finishes-more (opened ∷ opens) parts node at gap part others forms blank h k =
    let closes = k.0 in
    let depth = suc (length opens) in
    let here = subst (λ (bytes : List ℕ). SpellsNode depth (place_after at gap) part bytes node) closes.whole h in
    let inner = gap ++ (part ++ closes.inner) in
    let whole : gap ++ (part ++ others) ≡ inner ++ 41 ∷ closes.others =
    ap (λ xs. gap ++ (part ++ xs)) closes.whole
    ∙ ap (λ xs. gap ++ xs) (sym (append_assoc part closes.inner (41 ∷ closes.others)))
    ∙ sym (append_assoc gap (part ++ closes.inner) (41 ∷ closes.others)) in
    let there : place_after (place_after (place_after at gap) part) closes.inner ≡ place_after at inner =
    sym (place_after-append (place_after at gap) part closes.inner) ∙ sym (place_after-append at gap (part ++ closes.inner)) in
    let spelled = parts-more node (collected closes.nodes) depth at gap part closes.inner blank (node-front node depth (place_after at gap) part closes.inner (41 ∷ closes.others) here) closes.spelled in
    let moved = subst (λ (p : Place). Finishes opens (opened.before ++ list opened.place (collected ((parts ++ node ∷ []) ++ closes.nodes)) ∷ []) (place_after p (41 ∷ [])) closes.others forms) there k.1 in (
      record { nodes = node ∷ closes.nodes; inner = inner; others = closes.others; whole = whole; spelled = spelled },
      subst (λ (ps : List Node). Finishes opens (opened.before ++ list opened.place (collected ps) ∷ []) (place_after (place_after at inner) (41 ∷ [])) closes.others forms) (append_assoc parts (node ∷ []) closes.nodes) moved,
    )

abbrev Sound : List Lexeme → Type 0
Sound lexemes = (opens : List Opened) (parts : List Node) (at : Place) (i : ℕ) (bytes : List ℕ) (forms : List Node) → AreLexemes false at i bytes lexemes → read_lexemes (state opens parts) lexemes ≡ Ok forms → Finishes opens parts at bytes forms

refused : (fault : ParseFault) (rest : List Lexeme) (forms : List Node) → read_lexemes (Err fault) rest ≡ Ok forms → ⊥
refused fault rest forms h = let e = read-Err fault rest in cc

-- a lexeme stands where its blank text ends
abbrev Begins : Place → ℕ → List ℕ → Lexeme → List Lexeme → Type 0
Begins at i bytes lexeme rest = AreLexemes false at i bytes (lexeme ∷ rest)

record Room (opens : List Opened) (opened : OpenLists) (rest : List Lexeme) (forms : List Node) : Type 0 where
  room : length opens < 64
  reads : read_lexemes (Ok opened) rest ≡ Ok forms

room_left : (full : Bool) (opens : List Opened) (place : Place) (opened : OpenLists) (rest : List Lexeme) (forms : List Node) → nat_le 64 (length opens) ≡ full → read_lexemes (if full then Err (Nesting place) else Ok opened) rest ≡ Ok forms → Room opens opened rest forms
room_left true opens place opened rest forms e h = absurd (refused (Nesting place) rest forms h)
room_left false opens place opened rest forms e h = record { room = leb-false 64 (length opens) e; reads = h }

at_opening : (lexeme : Lexeme) (rest : List Lexeme) → Sound rest → (opens : List Opened) (parts : List Node) (at : Place) (i : ℕ) (bytes : List ℕ) (forms : List Node) → Begins at i bytes lexeme rest → is_opening lexeme.text ≡ true → read_lexemes (state opens parts) (lexeme ∷ rest) ≡ Ok forms → Finishes opens parts at bytes forms
at_opening lexeme rest sound opens parts at i bytes forms h e k =
    let begins = h.0 in
    let p = place_after at begins.gap in
    let text-is = is_opening-true lexeme.text e in
    let opened : Opened = record { place = lexeme.place; before = parts } in
    let turned : read_lexemes (opened_at lexeme.place (record { opens = opens; parts = parts })) rest ≡ Ok forms = rw e at k in
    let room = room_left (nat_le 64 (length opens)) opens lexeme.place (record { opens = opened ∷ opens; parts = [] }) rest forms refl turned in
    let within = sound (opened ∷ opens) [] (place_after lexeme.place lexeme.text) (lexeme.start + length lexeme.text) begins.others forms h.1 room.reads in
    let closes = within.0 in
    let part : List ℕ = 40 ∷ (closes.inner ++ 41 ∷ []) in
    let node = list lexeme.place (collected closes.nodes) in
    let inside : place_after lexeme.place lexeme.text ≡ place_past_byte p 40 = ap (place_after lexeme.place) text-is ∙ ap (λ q. place_past_byte q 40) begins.place in
    let deeper : suc (length opens) ≡ length opens + 1 = omega arith in
    let spelled = subst (λ (d : ℕ). SpellsParts d (place_past_byte p 40) closes.inner (collected closes.nodes)) deeper
    (subst (λ (q : Place). SpellsParts (suc (length opens)) q closes.inner (collected closes.nodes)) inside closes.spelled) in
    let after : place_after (place_after (place_after lexeme.place lexeme.text) closes.inner) (41 ∷ []) ≡ place_after p part =
    ap (λ q. place_after (place_after q closes.inner) (41 ∷ [])) inside ∙ sym (place_after-append (place_past_byte p 40) closes.inner (41 ∷ [])) in
    let others = subst (λ (q : Place). Finishes opens (parts ++ node ∷ []) q closes.others forms) after within.1 in
    let around : IsListAround (length opens) p part closes.inner lexeme.place = record { nesting = room.room; brackets = refl; place = begins.place } in
    let whole : begins.gap ++ (part ++ closes.others) ≡ bytes =
    ap (λ xs. begins.gap ++ (40 ∷ xs)) (append_assoc closes.inner (41 ∷ []) closes.others)
    ∙ ap (λ xs. begins.gap ++ (40 ∷ xs)) (sym closes.whole)
    ∙ ap (λ xs. begins.gap ++ (xs ++ begins.others)) (sym text-is)
    ∙ sym begins.whole in
    subst (λ (b : List ℕ). Finishes opens parts at b forms) whole
    (finishes-more opens parts node at begins.gap part closes.others forms begins.blank (closes.inner, (around, spelled)) others)

at_closing : (lexeme : Lexeme) (rest : List Lexeme) → Sound rest → (opens : List Opened) (parts : List Node) (at : Place) (i : ℕ) (bytes : List ℕ) (forms : List Node) → Begins at i bytes lexeme rest → is_closing lexeme.text ≡ true → read_lexemes (closed_over lexeme.place opens parts) rest ≡ Ok forms → Finishes opens parts at bytes forms
at_closing lexeme rest sound [] parts at i bytes forms h e k = absurd (refused (Unexpected lexeme.place) rest forms k)
at_closing lexeme rest sound (opened ∷ opens) parts at i bytes forms h e k =
    let begins = h.0 in
    let text-is = is_closing-true lexeme.text e in
    let others = sound opens (opened.before ++ list opened.place (collected parts) ∷ []) (place_after lexeme.place lexeme.text) (lexeme.start + length lexeme.text) begins.others forms h.1 k in
    let after : place_after lexeme.place lexeme.text ≡ place_after (place_after at begins.gap) (41 ∷ []) =
    ap (place_after lexeme.place) text-is ∙ ap (λ q. place_after q (41 ∷ [])) begins.place in
    let there = subst (λ (q : Place). Finishes opens (opened.before ++ list opened.place (collected parts) ∷ []) q begins.others forms) after others in (
      record {
        nodes = [];
        inner = begins.gap;
        others = begins.others;
        whole = begins.whole ∙ ap (λ xs. begins.gap ++ (xs ++ begins.others)) text-is;
        spelled = begins.blank;
      },
      subst (λ (ps : List Node). Finishes opens (opened.before ++ list opened.place (collected ps) ∷ []) (place_after (place_after at begins.gap) (41 ∷ [])) begins.others forms) (sym (append-nil parts)) there,
    )

node-atom : (node : Node) (depth : ℕ) (at : Place) (part others : List ℕ) → SpellsAtom depth at part others node → SpellsNode depth at part others node
node-atom (number place value) depth at part others h = h
node-atom (word place name) depth at part others h = h
node-atom (list place parts) depth at part others h =
    let one : is_list (atom_of at part) ≡ true = ap is_list h.spelled in
    let other = is_list-atom at part in absurd (cc)

at_atom_read : (lexeme : Lexeme) (rest : List Lexeme) → Sound rest → (opens : List Opened) (parts : List Node) (at : Place) (i : ℕ) (bytes : List ℕ) (forms : List Node) (spelled : Result Node ParseFault) → Begins at i bytes lexeme rest → 0 < length opens → is_opening lexeme.text ≡ false → is_closing lexeme.text ≡ false → atom_of lexeme.place lexeme.text ≡ spelled → read_lexemes (with_part (record { opens = opens; parts = parts }) spelled) rest ≡ Ok forms → Finishes opens parts at bytes forms
at_atom_read lexeme rest sound opens parts at i bytes forms (Err fault) h some e f s k = absurd (refused fault rest forms k)
at_atom_read lexeme rest sound opens parts at i bytes forms (Ok node) h some e f s k =
    let begins = h.0 in
    let others = sound opens (parts ++ node ∷ []) (place_after lexeme.place lexeme.text) (lexeme.start + length lexeme.text) begins.others forms h.1 k in
    let there = subst (λ (q : Place). Finishes opens (parts ++ node ∷ []) (place_after q lexeme.text) begins.others forms) begins.place others in
    let atom : SpellsAtom (length opens) (place_after at begins.gap) lexeme.text begins.others node = record {
      inside = some;
      atom = is_atom-other lexeme.text begins.others begins.found e f;
      spelled = ap (λ q. atom_of q lexeme.text) (sym begins.place) ∙ s;
    } in
    subst (λ (b : List ℕ). Finishes opens parts at b forms) (sym begins.whole)
    (finishes-more opens parts node at begins.gap lexeme.text begins.others forms begins.blank (node-atom node (length opens) (place_after at begins.gap) lexeme.text begins.others atom) there)

at_atom : (lexeme : Lexeme) (rest : List Lexeme) → Sound rest → (opens : List Opened) (parts : List Node) (at : Place) (i : ℕ) (bytes : List ℕ) (forms : List Node) → Begins at i bytes lexeme rest → is_opening lexeme.text ≡ false → is_closing lexeme.text ≡ false → read_lexemes (put_in lexeme.place lexeme.text (record { opens = opens; parts = parts }) opens) rest ≡ Ok forms → Finishes opens parts at bytes forms
at_atom lexeme rest sound [] parts at i bytes forms h e f k = absurd (refused (Unexpected lexeme.place) rest forms k)
at_atom lexeme rest sound (opened ∷ opens) parts at i bytes forms h e f k =
    at_atom_read lexeme rest sound (opened ∷ opens) parts at i bytes forms (atom_of lexeme.place lexeme.text) h (omega arith) e f refl k

at_lexeme : (opening closing : Bool) (lexeme : Lexeme) (rest : List Lexeme) → Sound rest → (opens : List Opened) (parts : List Node) (at : Place) (i : ℕ) (bytes : List ℕ) (forms : List Node) → Begins at i bytes lexeme rest → is_opening lexeme.text ≡ opening → is_closing lexeme.text ≡ closing → read_lexemes (state opens parts) (lexeme ∷ rest) ≡ Ok forms → Finishes opens parts at bytes forms
at_lexeme true closing lexeme rest sound opens parts at i bytes forms h e f k = at_opening lexeme rest sound opens parts at i bytes forms h e k
at_lexeme false true lexeme rest sound opens parts at i bytes forms h e f k =
    let turned : read_lexemes (closed_over lexeme.place opens parts) rest ≡ Ok forms = rw (e, f) at k in
    at_closing lexeme rest sound opens parts at i bytes forms h f turned
at_lexeme false false lexeme rest sound opens parts at i bytes forms h e f k =
    let turned : read_lexemes (put_in lexeme.place lexeme.text (record { opens = opens; parts = parts }) opens) rest ≡ Ok forms = rw (e, f) at k in
    at_atom lexeme rest sound opens parts at i bytes forms h e f turned

finishes : (lexemes : List Lexeme) → Sound lexemes
finishes [] [] parts at i bytes forms h k = let e : parts ≡ forms = cc in ([], (sym e ∙ sym (append-nil parts), h))
finishes [] (opened ∷ opens) parts at i bytes forms h k = absurd (cc)
finishes (lexeme ∷ rest) opens parts at i bytes forms h k =
    at_lexeme (is_opening lexeme.text) (is_closing lexeme.text) lexeme rest (finishes rest) opens parts at i bytes forms h refl refl k

-- what is read of a text's lexemes is what the text spells
pub SpellsParts-from_read : (lexemes : List Lexeme) (at : Place) (i : ℕ) (bytes : List ℕ) (forms : List Node) → AreLexemes false at i bytes lexemes → read_lexemes unread lexemes ≡ Ok forms → SpellsParts 0 at bytes (collected forms)
SpellsParts-from_read lexemes at i bytes forms h k =
    let f = finishes lexemes [] [] at i bytes forms h k in
    subst (λ (ns : List Node). SpellsParts 0 at bytes (collected ns)) (sym f.1.0) f.1.1
