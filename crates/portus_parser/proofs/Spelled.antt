-- Bytes that spell nodes have lexemes that are read as these nodes.
use Rattle.std.specs.Prelude.{◌≡◌, ℕ, ◌+◌, ◌<◌, true, false, ◌&&◌, Result, Ok, List, [], ◌∷◌, ◌++◌, length}
use Rattle.std.proofs.Common.{arith, refl, ap, sym, ◌∙◌, subst, append_assoc, append-nil, length-append}
use Rattle.std.proofs.lemmas.Bool.{and_parts, or_right}
use Rattle.ccp_base.specs.declared.place.Place.{Place}
use Rattle.portus_core.specs.Trees.{Node, number, word, list, Nodes, none, more, collected}
use Rattle.portus_lexer.specs.Places.{place_past_byte, place_after}
use Rattle.portus_lexer.specs.Lexemes.{Lexeme, is_blank, is_parenthesis, is_atom, ends_atom, BeginsWithLexeme, AreLexemes}
use Rattle.portus_lexer.proofs.Scans.{place_after-append}
use Rattle.portus_parser.specs.declared.fault.ParseFault.{ParseFault}
use Rattle.portus_parser.specs.Spelling.{Split, SpellsAtom, IsListAround, SpellsParts}
use Rattle.portus_parser.specs.Readings.{Opened, OpenLists, read_lexemes}
use Rattle.portus_parser.proofs.Joins.{AreLexemes-append, moved}
use Rattle.portus_parser.proofs.Turns.{turn-open, turn-atom}

-- the nodes of a list in order
abbrev pub listed : Nodes → List Node
listed none = []
listed (more node rest) = node ∷ listed rest

pub collected-listed : (nodes : Nodes) → collected (listed nodes) ≡ nodes
collected-listed none = refl
collected-listed (more node rest) = ap (more node) (collected-listed rest)

abbrev state : List Opened → List Node → Result OpenLists ParseFault
state opens parts = Ok (record { opens = opens; parts = parts })

-- bytes that spell nodes have lexemes, by which a reading puts these nodes to its parts
pub record Lexed (depth : ℕ) (at : Place) (i : ℕ) (bytes : List ℕ) (nodes : Nodes) : Type 0 where
  pub lexemes : List Lexeme
  pub divided : AreLexemes false at i bytes lexemes
  pub reads : (opens : List Opened) (parts : List Node) (others : List Lexeme) → length opens ≡ depth → read_lexemes (state opens parts) (lexemes ++ others) ≡ read_lexemes (state opens (parts ++ listed nodes)) others

lexed_none : (depth : ℕ) (at : Place) (i : ℕ) (bytes : List ℕ) → is_blank false bytes ≡ true → Lexed depth at i bytes none
lexed_none depth at i bytes blank = record {
  lexemes = [];
  divided = blank;
  reads = λ opens parts others e. ap (λ (ps : List Node). read_lexemes (state opens ps) others) (sym (append-nil parts));
}

-- an atom, with what follows
lexed_atom : (depth : ℕ) (at : Place) (i : ℕ) (bytes : List ℕ) (node : Node) (rest : Nodes) (split : Split bytes) → SpellsAtom depth (place_after at split.gap) split.part split.others node → Lexed depth (place_after (place_after at split.gap) split.part) ((i + length split.gap) + length split.part) split.others rest → Lexed depth at i bytes (more node rest)
lexed_atom depth at i bytes node rest split spells after =
    let place = place_after at split.gap in
    let parts-of = and_parts (is_atom split.part) (ends_atom split.others) spells.atom in
    let begins : BeginsWithLexeme false at i bytes (record { place = place; start = i + length split.gap; text = split.part }) = record {
      gap = split.gap;
      others = split.others;
      whole = split.whole;
      blank = split.blank;
      found = or_right (is_parenthesis split.part) (is_atom split.part && ends_atom split.others) spells.atom;
      place = refl;
      start = refl;
    } in
    record {
      lexemes = record { place = place; start = i + length split.gap; text = split.part } ∷ after.lexemes;
      divided = (begins, after.divided);
      reads = λ opens parts others e.
          let some : 0 < length opens = omega (arith, spells.inside) in
          ap (λ (turn : Result OpenLists ParseFault). read_lexemes turn (after.lexemes ++ others)) (turn-atom place split.part opens parts node some parts-of.0 spells.spelled)
          ∙ after.reads opens (parts ++ node ∷ []) others e
          ∙ ap (λ (ps : List Node). read_lexemes (state opens ps) others) (append_assoc parts (node ∷ []) (listed rest));
    }

-- a list's bytes with what follows: its own lexemes between two parentheses
divided_list : (at : Place) (i : ℕ) (bytes gap inner others : List ℕ) (own after : List Lexeme) → bytes ≡ gap ++ ((40 ∷ (inner ++ 41 ∷ [])) ++ others) → is_blank false gap ≡ true → AreLexemes false (place_past_byte (place_after at gap) 40) ((i + length gap) + 1) inner own → AreLexemes false (place_after (place_after at gap) (40 ∷ (inner ++ 41 ∷ []))) ((i + length gap) + length (40 ∷ (inner ++ 41 ∷ []))) others after → AreLexemes false at i bytes (record { place = place_after at gap; start = i + length gap; text = 40 ∷ [] } ∷ (own ++ record { place = place_after (place_past_byte (place_after at gap) 40) inner; start = ((i + length gap) + 1) + length inner; text = 41 ∷ [] } ∷ after))
divided_list at i bytes gap inner others own after whole blank within follows =
    let p = place_after at gap in
    let n = i + length gap in
    let q = place_after (place_past_byte p 40) inner in
    let m = (n + 1) + length inner in
    let closing : List ℕ = 41 ∷ [] in
    let part : List ℕ = 40 ∷ (inner ++ closing) in
    let place-is : place_after p part ≡ place_after q closing = place_after-append (place_past_byte p 40) inner closing in
    let number-is : n + length part ≡ m + length closing = omega (arith, length-append inner closing) in
    let ends : BeginsWithLexeme false q m (41 ∷ others) (record { place = q; start = m; text = 41 ∷ [] }) = record {
      gap = [];
      others = others;
      whole = refl;
      blank = refl;
      found = refl;
      place = refl;
      start = omega arith;
    } in
    let rest = moved (place_after p part) (place_after q closing) (n + length part) (m + length closing) others after place-is number-is follows in
    let inside = AreLexemes-append own false (place_past_byte p 40) (n + 1) inner (41 ∷ others) (record { place = q; start = m; text = 41 ∷ [] } ∷ after) within (ends, rest) refl in (
      record {
        gap = gap;
        others = inner ++ 41 ∷ others;
        whole = whole ∙ ap (λ xs. gap ++ (40 ∷ xs)) (append_assoc inner (41 ∷ []) others);
        blank = blank;
        found = refl;
        place = refl;
        start = refl;
      },
      inside,
    )

lexed_list : (depth : ℕ) (at : Place) (i : ℕ) (bytes : List ℕ) (place : Place) (own rest : Nodes) (split : Split bytes) (inner : List ℕ) → IsListAround depth (place_after at split.gap) split.part inner place → Lexed (depth + 1) (place_past_byte (place_after at split.gap) 40) ((i + length split.gap) + 1) inner own → Lexed depth (place_after (place_after at split.gap) split.part) ((i + length split.gap) + length split.part) split.others rest → Lexed depth at i bytes (more (list place own) rest)
lexed_list depth at i bytes place own rest split inner around within after =
    let p = place_after at split.gap in
    let n = i + length split.gap in
    let q = place_after (place_past_byte p 40) inner in
    let close : Lexeme = record { place = q; start = (n + 1) + length inner; text = 41 ∷ [] } in
    let whole : bytes ≡ split.gap ++ ((40 ∷ (inner ++ 41 ∷ [])) ++ split.others) = split.whole ∙ ap (λ xs. split.gap ++ (xs ++ split.others)) around.brackets in
    let follows = subst (λ (part : List ℕ). AreLexemes false (place_after p part) (n + length part) split.others after.lexemes) around.brackets after.divided in
    record {
      lexemes = record { place = p; start = n; text = 40 ∷ [] } ∷ (within.lexemes ++ close ∷ after.lexemes);
      divided = divided_list at i bytes split.gap inner split.others within.lexemes after.lexemes whole split.blank within.divided follows;
      reads = λ opens parts others e.
          let opened : Opened = record { place = p; before = parts } in
          let room : length opens < 64 = omega (arith, around.nesting) in
          let deeper : length (opened ∷ opens) ≡ depth + 1 = omega arith in
          ap (λ (turn : Result OpenLists ParseFault). read_lexemes turn ((within.lexemes ++ close ∷ after.lexemes) ++ others)) (turn-open p opens parts room)
          ∙ ap (read_lexemes (state (opened ∷ opens) [])) (append_assoc within.lexemes (close ∷ after.lexemes) others)
          ∙ within.reads (opened ∷ opens) [] (close ∷ (after.lexemes ++ others)) deeper
          ∙ ap (λ (nodes : Nodes). read_lexemes (state opens (parts ++ list p nodes ∷ [])) (after.lexemes ++ others)) (collected-listed own)
          ∙ ap (λ (there : Place). read_lexemes (state opens (parts ++ list there own ∷ [])) (after.lexemes ++ others)) (sym around.place)
          ∙ after.reads opens (parts ++ list place own ∷ []) others e
          ∙ ap (λ (ps : List Node). read_lexemes (state opens ps) others) (append_assoc parts (list place own ∷ []) (listed rest));
    }

-- bytes that spell nodes are lexed so that they are read
pub lexed : (nodes : Nodes) (depth : ℕ) (at : Place) (i : ℕ) (bytes : List ℕ) → SpellsParts depth at bytes nodes → Lexed depth at i bytes nodes
lexed none depth at i bytes h = lexed_none depth at i bytes h
lexed (more (number place value) rest) depth at i bytes h =
    let split = h.0 in
    lexed_atom depth at i bytes (number place value) rest split h.1.0
    (lexed rest depth (place_after (place_after at split.gap) split.part) ((i + length split.gap) + length split.part) split.others h.1.1)
lexed (more (word place name) rest) depth at i bytes h =
    let split = h.0 in
    lexed_atom depth at i bytes (word place name) rest split h.1.0
    (lexed rest depth (place_after (place_after at split.gap) split.part) ((i + length split.gap) + length split.part) split.others h.1.1)
lexed (more (list place own) rest) depth at i bytes h =
    let split = h.0 in
    lexed_list depth at i bytes place own rest split h.1.0.0 h.1.0.1.0
    (lexed own (depth + 1) (place_past_byte (place_after at split.gap) 40) ((i + length split.gap) + 1) h.1.0.0 h.1.0.1.1)
    (lexed rest depth (place_after (place_after at split.gap) split.part) ((i + length split.gap) + length split.part) split.others h.1.1)
