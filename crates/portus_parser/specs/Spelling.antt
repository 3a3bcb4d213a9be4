-- What a text spells.
use Rattle.std.specs.Prelude.{◌≡◌, ℕ, ◌+◌, ◌<◌, ◌≤◌, false, ◌&&◌, IsTrue, Ok, List, [], ◌∷◌, ◌++◌, length}
use Rattle.ccp_base.specs.Limits.{most_lists, most_text_bytes}
use Rattle.ccp_base.specs.declared.place.Place.{Place}
use Rattle.portus_core.specs.Trees.{Node, number, word, list, Nodes, none, more}
use Rattle.portus_lexer.specs.Places.{first_place, place_past_byte, place_after}
use Rattle.portus_lexer.specs.Lexemes.{is_blank, is_atom, ends_atom, ended}
use Rattle.portus_parser.specs.Atoms.{atom_of}

-- bytes are a blank text, a part and what follows it
pub record Split (bytes : List ℕ) : Type 0 where
  pub gap : List ℕ
  pub part : List ℕ
  pub others : List ℕ
  pub whole : bytes ≡ gap ++ (part ++ others)
  pub blank : IsTrue (is_blank false gap)

-- inside a list an atom spells this node, with the place at which it stands
pub record SpellsAtom (depth : ℕ) (at : Place) (part others : List ℕ) (node : Node) : Type 0 where
  pub inside : 0 < depth
  pub atom : IsTrue (is_atom part && ends_atom others)
  pub spelled : atom_of at part ≡ Ok node

-- the bytes of a list that is inside fewer lists than may be open at once
pub record IsListAround (depth : ℕ) (at : Place) (part inner : List ℕ) (opened : Place) : Type 0 where
  pub nesting : depth < most_lists
  pub brackets : part ≡ 40 ∷ (inner ++ 41 ∷ [])
  pub place : opened ≡ at

abbrev mutual
  -- bytes at a place, inside this many lists, spell a node
  pub SpellsNode : ℕ → Place → List ℕ → List ℕ → Node → Type 0
  SpellsNode depth at part others (number place value) = SpellsAtom depth at part others (number place value)
  SpellsNode depth at part others (word place name) = SpellsAtom depth at part others (word place name)
  SpellsNode depth at part others (list place parts) =
      (inner : List ℕ)
      × (IsListAround depth at part inner place × SpellsParts (depth + 1) (place_past_byte at 40) inner parts)

  -- bytes at a place, inside this many lists, spell the parts of a list
  pub SpellsParts : ℕ → Place → List ℕ → Nodes → Type 0
  SpellsParts depth at bytes none = IsTrue (is_blank false bytes)
  SpellsParts depth at bytes (more node rest) =
      (split : Split bytes)
      × (SpellsNode depth (place_after at split.gap) split.part split.others node
      × SpellsParts depth (place_after (place_after at split.gap) split.part) split.others rest)

-- a text spells these forms; the LF at its end says that a comment ends before a LF or at the text's end
pub record Spells (text : List ℕ) (forms : Nodes) : Type 0 where
  pub short : length text ≤ most_text_bytes
  pub spelled : SpellsParts 0 first_place (ended text) forms
