-- Which nodes declare names, and what they declare.
use Rattle.std.specs.Prelude.{◌≡◌, ◌⊎◌, ℕ, ◌-◌, ◌^◌, Bool, true, false, IsTrue, IsFalse, List, [], ◌∷◌, Some, codes, slice_get}
use Rattle.portus_core.specs.declared.program.Decl.{Decl}
use Rattle.portus_core.specs.Trees.{Node, Nodes, number, word, list, none, more}
use Rattle.portus_core.specs.Words.{is_field_name, is_control_name}

-- a declared value, and whether it is a Bool
abbrev pub IsStart : Node → ℕ → Bool → Type 0
IsStart (number at n) value truth = (value ≡ n) × (truth ≡ false)
IsStart (word at w) value truth =
    ((w ≡ codes "true") × (value ≡ 1) × (truth ≡ true))
    ⊎ (((w ≡ codes "false") × (value ≡ 0) × (truth ≡ true))
    ⊎ ((w ≡ codes "+infinity") × (value ≡ 2 ^ 64 - 1) × (truth ≡ false)))
IsStart (list at parts) value truth = ⊥

pub record IsDeclarationOf (volatile : Bool) (w : List ℕ) (value : Node) (decl : Decl) : Type 0 where
  pub named : decl.name ≡ w
  pub kept : decl.volatile ≡ volatile
  pub start : IsStart value decl.start decl.truth

-- a word and a value, or `volatile`, a word and a value
abbrev pub Declares : Node → Decl → Type 0
Declares (list at (more (word word_at w) (more value none))) decl = IsDeclarationOf false w value decl
Declares (list at (more (word head v) (more (word word_at w) (more value none)))) decl =
    (v ≡ codes "volatile") × IsDeclarationOf true w value decl
Declares node decl = ⊥

-- the parts of the group of fields
abbrev pub AreFields : Nodes → List Decl → Type 0
AreFields none [] = Unit {0}
AreFields none (decl ∷ decls) = ⊥
AreFields (more node rest) [] = ⊥
AreFields (more node rest) (decl ∷ decls) = Declares node decl × IsTrue (is_field_name decl.name) × AreFields rest decls

abbrev pub IsGroup : Node → List Decl → Type 0
IsGroup (list at (more (word head w) fields)) decls = (w ≡ codes "Report") × AreFields fields decls
IsGroup node decls = ⊥

pub record IsControlPart (node : Node) (Rest : List Decl → Type 0) (controls : List Decl) : Type 0 where
  pub decl : Decl
  pub others : List Decl
  pub whole : controls ≡ decl ∷ others
  pub declared : Declares node decl
  pub allowed : IsTrue (is_control_name decl.name)
  pub rest : Rest others

pub record IsGroupPart (node : Node) (grouped : Bool) (Rest : Type 0) (fields : List Decl) : Type 0 where
  pub first : IsFalse grouped
  pub group : IsGroup node fields
  pub rest : Rest

-- the parts of `def`, after a group of fields or not: one group at most, and control variables, in their order
abbrev pub AreParts : Nodes → Bool → List Decl → List Decl → Type 0
AreParts none grouped fields controls = (fields ≡ []) × (controls ≡ [])
AreParts (more node rest) grouped fields controls =
    IsGroupPart node grouped (AreParts rest true [] controls) fields
    ⊎ IsControlPart node (AreParts rest grouped fields) controls

-- no name is declared twice
abbrev pub AreDistinct : List Decl → Type 0
AreDistinct decls =
    (i j : ℕ) (d e : Decl) → slice_get decls i ≡ Some d → slice_get decls j ≡ Some e → d.name ≡ e.name → i ≡ j
