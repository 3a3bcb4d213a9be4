-- Which forms are well scoped, and their program.
use Rattle.std.specs.Prelude.{◌≡◌, ◌≤◌, true, false, List, [], ◌∷◌, length, codes}
use Rattle.ccp_base.specs.Limits.{most_fields, most_controls, most_blocks}
use Rattle.portus_core.specs.declared.program.Decl.{Decl}
use Rattle.portus_core.specs.Programs.{Part, Form}
use Rattle.portus_core.specs.Trees.{Node, Nodes, word, list, none, more}
use Rattle.scope_types.specs.Scope.{Scope}
use Rattle.scope_types.specs.ExpressionRules.{IsTerm}
use Rattle.scope_types.specs.CommandRules.{IsBody}
use Rattle.scope_types.specs.DeclarationRules.{AreParts, AreDistinct}

-- the names that a block begins with
abbrev pub first_names : List Decl → List Decl → Scope
first_names fields controls = record { fields = fields; controls = controls; locals = [] }

pub record IsBlock (names : Scope) (condition : Node) (commands : Nodes) (part : Part) : Type 0 where
  pub is_condition : IsTerm names condition part.condition true
  pub after : Scope
  pub is_body : IsBody names commands part.body after
  pub locals : part.locals ≡ length after.locals

abbrev pub IsWhen : Scope → Node → Part → Type 0
IsWhen names (list at (more (word head w) (more condition commands))) part =
    (w ≡ codes "when") × IsBlock names condition commands part
IsWhen names node part = ⊥

abbrev pub AreBlocks : Scope → Nodes → List Part → Type 0
AreBlocks names none [] = Unit {0}
AreBlocks names none (part ∷ parts) = ⊥
AreBlocks names (more node rest) [] = ⊥
AreBlocks names (more node rest) (part ∷ parts) = IsWhen names node part × AreBlocks names rest parts

-- the parts of `def` and the forms after it, with their declarations and blocks
pub record IsProgram (parts forms : Nodes) (form : Form) : Type 0 where
  pub declared : AreParts parts false form.fields form.controls
  pub fields_distinct : AreDistinct form.fields
  pub controls_distinct : AreDistinct form.controls
  pub few_fields : length form.fields ≤ most_fields
  pub few_controls : length form.controls ≤ most_controls
  pub blocks : AreBlocks (first_names form.fields form.controls) forms form.blocks
  pub few_blocks : length form.blocks ≤ most_blocks

-- a text's forms are well scoped, and this is their program
abbrev pub IsScoped : Nodes → Form → Type 0
IsScoped (more (list at (more (word head w) parts)) forms) form = (w ≡ codes "def") × IsProgram parts forms form
IsScoped nodes form = ⊥
