-- No walk runs out of memory: each refusal is that of a rule.
use Rattle.std.proofs.Common.{◌≡◌, ℕ, ◌==◌, Bool, true, false, not, ◌&&◌, ◌||◌, List, [], ◌∷◌, ◌++◌, length, Option, Some, None, is_some, Result, Ok, Err, IfErr, nat_lt, nat_le, bytes_eq, codes, subst, if◌then◌else◌}
use Rattle.std.specs.Prelude.{◌^◌}
use Rattle.ccp_base.specs.Outside.{no_memory}
use Rattle.ccp_base.specs.declared.place.Place.{Place}
use Rattle.ccp_base.specs.declared.operation.Op2.{Op2}
use Rattle.portus_core.specs.declared.program.Var.{Var}
use Rattle.portus_core.specs.declared.program.Var.TheVariants as var
use Rattle.portus_core.specs.Programs.{Term, Action, Part, Form}
use Rattle.portus_core.specs.Trees.{Node, Nodes, number, word, list, none, more}
use Rattle.scope_types.specs.declared.declaration.Start.{Start}
use Rattle.scope_types.specs.declared.declaration.Declaration.{Declaration}
use Rattle.scope_types.specs.declared.fault.ScopeFault.{ScopeFault}
use Rattle.scope_types.specs.declared.fault.ScopeFault.TheVariants.{NoMemory}
use Rattle.scope_types.specs.declared.target.Target.{Target}
use Rattle.scope_types.specs.declared.target.Target.TheVariants.{Known, Fresh}
use Rattle.scope_types.specs.Names.{meaning_of, decl_from}
use Rattle.scope_types.specs.Scope.{Scope}
use Rattle.scope_types.specs.Cuts.{node_place}
use Rattle.scope_types.specs.WalkResults.{and_then}
use Rattle.portus_core.specs.Words.{variable_of, is_reserved, is_field_use, is_primitive_use, is_field_name, is_control_name}
use Rattle.ccp_base.specs.Operations.{operator_of}
use Rattle.scope_types.specs.ValueWords.{constant_of}
use Rattle.scope_types.specs.ExpressionWalk.{or_refused, name_walk, variable_walk, word_walk, pair_walk, expression_walk}
use Rattle.scope_types.specs.CommandWalk as cmd
use Rattle.scope_types.specs.DeclarationWalk as decl
use Rattle.scope_types.specs.ProgramWalk as program

-- a refusal by a rule of the language
abbrev IsRule : ScopeFault → Type 0
IsRule (NoMemory _) = ⊥
IsRule _ = Unit {0}

-- a walk is refused by rules alone
abbrev ByRule : {A : Type 0} → Result A ScopeFault → Type 0
ByRule r = IfErr r IsRule

if_rule : {A : Type 0} (b : Bool) (r s : Result A ScopeFault) → ByRule r → ByRule s → ByRule (if b then r else s)
if_rule true r s f g = f
if_rule false r s f g = g

then_rule : {A B : Type 0} (r : Result A ScopeFault) (walk : A → Result B ScopeFault) → ByRule r → ((a : A) → ByRule (walk a)) → ByRule (and_then r walk)
then_rule (Ok a) walk p f = f a
then_rule (Err e) walk p f = p

-- expressions

or_rule : {A : Type 0} (a : Option A) (e : ScopeFault) → IsRule e → ByRule (or_refused a e)
or_rule (Some a) e h = tt
or_rule None e h = h

name_rule : (r : Result Var ScopeFault) → ByRule r → ByRule (name_walk r)
name_rule (Ok v) h = tt
name_rule (Err e) h = h

variable_rule : (names : Scope) (at : Place) (w : List ℕ) (v : Option Var) → ByRule (variable_walk names at w v)
variable_rule names at w (Some v) = tt
variable_rule names at w None = if_rule (is_reserved w) _ _ tt (or_rule (meaning_of names w) _ tt)

word_rule : (names : Scope) (at : Place) (w : List ℕ) (t : Option Term) → ByRule (word_walk names at w t)
word_rule names at w (Some t) = tt
word_rule names at w None = name_rule (variable_walk names at w (variable_of w)) (variable_rule names at w (variable_of w))

pair_rule : (at head : Place) (o : Option Op2) (left right : Result Term ScopeFault) → ByRule left → ByRule right → ByRule (pair_walk at head o left right)
pair_rule at head None left right h k = tt
pair_rule at head (Some o) (Err e) right h k = h
pair_rule at head (Some o) (Ok a) (Err e) h k = k
pair_rule at head (Some o) (Ok a) (Ok b) h k = tt

expression_rule : (names : Scope) (node : Node) → ByRule (expression_walk names node)
expression_rule names (number at n) = if_rule (nat_lt n (2 ^ 64)) _ _ tt tt
expression_rule names (word at w) = word_rule names at w (constant_of w)
expression_rule names (list at (more (word head w) (more left (more right none)))) =
    pair_rule at head (operator_of w) (expression_walk names left) (expression_walk names right)
    (expression_rule names left) (expression_rule names right)
expression_rule names (list at parts) = tt

-- commands

named_target_rule : (at : Place) (w : List ℕ) (v : Option Var) → ByRule (cmd.named_target_walk at w v)
named_target_rule at w (Some (var.Prim n)) = tt
named_target_rule at w (Some v) = tt
named_target_rule at w None = if_rule (is_field_use w || is_primitive_use w) _ _ tt tt

word_target_rule : (names : Scope) (at : Place) (w : List ℕ) (v : Option Var) → ByRule (cmd.word_target_walk names at w v)
word_target_rule names at w (Some v) = tt
word_target_rule names at w None = if_rule (is_reserved w) _ _ tt (named_target_rule at w (meaning_of names w))

target_rule : (names : Scope) (node : Node) → ByRule (cmd.target_walk names node)
target_rule names (word at w) = word_target_rule names at w (variable_of w)
target_rule names (number at n) = tt
target_rule names (list at parts) = tt

micros_rule : (names : Scope) (node : Node) → ByRule (cmd.micros_walk names node)
micros_rule names (number at n) = if_rule (n == 0) _ _ tt tt
micros_rule names (word at w) = tt
micros_rule names (list at parts) = tt

known_rule : (target : Target) → ByRule (cmd.known_variable_walk target)
known_rule (Known at v) = tt
known_rule (Fresh at w) = tt

kind_rule : (names : Scope) (wanted : Bool) (at : Place) (t : Term) → ByRule (cmd.kind_walk names wanted at t)
kind_rule names wanted at t = if_rule (wanted && not (cmd.is_bool names t)) _ _ tt tt

choice_rule : (names : Scope) (target : Target) (when_true : Bool) (value_at head : Place) (parts : Nodes) → ByRule (cmd.choice_walk names target when_true value_at head parts)
choice_rule names target when_true value_at head (more condition (more value none)) =
    then_rule (cmd.known_variable_walk target) _ (known_rule target) (λ v.
    then_rule (expression_walk names condition) _ (expression_rule names condition) (λ c.
    then_rule (expression_walk names value) _ (expression_rule names value) (λ e.
    then_rule (cmd.kind_walk names true (node_place condition) c) _ (kind_rule names true (node_place condition) c) (λ c2.
    then_rule (cmd.kind_walk names (cmd.wants_bool names v) (node_place value) e) _ (kind_rule names (cmd.wants_bool names v) (node_place value) e) (λ e2. tt)))))
choice_rule names target when_true value_at head parts = tt

weight_rule : (node : Node) → ByRule (cmd.weight_walk node)
weight_rule (number at n) = if_rule (nat_le n 10) _ _ tt tt
weight_rule (word at w) = tt
weight_rule (list at parts) = tt

number_rule : (names : Scope) (target : Target) → ByRule (cmd.number_walk names target)
number_rule names (Known at v) = if_rule (cmd.wants_bool names v) _ _ tt tt
number_rule names (Fresh at w) = tt

ewma_rule : (names : Scope) (target : Target) (value_at head : Place) (parts : Nodes) → ByRule (cmd.ewma_walk names target value_at head parts)
ewma_rule names target value_at head (more weight (more value none)) =
    then_rule (cmd.number_walk names target) _ (number_rule names target) (λ v.
    then_rule (cmd.weight_walk weight) _ (weight_rule weight) (λ w.
    then_rule (expression_walk names value) _ (expression_rule names value) (λ e. tt)))
ewma_rule names target value_at head parts = tt

set_rule : (names : Scope) (target : Target) (value_at : Place) (t : Term) → ByRule (cmd.set_walk names target value_at t)
set_rule names (Known at v) value_at t =
    then_rule (cmd.kind_walk names (cmd.wants_bool names v) value_at t) _ (kind_rule names (cmd.wants_bool names v) value_at t) (λ e. tt)
set_rule names (Fresh at w) value_at t = if_rule (nat_le 8 (length names.locals)) _ _ tt tt

plain_rule : (names : Scope) (target : Target) (node : Node) → ByRule (cmd.plain_assignment_walk names target node)
plain_rule names target node =
    then_rule (expression_walk names node) _ (expression_rule names node) (λ t. set_rule names target (node_place node) t)

value_rule : (names : Scope) (target : Target) (node : Node) → ByRule (cmd.value_walk names target node)
value_rule names target (list value_at (more (word head w) parts)) =
    if_rule (bytes_eq w (codes "if")) _ _ (choice_rule names target true value_at head parts)
    (if_rule (bytes_eq w (codes "!if")) _ _ (choice_rule names target false value_at head parts)
    (if_rule (bytes_eq w (codes "ewma")) _ _ (ewma_rule names target value_at head parts)
    (plain_rule names target (list value_at (more (word head w) parts)))))
value_rule names target node = plain_rule names target node

assigned_rule : (names : Scope) (target : Target) (value : Node) → ByRule (cmd.assigned_walk names target value)
assigned_rule names (Known at var.Micros) value = micros_rule names value
assigned_rule names target value = value_rule names target value

assignment_rule : (names : Scope) (target value : Node) → ByRule (cmd.assignment_walk names target value)
assignment_rule names target value =
    then_rule (cmd.target_walk names target) _ (target_rule names target) (λ found. assigned_rule names found value)

command_rule : (names : Scope) (node : Node) → ByRule (cmd.command_walk names node)
command_rule names (list at (more (word head w) none)) =
    if_rule (bytes_eq w (codes "report")) _ _ tt (if_rule (bytes_eq w (codes "fallthrough")) _ _ tt tt)
command_rule names (list at (more (word head w) (more target (more value none)))) =
    if_rule (bytes_eq w (codes ":=") || bytes_eq w (codes "bind")) _ _ (assignment_rule names target value) tt
command_rule names node = tt

body_rule : (names : Scope) (done : List Action) (nodes : Nodes) → ByRule (cmd.body_walk names done nodes)
body_rule names done none = tt
body_rule names done (more node rest) =
    then_rule (cmd.command_walk names node) _ (command_rule names node) (λ step. body_rule step.1 (done ++ step.0 ∷ []) rest)

-- declarations

declares_rule : (at : Place) (volatile : Bool) (word_at : Place) (w : List ℕ) (start : Option Start) → ByRule (decl.declares at volatile word_at w start)
declares_rule at volatile word_at w None = tt
declares_rule at volatile word_at w (Some start) = tt

declaration_rule : (node : Node) → ByRule (decl.declaration_walk node)
declaration_rule (list at (more (word word_at w) (more value none))) = declares_rule at false word_at w (decl.declared_start value)
declaration_rule (list at (more (word head v) (more (word word_at w) (more value none)))) =
    if_rule (bytes_eq v (codes "volatile")) _ _ (declares_rule at true word_at w (decl.declared_start value)) tt
declaration_rule node = tt

field_rule : (names : Scope) (d : Declaration) → ByRule (decl.field_walk names d)
field_rule names d =
    if_rule (not (is_field_name d.decl.name)) _ _ tt
    (if_rule (is_some (decl_from 0 names.fields d.decl.name)) _ _ tt
    (if_rule (nat_le 64 (length names.fields)) _ _ tt tt))

control_rule : (names : Scope) (d : Declaration) → ByRule (decl.control_walk names d)
control_rule names d =
    if_rule (not (is_control_name d.decl.name)) _ _ tt
    (if_rule (is_some (decl_from 0 names.controls d.decl.name)) _ _ tt
    (if_rule (nat_le 64 (length names.controls)) _ _ tt tt))

fields_rule : (names : Scope) (nodes : Nodes) → ByRule (decl.fields_walk names nodes)
fields_rule names none = tt
fields_rule names (more node rest) =
    then_rule (decl.declaration_walk node) _ (declaration_rule node) (λ d.
    then_rule (decl.field_walk names d) _ (field_rule names d) (λ after. fields_rule after rest))

group_rule : (declared : decl.Declaring) (head : Place) (fields : Nodes) → ByRule (decl.group_walk declared head fields)
group_rule declared head fields =
    if_rule declared.grouped _ _ tt
    (then_rule (decl.fields_walk declared.names fields) _ (fields_rule declared.names fields) (λ names. tt))

control_part_rule : (declared : decl.Declaring) (node : Node) → ByRule (decl.control_part_walk declared node)
control_part_rule declared node =
    then_rule (decl.declaration_walk node) _ (declaration_rule node) (λ d.
    then_rule (decl.control_walk declared.names d) _ (control_rule declared.names d) (λ names. tt))

part_rule : (declared : decl.Declaring) (node : Node) → ByRule (decl.part_walk declared node)
part_rule declared (list at (more (word head w) fields)) =
    if_rule (bytes_eq w (codes "Report")) _ _ (group_rule declared head fields)
    (control_part_rule declared (list at (more (word head w) fields)))
part_rule declared node = control_part_rule declared node

parts_rule : (declared : decl.Declaring) (nodes : Nodes) → ByRule (decl.parts_walk declared nodes)
parts_rule declared none = tt
parts_rule declared (more node rest) =
    then_rule (decl.part_walk declared node) _ (part_rule declared node) (λ after. parts_rule after rest)

-- programs

condition_rule : (names : Scope) (node : Node) → ByRule (program.condition_walk names node)
condition_rule names node =
    then_rule (expression_walk names node) _ (expression_rule names node) (λ t. kind_rule names true (node_place node) t)

inner_rule : (names : Scope) (condition : Node) (commands : Nodes) → ByRule (program.inner_walk names condition commands)
inner_rule names condition commands =
    then_rule (program.condition_walk names condition) _ (condition_rule names condition) (λ c.
    then_rule (cmd.body_walk names [] commands) _ (body_rule names [] commands) (λ body. tt))

block_rule : (names : Scope) (at : Place) (nodes : Nodes) → ByRule (program.block_walk names at nodes)
block_rule names at none = tt
block_rule names at (more condition commands) = inner_rule (program.without_locals names) condition commands

form_rule : (names : Scope) (count : ℕ) (node : Node) → ByRule (program.form_walk names count node)
form_rule names count (list at (more (word head w) parts)) =
    if_rule (not (bytes_eq w (codes "when"))) _ _ tt (if_rule (nat_le 64 count) _ _ tt (block_rule names at parts))
form_rule names count node = tt

blocks_rule : (names : Scope) (done : List Part) (nodes : Nodes) → ByRule (program.blocks_walk names done nodes)
blocks_rule names done none = tt
blocks_rule names done (more node rest) =
    then_rule (program.form_walk names (length done) node) _ (form_rule names (length done) node)
    (λ block. blocks_rule block.1 (done ++ block.0 ∷ []) rest)

def_rule : (node : Node) → ByRule (program.def_walk node)
def_rule (list at (more (word head w) parts)) =
    if_rule (bytes_eq w (codes "def")) _ _
    (then_rule (decl.parts_walk program.nothing_declared parts) _ (parts_rule program.nothing_declared parts) (λ declared. tt)) tt
def_rule node = tt

source_rule : (nodes : Nodes) → ByRule (program.source_walk nodes)
source_rule none = tt
source_rule (more first rest) =
    then_rule (program.def_walk first) _ (def_rule first) (λ names.
    then_rule (program.blocks_walk names [] rest) _ (blocks_rule names [] rest) (λ body. tt))

-- the walk over forms doesn't run out of memory
pub never_memory : (nodes : Nodes) → program.source_walk nodes ≡ Err (NoMemory no_memory) → ⊥
never_memory nodes e = subst (λ (r : Result Form ScopeFault). ByRule r) e (source_rule nodes)
