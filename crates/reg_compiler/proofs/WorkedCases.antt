-- Programs whose code was worked out by hand.
use Rattle.std.specs.Prelude.{◌≡◌, true, Some, None, [], ◌∷◌, refl}
use Rattle.ccp_base.specs.declared.place.Place.{Place}
use Rattle.ccp_base.specs.declared.operation.Op2.TheVariants as source
use Rattle.portus_core.specs.declared.program.Program.{Program}
use Rattle.portus_core.specs.declared.program.Var.TheVariants as var
use Rattle.portus_core.specs.Programs.{Term, truth, name, pair, set, Form}
use Rattle.portus_core.specs.ProgramForm.{form_of}
use Rattle.portus_core.specs.ValidPrograms.{is_valid}
use Rattle.std.specs.Prelude.{IsTrue}
use Rattle.reg_compiler.specs.Needs.{form_need, deep_form}
use Rattle.reg_compiler.specs.Counts.{form_count}

abbrev place : Place
place = record { line = 1; column = 34 }

abbrev a : Term
a = name (var.Control 0)

abbrev plus : Term → Term → Term
plus left right = pair source.Add place left right

abbrev x8 : Term
x8 = plus (plus a a) (plus (plus a a) (plus (plus a a) (plus (plus a a) (plus (plus a a) (plus (plus a a) (plus (plus a a) (plus a a)))))))

abbrev with_cwnd : Term → Form
with_cwnd term = record { fields = []; controls = []; blocks = record { condition = truth true; body = set var.Cwnd term ∷ []; locals = 0 } ∷ [] }

need-8 : form_need (with_cwnd x8) ≡ 8
need-8 = refl

count-8 : form_count (with_cwnd x8) ≡ 17
count-8 = refl

deep-8 : deep_form (with_cwnd x8) ≡ None
deep-8 = refl

deep-9 : deep_form (with_cwnd (plus (plus a a) x8)) ≡ Some place
deep-9 = refl

valid_program : (program : Program) → IsTrue (is_valid (form_of program))
valid_program program = program.valid
