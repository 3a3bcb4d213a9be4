-- Small texts with the program or the refusal that their walk gives, worked out by hand.
use Rattle.std.proofs.Common.{◌≡◌, ℕ, refl, [], ◌∷◌, Ok, Err, true, codes}
use Rattle.ccp_base.specs.declared.place.Place.{Place}
use Rattle.portus_core.specs.declared.program.Var.TheVariants as var
use Rattle.portus_core.specs.Programs.{Term, Action, set, truth, Form}
use Rattle.portus_core.specs.Programs as term
use Rattle.portus_core.specs.Trees.{number, word, list, none, more}
use Rattle.scope_types.specs.declared.fault.ScopeFault.TheVariants.{Unknown, Twice, NotWritable, Kind, Misplaced, Micros}
use Rattle.scope_types.specs.ProgramWalk.{source_walk}

abbrev at : ℕ → Place
at column = record { line = 1; column = column }

abbrev one_local : Form
one_local = record { fields = []; controls = []; blocks = record { condition = truth true; body = set (var.Local 0) (term.number 5) ∷ []; locals = 1 } ∷ [] }

-- `(def) (when true (:= Ack.now 1))`: a primitive as a target
refuses_a_primitive : source_walk (more (list (at 1) (more (word (at 2) (codes "def")) none)) (more (list (at 7) (more (word (at 8) (codes "when")) (more (word (at 13) (codes "true")) (more (list (at 18) (more (word (at 19) (codes ":=")) (more (word (at 22) (codes "Ack.now")) (more (number (at 30) 1) none)))) none)))) none)) ≡ Err (NotWritable (at 22))
refuses_a_primitive = refl

-- `(def) (when true (:= Micros 5))`: another value for `Micros` than 0
refuses_a_number_for_micros : source_walk (more (list (at 1) (more (word (at 2) (codes "def")) none)) (more (list (at 7) (more (word (at 8) (codes "when")) (more (word (at 13) (codes "true")) (more (list (at 18) (more (word (at 19) (codes ":=")) (more (word (at 22) (codes "Micros")) (more (number (at 29) 5) none)))) none)))) none)) ≡ Err (Micros (at 29))
refuses_a_number_for_micros = refl

-- `(def) (when true (:= d 5) (:= e (+ d 1)) (fallthrough)) (when (> d 0))`: a local of another body
refuses_a_local_of_another_body : source_walk (more (list (at 1) (more (word (at 2) (codes "def")) none)) (more (list (at 7) (more (word (at 8) (codes "when")) (more (word (at 13) (codes "true")) (more (list (at 18) (more (word (at 19) (codes ":=")) (more (word (at 22) (codes "d")) (more (number (at 24) 5) none)))) (more (list (at 27) (more (word (at 28) (codes ":=")) (more (word (at 31) (codes "e")) (more (list (at 33) (more (word (at 34) (codes "+")) (more (word (at 36) (codes "d")) (more (number (at 38) 1) none)))) none)))) (more (list (at 42) (more (word (at 43) (codes "fallthrough")) none)) none)))))) (more (list (at 57) (more (word (at 58) (codes "when")) (more (list (at 63) (more (word (at 64) (codes ">")) (more (word (at 66) (codes "d")) (more (number (at 68) 0) none)))) none))) none))) ≡ Err (Unknown (at 66))
refuses_a_local_of_another_body = refl

-- `(def (Report (x 100)) (v 200)) (when true (:= Report.x (ewma 11 v)) (report))`: a weight of `ewma` past 10
refuses_a_weight_past_ten : source_walk (more (list (at 1) (more (word (at 2) (codes "def")) (more (list (at 6) (more (word (at 7) (codes "Report")) (more (list (at 14) (more (word (at 15) (codes "x")) (more (number (at 17) 100) none))) none))) (more (list (at 23) (more (word (at 24) (codes "v")) (more (number (at 26) 200) none))) none)))) (more (list (at 32) (more (word (at 33) (codes "when")) (more (word (at 38) (codes "true")) (more (list (at 43) (more (word (at 44) (codes ":=")) (more (word (at 47) (codes "Report.x")) (more (list (at 56) (more (word (at 57) (codes "ewma")) (more (number (at 62) 11) (more (word (at 65) (codes "v")) none)))) none)))) (more (list (at 69) (more (word (at 70) (codes "report")) none)) none))))) none)) ≡ Err (Kind (at 62))
refuses_a_weight_past_ten = refl

-- `(def (Report) (Report))`: a second group of fields
refuses_a_second_group : source_walk (more (list (at 1) (more (word (at 2) (codes "def")) (more (list (at 6) (more (word (at 7) (codes "Report")) none)) (more (list (at 15) (more (word (at 16) (codes "Report")) none)) none)))) none) ≡ Err (Twice (at 16))
refuses_a_second_group = refl

-- `(def) (when true (:= d (if true 1)))`: `if` for a word without a meaning
refuses_if_for_a_new_name : source_walk (more (list (at 1) (more (word (at 2) (codes "def")) none)) (more (list (at 7) (more (word (at 8) (codes "when")) (more (word (at 13) (codes "true")) (more (list (at 18) (more (word (at 19) (codes ":=")) (more (word (at 22) (codes "d")) (more (list (at 24) (more (word (at 25) (codes "if")) (more (word (at 28) (codes "true")) (more (number (at 33) 1) none)))) none)))) none)))) none)) ≡ Err (Unknown (at 22))
refuses_if_for_a_new_name = refl

-- `(def) (when 1)`: a number as a condition
refuses_a_number_as_condition : source_walk (more (list (at 1) (more (word (at 2) (codes "def")) none)) (more (list (at 7) (more (word (at 8) (codes "when")) (more (number (at 13) 1) none))) none)) ≡ Err (Kind (at 13))
refuses_a_number_as_condition = refl

-- `(def (if 1)) (def)`: the first form is looked at before the second
looks_at_the_first_form_first : source_walk (more (list (at 1) (more (word (at 2) (codes "def")) (more (list (at 6) (more (word (at 7) (codes "if")) (more (number (at 10) 1) none))) none))) (more (list (at 14) (more (word (at 15) (codes "def")) none)) none)) ≡ Err (Misplaced (at 7))
looks_at_the_first_form_first = refl

-- `(def) (when true (:= d 5))`: a program with one local
makes_a_local : source_walk (more (list (at 1) (more (word (at 2) (codes "def")) none)) (more (list (at 7) (more (word (at 8) (codes "when")) (more (word (at 13) (codes "true")) (more (list (at 18) (more (word (at 19) (codes ":=")) (more (word (at 22) (codes "d")) (more (number (at 24) 5) none)))) none)))) none)) ≡ Ok one_local
makes_a_local = refl
