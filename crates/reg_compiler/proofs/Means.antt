-- The code that is made of a valid program means the same as the program.
use Rattle.std.proofs.Common.{◌≡◌, refl, sym, ap, ◌∙◌, subst, ℕ, ◌&&◌, nat_le, Bool, true, false, Some, option_map, Result, Ok, Err, List, [], ◌∷◌, length, map, cond}
use Rattle.std.proofs.lemmas.Bool.{and_parts}
use Rattle.std.specs.Prelude.{IsTrue}
use Rattle.ccp_base.specs.declared.place.Place.{Place}
use Rattle.ccp_base.specs.Acknowledgement.{bool_number}
use Rattle.portus_core.specs.declared.env.Env.{Env}
use Rattle.portus_core.specs.declared.env.Mean.TheVariants.{Fault}
use Rattle.portus_core.specs.declared.program.Decl.{Decl}
use Rattle.portus_core.specs.Programs.{Form}
use Rattle.ccp_base.specs.Truth.{is_true}
use Rattle.portus_core.specs.Value.{Cause}
use Rattle.portus_core.specs.Command.{Going}
use Rattle.portus_core.specs.Blocks.{before_blocks, blocks_of}
use Rattle.portus_core.specs.OneAcknowledgement.{reset, reset_of, answered, settled}
use Rattle.portus_core.specs.ValidPrograms.{are_parts, known_of, is_valid}
use Rattle.reg_code.specs.CodeStep.{Kept, Made, Regs, Work, done, failed, stuck, events_of}
use Rattle.reg_code.specs.CodeStep as code
use Rattle.reg_compiler.specs.Simulation.{kept_of, register_start, seen, MeansAlike}
use Rattle.reg_compiler.specs.CompiledCode.{code_of, places_of}
use Rattle.reg_compiler.proofs.WorkRuns.{WorksAs}
use Rattle.reg_compiler.proofs.BlockRuns.{WorksAs-blocks}

reset-starts : (decls : List Decl) (values : List ℕ) → code.reset (map register_start decls) values ≡ reset decls values
reset-starts (decl ∷ decls) (value ∷ values) = ap (λ rest. cond decl.volatile decl.start value ∷ rest) (reset-starts decls values)
reset-starts (decl ∷ decls) [] = refl
reset-starts [] values = refl

kept-reset : (form : Form) (env : Env) → code.reset_of (code_of form) (kept_of env) ≡ kept_of (reset_of form env)
kept-reset form env =
    let with_lists : List ℕ → List ℕ → Kept = λ reports controls. record { reports = reports; controls = controls; cwnd = env.cwnd; rate = env.rate; zero = env.zero } in
    ap (λ reports. with_lists reports (code.reset (map register_start form.controls) env.controls)) (reset-starts form.fields env.fields)
    ∙ ap (with_lists (reset form.fields env.fields)) (reset-starts form.controls env.controls)

-- the outcome of an acknowledgement, and what is kept
abbrev Alike : List Place → Made → Form → Env → Bool → Result Going Cause → Type 0
Alike places made form env room result = (seen places made.outcome ≡ Some (settled form env room result).0) × (made.kept ≡ kept_of (settled form env room result).1)

Alike-answered : (asked room : Bool) (form : Form) (places : List Place) (env : Env)
    → (seen places (code.answered (code_of form) asked room (kept_of env)).0 ≡ Some (answered form asked room env).0)
    × ((code.answered (code_of form) asked room (kept_of env)).1 ≡ kept_of (answered form asked room env).1)
Alike-answered false room form places env = (refl, refl)
Alike-answered true false form places env = (refl, refl)
Alike-answered true true form places env = (refl, kept-reset form env)

truth-number : (b : Bool) → is_true (bool_number b) ≡ b
truth-number true = refl
truth-number false = refl

Alike-settled : (work : Work) (result : Result Going Cause) (form : Form) (places : List Place) (env : Env) (room : Bool) → WorksAs places work result → Alike places (code.settled (code_of form) (kept_of env) room work) form env room result
Alike-settled (done ran regs) (Ok going) form places env room works =
    let asked : is_true regs.send ≡ going.asked = ap is_true works.1 ∙ truth-number going.asked in
    subst (λ (pair : Bool × Kept). (seen places (code.answered (code_of form) pair.0 room pair.1).0 ≡ Some (answered form going.asked room going.env).0)
    × ((code.answered (code_of form) pair.0 room pair.1).1 ≡ kept_of (answered form going.asked room going.env).1))
    (sym (ap (λ (b : Bool). (b, regs.kept)) asked ∙ ap (λ (kept : Kept). (going.asked, kept)) works.0))
    (Alike-answered going.asked room form places going.env)
Alike-settled (done ran regs) (Err cause) form places env room works = absurd works
Alike-settled (failed kind index ran) (Ok going) form places env room works = absurd works
Alike-settled (failed kind index ran) (Err cause) form places env room works =
    (ap (option_map (λ place. Fault kind place)) works.1 ∙ ap (λ kind. Some (Fault kind cause.1)) works.0, refl)
Alike-settled (stuck ran) result form places env room works = absurd works

pub MeansAlike-compiled : (form : Form) → IsTrue (is_valid form) → MeansAlike form (code_of form) (places_of form)
MeansAlike-compiled form valid env ack room is_env =
    Alike-settled (events_of (code_of form).events 0 (code_of form).instrs ack 0 (code.before_events (kept_of env))) (blocks_of form.blocks ack (before_blocks env)) form (places_of form) env room
    (WorksAs-blocks form form.blocks (places_of form) 0 ack 0 (code.before_events (kept_of env)) (before_blocks env)
    (and_parts (nat_le (length form.fields) 64 && nat_le (length form.controls) 64 && nat_le (length form.blocks) 64) (are_parts (known_of form) form.blocks) valid).1
    (record { fields = is_env.fields; controls = is_env.controls }) (refl, refl) refl)
