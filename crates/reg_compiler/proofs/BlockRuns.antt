-- The events of a program's code do what its blocks do.
use Rattle.std.proofs.Common.{◌≡◌, refl, sym, ap, ◌∙◌, subst, ℕ, ◌+◌, Bool, true, false, Result, Ok, Err, List, [], ◌∷◌, ◌++◌, length, take, drop, map, arith}
use Rattle.std.proofs.lemmas.Bool.{and_parts}
use Rattle.std.proofs.lemmas.List.{map-append}
use Rattle.std.specs.Prelude.{IfOk}
use Rattle.ccp_base.specs.declared.ack.Ack.{Ack}
use Rattle.ccp_base.specs.declared.place.Place.{Place}
use Rattle.ccp_base.specs.Acknowledgement.{bool_number}
use Rattle.portus_core.specs.Programs.{Action, Part, Form}
use Rattle.ccp_base.specs.Truth.{is_true}
use Rattle.portus_core.specs.Value.{Cause}
use Rattle.portus_core.specs.Command.{Going, value_in, run_commands}
use Rattle.portus_core.specs.Blocks.{at_block, after_body, after_condition, blocks_of}
use Rattle.portus_core.specs.ValidPrograms.{KnownNames, is_term, term_is_truth, is_condition, is_body, is_part, are_parts, known_of}
use Rattle.reg_code.specs.declared.code.Event.{Event}
use Rattle.reg_code.specs.declared.code.Implicit.TheVariants.{Flag}
use Rattle.reg_code.specs.declared.code.Instr.{Instr}
use Rattle.reg_code.specs.declared.code.Reg.TheVariants as reg
use Rattle.reg_code.specs.CodeStep.{Kept, Variables, no_variables, Regs, Work, then_run, run, condition_of, instrs_after, at_event, events_of}
use Rattle.reg_code.specs.CodeStep as code
use Rattle.reg_compiler.specs.declared.line.Line.{Line}
use Rattle.reg_compiler.specs.CompiledCode.{instr_of, line_place, event_of, condition_lines, body_lines, lines_of}
use Rattle.reg_compiler.proofs.LineRuns.{run_lines}
use Rattle.reg_compiler.proofs.ExpressionRuns.{Comes-value_lines}
use Rattle.reg_compiler.proofs.BodyShapes.{Fits, Sized, Sized-body}
use Rattle.reg_compiler.proofs.CommandRuns.{regs_of, Reads-regs_of, Comes-body}
use Rattle.reg_compiler.proofs.WorkRuns.{Between, WorksAs, WorksAs-then, drop-lines}

-- a front of the lines, and what follows it
pub take-own : (lines rest : List Line) → take (length lines) (map instr_of (lines ++ rest)) ≡ map instr_of lines
take-own [] rest = refl
take-own (line ∷ lines) rest = ap (λ instrs. line.instr ∷ instrs) (take-own lines rest)

pub drop-own : (lines rest : List Line) → drop (length lines) (map instr_of (lines ++ rest)) ≡ map instr_of rest
drop-own [] rest = refl
drop-own (line ∷ lines) rest = drop-own lines rest

-- an event whose instructions are distinguished
abbrev apart : List Instr → List Instr → List Instr → List Event → ℕ → ℕ → ℕ → Ack → ℕ → Regs → Work
apart condition body rest events index middle after ack ran regs =
    then_run (run condition index ack ran (at_event regs)) (λ ran regs.
    code.after_condition (is_true regs.flag) (run body middle ack) (events_of events after rest ack) ran regs)

events-apart : (part : Part) (rest : List Part) (index : ℕ) (ack : Ack) (ran : ℕ) (regs : Regs)
    → events_of (map event_of (part ∷ rest)) index (map instr_of (lines_of (part ∷ rest))) ack ran regs
    ≡ apart (map instr_of (condition_lines part.condition)) (map instr_of (body_lines part.body)) (map instr_of (lines_of rest)) (map event_of rest)
    index (index + length (condition_lines part.condition)) (index + length (condition_lines part.condition) + length (body_lines part.body)) ack ran regs
events-apart part rest index ack ran regs =
    let condition = condition_lines part.condition in
    let body = body_lines part.body in
    let more = lines_of rest in
    let instrs = map instr_of (condition ++ (body ++ more)) in
    let events = map event_of rest in
    let middle = index + length condition in
    let after = middle + length body in
    let own_rest = drop-own condition (body ++ more) in
    ap (λ front. apart front (code.event_body (event_of part) instrs) (instrs_after (event_of part) instrs) events index middle after ack ran regs) (take-own condition (body ++ more))
    ∙ ap (λ own. apart (map instr_of condition) own (instrs_after (event_of part) instrs) events index middle after ack ran regs) (ap (take (length body)) own_rest ∙ take-own body more)
    ∙ ap (λ others. apart (map instr_of condition) (map instr_of body) others events index middle after ack ran regs) (ap (drop (length body)) own_rest ∙ drop-own body more)

-- registers as an event begins with them
abbrev fresh : Kept → ℕ → Regs
fresh kept send = record { kept = kept; flag = 0; fall = 0; send = send; locals = no_variables; temps = no_variables }

at_event-regs_of : (regs : Regs) (going : Going) → Between regs going → at_event regs ≡ regs_of (at_block going) 0 no_variables
at_event-regs_of regs going between = ap (λ kept. fresh kept regs.send) between.0 ∙ ap (fresh (regs_of going 0 no_variables).kept) between.1

Fits-at_block : (form : Form) (going : Going) → Sized (known_of form) going.env → Fits (known_of form) (at_block going)
Fits-at_block form going sized = record {
  sized = record { fields = sized.fields; controls = sized.controls };
  locals = λ i below. absurd (omega (arith, below));
}

WorksAs-after_body : (falls : Bool) (places : List Place) (rest : ℕ → Regs → Work) (blocks : Going → Result Going Cause) (ran : ℕ) (regs : Regs) (going : Going) → Between regs going → WorksAs places (rest ran regs) (blocks going)
    → WorksAs places (code.after_body (is_true (bool_number falls)) rest ran regs) (after_body falls blocks going)
WorksAs-after_body true places rest blocks ran regs going between follows = follows
WorksAs-after_body false places rest blocks ran regs going between follows = between

WorksAs-after_condition : (held : Bool) (known : KnownNames) (locals : ℕ) (body : List Action) (places more : List Place) (index : ℕ) (rest : ℕ → Regs → Work) (blocks : Going → Result Going Cause) (ack : Ack) (ran : ℕ) (going : Going) (flag : ℕ) (temps : Variables)
    → Fits known going → is_body known locals body ≡ true → drop index places ≡ map line_place (body_lines body) ++ more
    → ((ran : ℕ) (regs : Regs) (after : Going) → Sized known after.env → Between regs after → WorksAs places (rest ran regs) (blocks after))
    → WorksAs places (code.after_condition held (run (map instr_of (body_lines body)) index ack) rest ran (regs_of going flag temps)) (after_condition held body blocks ack going)
WorksAs-after_condition true known locals body places more index rest blocks ack ran going flag temps fits is here follows =
    let comes = Comes-body known locals body ack going flag temps fits is in
    WorksAs-then (body_lines body) more (run_commands body ack going) (λ after. Sized known after.env) (λ after. regs_of after flag comes.temps)
    (λ ran regs. code.after_body (is_true regs.fall) rest ran regs) (λ after. after_body after.falls blocks after)
    places index ack ran (regs_of going flag temps) here comes.ran (Sized-body known body ack going fits)
    (λ ran after sized. WorksAs-after_body after.falls places rest blocks ran (regs_of after flag comes.temps) after (refl, refl)
    (follows ran (regs_of after flag comes.temps) after sized (refl, refl)))
WorksAs-after_condition false known locals body places more index rest blocks ack ran going flag temps fits is here follows =
    follows ran (regs_of going flag temps) going fits.sized (refl, refl)

any-value : {A F : Type 0} (result : Result A F) → IfOk result (λ a. Unit {0})
any-value (Ok a) = tt
any-value (Err fault) = tt

places-apart : (part : Part) (rest : List Part)
    → map line_place (lines_of (part ∷ rest)) ≡ map line_place (condition_lines part.condition) ++ (map line_place (body_lines part.body) ++ map line_place (lines_of rest))
places-apart part rest =
    map-append line_place (condition_lines part.condition) (body_lines part.body ++ lines_of rest)
    ∙ ap (λ places. map line_place (condition_lines part.condition) ++ places) (map-append line_place (body_lines part.body) (lines_of rest))

pub WorksAs-blocks : (form : Form) (parts : List Part) (places : List Place) (index : ℕ) (ack : Ack) (ran : ℕ) (regs : Regs) (going : Going)
    → are_parts (known_of form) parts ≡ true → Sized (known_of form) going.env → Between regs going → drop index places ≡ map line_place (lines_of parts)
    → WorksAs places (events_of (map event_of parts) index (map instr_of (lines_of parts)) ack ran regs) (blocks_of parts ack going)
WorksAs-blocks form [] places index ack ran regs going are sized between here = between
WorksAs-blocks form (part ∷ rest) places index ack ran regs going are sized between here =
    let known = known_of form in
    let condition = condition_lines part.condition in
    let body = body_lines part.body in
    let is = (and_parts (is_part known part) (are_parts known rest) are).0 in
    let block = at_block going in
    let fits = Fits-at_block form going sized in
    let middle = index + length condition in
    let after = middle + length body in
    let body_here : drop middle places ≡ map line_place body ++ map line_place (lines_of rest) =
    drop-lines places (map line_place body ++ map line_place (lines_of rest)) index condition (here ∙ places-apart part rest) in
    let comes = Comes-value_lines known block.env block.locals (reg.Implicit Flag) part.condition 0 ack (regs_of block 0 no_variables) (Reads-regs_of known block 0 no_variables ack fits)
    (and_parts (is_term known part.condition) (term_is_truth known part.condition) (and_parts (is_condition known part.condition) (is_body known part.locals part.body) is).0).0 in
    subst (λ (work : Work). WorksAs places work (blocks_of (part ∷ rest) ack going)) (sym (events-apart part rest index ack ran regs))
    (WorksAs-then condition (map line_place body ++ map line_place (lines_of rest)) (value_in part.condition ack block) (λ held. Unit {0}) (λ held. regs_of block held comes.temps)
    (λ ran regs. code.after_condition (is_true regs.flag) (run (map instr_of body) middle ack) (events_of (map event_of rest) after (map instr_of (lines_of rest)) ack) ran regs)
    (λ held. after_condition (is_true held) part.body (blocks_of rest ack) ack block)
    places index ack ran (at_event regs) (here ∙ places-apart part rest)
    (ap (run_lines condition ack) (at_event-regs_of regs going between) ∙ comes.ran)
    (any-value (value_in part.condition ack block))
    (λ ran held any. WorksAs-after_condition (is_true held) known part.locals part.body places (map line_place (lines_of rest)) middle
    (events_of (map event_of rest) after (map instr_of (lines_of rest)) ack) (blocks_of rest ack) ack ran block held comes.temps fits
    (and_parts (is_condition known part.condition) (is_body known part.locals part.body) is).1 body_here
    (λ ran regs done sized between. WorksAs-blocks form rest places after ack ran regs done (and_parts (is_part known part) (are_parts known rest) are).1 sized between
    (drop-lines places (map line_place (lines_of rest)) middle body body_here))))
