-- What a case's codes keep within, and that two roles of one number have one program.
use Rattle.std.proofs.Common.{◌≡◌, ℕ, ◌<◌, List, Some, nat_lt, take, get_or, option_map, length, codes, refl, sym, ap, ap₂, ◌∙◌, arith}
use Rattle.std.specs.Option.{ForSome}
use Rattle.std.proofs.lemmas.Bool.{ltb-true}
use Rattle.std.proofs.lemmas.List.{length-map, length-take}
use Rattle.std.proofs.lemmas.Option.{same_Some, cond_some, slice_get_read}
use Rattle.std.specs.List.{position_or_len}
use Rattle.ccp_base.specs.Limits.{most_fields}
use Rattle.ccp_base.specs.declared.look.Look.{Look}
use Rattle.ccp_base.specs.declared.place.Place.{Place}
use Rattle.portus_core.specs.declared.program.Decl.{Decl}
use Rattle.portus_core.specs.ProgramForm.{form_of}
use Rattle.portus_core.specs.Programs.{Form}
use Rattle.reg_code.specs.declared.checked.Checked.{Checked}
use Rattle.reg_code.specs.declared.code.Code.{Code}
use Rattle.reg_compiler.specs.declared.built.Built.{Built}
use Rattle.reg_compiler.specs.Simulation.{register_start, Simulates}
use Rattle.portus_build.specs.Looks.{has_name, declaration_number, look_of}
use Rattle.flow_core.specs.declared.case.Coded.{Coded}
use Rattle.flow_core.specs.Cases.{KeepsWithin, AreOne}
use Rattle.scenario_json.specs.Cases.{coded_of, coded_at}

within : (name : List ℕ) (decls : List Decl) (count : ℕ) → count ≡ length decls → ForSome (declaration_number name decls) (λ n. n < count)
within name decls count is = λ x found.
    let first = take most_fields decls in
    let place = position_or_len (has_name name) first in
    let there = cond_some (nat_lt place (length first)) place x found in
    let below = ltb-true place (length first) there.0 in
    omega (arith, is, below, there.1, length-take most_fields decls)

-- what a program declares, the code that simulates it has as registers
pub looks_within : (form : Form) (code : Code) (places : List Place) → Simulates form code places → KeepsWithin (look_of form) code
looks_within form code places h =
    let fields : length code.reports ≡ length form.fields = ap length h.2.0 ∙ length-map form.fields register_start in
    let controls : length code.controls ≡ length form.controls = ap length h.2.1 ∙ length-map form.controls register_start in (
      within (codes "acked") form.fields (length code.reports) fields,
      within (codes "loss") form.fields (length code.reports) fields,
      within (codes "timeout") form.fields (length code.reports) fields,
      within (codes "rtt") form.fields (length code.reports) fields,
      within (codes "inflight") form.fields (length code.reports) fields,
      within (codes "ecn") form.fields (length code.reports) fields,
      within (codes "cap") form.controls (length code.controls) controls,
      within (codes "mss") form.controls (length code.controls) controls,
    )

abbrev coded_with : ℕ → Look → Checked → Coded
coded_with number look code = record { role = record { number = number; look = look }; code = code }

-- what is made of the program at a number is the program of this number
pub coded_here : (programs : List (ℕ × Built)) (number : ℕ) (one : ℕ × Built) (look : Look) (code : Checked) → number < length programs
    → one ≡ get_or programs number one → look ≡ look_of (form_of one.1.program) → code ≡ one.1.code → coded_at programs number ≡ Some (coded_with number look code)
coded_here programs number one look code below is looked copied =
    ap (option_map (coded_of number)) (slice_get_read programs (length programs) number one refl below is)
    ∙ ap₂ (λ l kept. Some (coded_with number l kept)) (sym looked) (sym copied)

-- two roles of one number have one program
pub one_program : (programs : List (ℕ × Built)) (ss ca : Coded) → coded_at programs ss.role.number ≡ Some ss → coded_at programs ca.role.number ≡ Some ca → AreOne ss ca
one_program programs ss ca is_ss is_ca = λ same.
    let one : ss ≡ ca = same_Some ss ca (sym is_ss ∙ ap (coded_at programs) same ∙ is_ca) in (ap (λ c. c.role.look) one, ap (λ c. c.code.code) one)
