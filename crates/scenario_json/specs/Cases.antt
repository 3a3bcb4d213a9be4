-- What the cases of a scenario are beside what they say: agents in their initial state and the codes of their
-- programs.
use Rattle.std.specs.Prelude.{◌≡◌, ℕ, ◌+◌, Option, Some, option_map, List, [], ◌∷◌, map, slice_get, ⊤}
use Rattle.portus_core.specs.ProgramForm.{form_of}
use Rattle.reg_compiler.specs.declared.built.Built.{Built}
use Rattle.portus_build.specs.Looks.{look_of}
use Rattle.agent_core.specs.Kinds.{agent_of, kind_of}
use Rattle.flow_core.specs.declared.case.Coded.{Coded}
use Rattle.flow_core.specs.declared.case.Case.{Case}

-- a built program as an agent's role has it: its number, where it keeps what agents read and write, and its code
abbrev pub coded_of : ℕ → ℕ × Built → Coded
coded_of number one = record {
  role = record { number = number; look = look_of (form_of one.1.program) };
  code = one.1.code;
}

-- the program of this number; the programs stand in the order of their numbers
abbrev pub coded_at : List (ℕ × Built) → ℕ → Option Coded
coded_at programs number = option_map (coded_of number) (slice_get programs number)

-- a case's codes are those of its programs, and its agent is in its initial state
pub record IsCoded (programs : List (ℕ × Built)) (case : Case) : Type 0 where
  pub ss : coded_at programs case.ss.role.number ≡ Some case.ss
  pub ca : coded_at programs case.ca.role.number ≡ Some case.ca
  pub opening : case.agent ≡ agent_of (kind_of case.agent) case.link.mss case.ss.role case.ca.role

-- the names of cases, in order
abbrev pub case_names : List Case → List (List ℕ)
case_names cases = map (λ case. case.name) cases

-- the programs have the numbers from this one on, in order
abbrev pub AreNumberedFrom : ℕ → List (ℕ × Built) → Type 0
AreNumberedFrom number [] = ⊤
AreNumberedFrom number (one ∷ rest) = (one.0 ≡ number) × AreNumberedFrom (number + 1) rest
