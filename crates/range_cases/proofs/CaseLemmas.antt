-- Lists of cases of which one is widened, or to which one is appended.
use Rattle.std.proofs.Common.{◌≡◌, ℕ, suc, zero, ◌<◌, inl, inr, List, [], ◌∷◌, ◌++◌, length, set, get_or, arith, subst, sym}
use Rattle.ccp_base.specs.declared.ack.Ack.{Ack}
use Rattle.portus_core.specs.Command.{Going}
use Rattle.range_cases.specs.declared.case.Case.{Case}
use Rattle.range_cases.specs.Cases.{IsCase, IsAmong}

-- a case stands at its place
pub among_set_has : (cases : List Case) (i : ℕ) (case : Case) (ack : Ack) (going : Going) → i < length cases → IsCase case ack going → IsAmong (set cases i case) ack going
among_set_has [] i case ack going within is = absurd (omega arith)
among_set_has (first ∷ rest) zero case ack going within is = inl is
among_set_has (first ∷ rest) (suc i) case ack going within is = inr (among_set_has rest i case ack going (omega arith) is)

-- a case that was widened stands for what it stood for
pub among_set_keeps : (cases : List Case) (i : ℕ) (old case : Case) (ack : Ack) (going : Going) → old ≡ get_or cases i old → (IsCase old ack going → IsCase case ack going) → IsAmong cases ack going → IsAmong (set cases i case) ack going
among_set_keeps [] i old case ack going at wide among = among
among_set_keeps (first ∷ rest) zero old case ack going at wide (inl is) = inl (wide (subst (λ (c : Case). IsCase c ack going) (sym at) is))
among_set_keeps (first ∷ rest) zero old case ack going at wide (inr later) = inr later
among_set_keeps (first ∷ rest) (suc i) old case ack going at wide (inl is) = inl is
among_set_keeps (first ∷ rest) (suc i) old case ack going at wide (inr later) = inr (among_set_keeps rest i old case ack going at wide later)

pub among_append_has : (cases : List Case) (case : Case) (ack : Ack) (going : Going) → IsCase case ack going → IsAmong (cases ++ case ∷ []) ack going
among_append_has [] case ack going is = inl is
among_append_has (first ∷ rest) case ack going is = inr (among_append_has rest case ack going is)

pub among_append_keeps : (cases : List Case) (case : Case) (ack : Ack) (going : Going) → IsAmong cases ack going → IsAmong (cases ++ case ∷ []) ack going
among_append_keeps [] case ack going among = absurd among
among_append_keeps (first ∷ rest) case ack going (inl is) = inl is
among_append_keeps (first ∷ rest) case ack going (inr later) = inr (among_append_keeps rest case ack going later)

pub ruleset puts = (among_set_has, among_set_keeps, among_append_has, among_append_keeps)
