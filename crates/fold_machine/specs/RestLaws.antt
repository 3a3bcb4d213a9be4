-- The numbers of a machine's rest determine the state that they are read from.
use Rattle.std.proofs.Common.{◌≡◌, ℕ, Bool, true, false, List, [], ◌∷◌, ◌++◌, length, drop, slice_index, refl, ap, arith}
use Rattle.ccp_base.specs.Acknowledgement.{bool_number}
use Rattle.fold_machine.specs.MachineState.{MachineState, machine_numbers}

number_of-same : (a b : Bool) → bool_number a ≡ bool_number b → a ≡ b
number_of-same true true same = refl
number_of-same true false same = absurd (omega arith)
number_of-same false true same = absurd (omega arith)
number_of-same false false same = refl

-- lists that are equal together, of which the first are equally long
fronts-same : (a b c d : List ℕ) → length a ≡ length c → a ++ b ≡ c ++ d → (a ≡ c) × (b ≡ d)
fronts-same [] b [] d long same = (refl, same)
fronts-same [] b (y ∷ c) d long same = cc
fronts-same (x ∷ a) b [] d long same = cc
fronts-same (x ∷ a) b (y ∷ c) d long same =
    let first : x ≡ y = cc in
    let rest : (a ≡ c) × (b ≡ d) = fronts-same a b c d (cc) (cc) in
    (λ i. first i ∷ rest.0 i, rest.1)

-- two machines with the same rest differ in their further slots alone
pub same_rest : (a b : MachineState) → machine_numbers a ≡ machine_numbers b → a ≡ record b { further = a.further }
same_rest a b same =
    let at : (n : ℕ) → slice_index (machine_numbers a) n ≡ slice_index (machine_numbers b) n =
    λ n. ap (λ xs. slice_index xs n) same in
    let lists : a.kept.reports ++ (a.kept.controls ++ a.report) ≡ b.kept.reports ++ (b.kept.controls ++ b.report) =
    ap (drop 8) same in
    let reports =
    fronts-same a.kept.reports (a.kept.controls ++ a.report) b.kept.reports (b.kept.controls ++ b.report) (at 6)
    lists in
    let controls = fronts-same a.kept.controls a.report b.kept.controls b.report (at 7) reports.1 in
    λ i. record {
      kept = record { reports = reports.0 i; controls = controls.0 i; cwnd = at 3 i; rate = at 4 i; zero = at 5 i };
      is_started = number_of-same a.is_started b.is_started (at 0) i;
      is_stopped = number_of-same a.is_stopped b.is_stopped (at 1) i;
      ran = at 2 i;
      report = controls.1 i;
      further = a.further;
    }
