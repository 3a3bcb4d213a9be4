-- What contracts see of a machine.
use Rattle.std.specs.Prelude.{◌≡◌, ℕ, Bool, true, false, List, [], ◌∷◌, ◌++◌, length, refl}
use Rattle.std.specs.Coded.{Coded, code_by, coded×, coded_ℕ, coded_bool, coded_list}
use Rattle.ccp_base.specs.Acknowledgement.{bool_number}
use Rattle.reg_code.specs.declared.code.Code.{Code}
use Rattle.reg_code.specs.CodeStep.{Kept, IsKeptOf}
use Rattle.slot_pool.specs.Pool.{PoolState, pool_code, unused}
use Rattle.fold_machine.specs.Store.{slot_words}

-- the registers that are kept; whether a program was started, and whether a fault stopped it since; how many
-- instructions the last acknowledgement since the last start ran; the fields of the last report; and the pool of
-- the further slots
pub record MachineState : Type 0 where
  pub kept : Kept
  pub is_started : Bool
  pub is_stopped : Bool
  pub ran : ℕ
  pub report : List ℕ
  pub further : PoolState

-- it is stored as the tuple of its numbers and lists
abbrev pub machine_code : Coded MachineState
machine_code =
    code_by
    (List ℕ × (List ℕ × (ℕ × (ℕ × (ℕ × (Bool × (Bool × (ℕ × (List ℕ × PoolState)))))))))
    (coded× (coded_list coded_ℕ)
    (coded× (coded_list coded_ℕ)
    (coded× coded_ℕ
    (coded× coded_ℕ
    (coded× coded_ℕ
    (coded× coded_bool (coded× coded_bool (coded× coded_ℕ (coded× (coded_list coded_ℕ) pool_code)))))))))
    (λ m. (
      m.kept.reports,
      (
        m.kept.controls,
        (m.kept.cwnd, (m.kept.rate, (m.kept.zero, (m.is_started, (m.is_stopped, (m.ran, (m.report, m.further))))))),
      ),
    ))
    (λ t. record {
      kept = record { reports = t.0; controls = t.1.0; cwnd = t.1.1.0; rate = t.1.1.1.0; zero = t.1.1.1.1.0 };
      is_started = t.1.1.1.1.1.0;
      is_stopped = t.1.1.1.1.1.1.0;
      ran = t.1.1.1.1.1.1.1.0;
      report = t.1.1.1.1.1.1.1.1.0;
      further = t.1.1.1.1.1.1.1.1.1;
    })
    (λ _. refl)

-- the machine as it is made: no program, no report, and no further slot is out
abbrev pub fresh_machine : ℕ → ℕ → ℕ → MachineState
fresh_machine cwnd rate slots = record {
  kept = record { reports = []; controls = []; cwnd = cwnd; rate = rate; zero = 0 };
  is_started = false;
  is_stopped = false;
  ran = 0;
  report = [];
  further = unused slots slot_words;
}

-- a program was started, and its numbers of registers are the code's
pub record Fits (state : MachineState) (code : Code) : Type 0 where
  pub started : state.is_started ≡ true
  pub kept : IsKeptOf code state.kept

-- all that a machine holds besides its further slots, as numbers
abbrev pub machine_numbers : MachineState → List ℕ
machine_numbers state =
    bool_number state.is_started ∷ bool_number state.is_stopped ∷ state.ran ∷ state.kept.cwnd ∷ state.kept.rate
    ∷ state.kept.zero ∷ length state.kept.reports ∷ length state.kept.controls
    ∷ (state.kept.reports ++ (state.kept.controls ++ state.report))
