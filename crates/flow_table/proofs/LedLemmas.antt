-- Steps that lead on: the whole leads to what the rest leads to.
use Rattle.std.specs.Prelude.{◌≡◌, List, [], ◌∷◌, ◌++◌, length}
use Rattle.std.proofs.Common.{subst, append-nil, arith}
use Rattle.flow_table.specs.Led.{IsLedTo, AreLedTo}

module _ {X : Type 0} (Next : X → X → Type 0) where
  -- what the present one is led to, the first one is led to
  abbrev pub LeadsOn : X → X → Type 0
  LeadsOn first present = (end : X) → IsLedTo Next present end → IsLedTo Next first end

  pub leads-on : (first present next : X) → LeadsOn first present → Next present next → LeadsOn first next
  leads-on first present next leads step end led = leads end (record { between = next ∷ led.between; steps = (step, led.steps) })

  -- if the rest is led to these, the whole is led to those that are done and these
  abbrev pub LeadOn : List X → List X → List X → Type 0
  LeadOn whole done left = (ends : List X) → AreLedTo Next left ends → AreLedTo Next whole (done ++ ends)

  pub are-led : (whole done left : List X) → LeadOn whole done left → length left ≡ 0 → AreLedTo Next whole done
  are-led whole done [] lead none = subst (AreLedTo Next whole) (append-nil done) (lead [] tt)
  are-led whole done (flow ∷ rest) lead none = absurd (omega (arith, none))
