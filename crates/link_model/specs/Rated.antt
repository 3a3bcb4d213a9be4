-- An acknowledgement without its two rates: what a flow gets whose programs read neither.
use Rattle.std.specs.Prelude.{◌≡◌, ℕ, Bool, true, false, List}
use Rattle.ccp_base.specs.declared.ack.Ack.{Ack}
use Rattle.link_model.specs.Link.{ack_after}
use Rattle.link_model.specs.Standing.{LinkState, Stands}

-- an acknowledgement whose two rates are 0
abbrev pub without_rates : Ack → Ack
without_rates ack = record ack { rate_incoming = 0; rate_outgoing = 0 }

-- an acknowledgement for a reader: whoever reads no rate gets it without them
abbrev pub rated : Bool → Ack → Ack
rated true ack = ack
rated false ack = without_rates ack

-- the acknowledgement answers this window, with its rates or without, whatever list of windows the link stands for
abbrev pub IsRatedAnswer : Bool → LinkState → ℕ → Ack → Type 0
IsRatedAnswer rates link window ack =
    (windows : List ℕ) → Stands link windows → ack ≡ rated rates (ack_after link.case windows window)
