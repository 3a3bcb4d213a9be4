-- The text of acknowledgements: for each case the line of its flow, and then a line for each acknowledgement, which is
-- one of `fold`.
use Rattle.std.specs.Prelude.{ℕ, ◌+◌, ◌==◌, ◌||◌, nat_lt, Bool, true, false, if◌then◌else◌, List, [], ◌∷◌, map, codes, decimal}
use Rattle.ccp_base.specs.declared.ack.Ack.{Ack}
use Rattle.ccp_base.specs.Acknowledgement.{prim}
use Rattle.ccp_base.specs.PrimitiveNames.{PrimitiveName, primitive_names}
use Rattle.ccp_base.specs.Text.{◌⧺◌}
use Rattle.agent_core.specs.declared.agent.Agent.{Agent}
use Rattle.flow_core.specs.LiveText.{agent_text}
use Rattle.live_lines.specs.FlowLabels.{labelled_line, own}

-- ---- an acknowledgement

-- the number of `now` among the primitives
abbrev pub now_number : ℕ
now_number = 7

-- a primitive is shown if its value isn't 0, and `now` always
abbrev pub is_shown : ℕ → ℕ → Bool
is_shown number value = (number == now_number) || nat_lt 0 value

-- the blank before an item that follows another
abbrev pub gap : Bool → List ℕ
gap true = codes " "
gap false = []

-- the item of a primitive with this number, name and value, if it is shown
abbrev pub item_text : Bool → ℕ → List ℕ → ℕ → List ℕ
item_text follows number name value =
    if is_shown number value then gap follows ⧺ name ⧺ codes "=" ⧺ decimal value else []

-- the items of the primitives with these names, numbered from this one on
abbrev pub items_text : Bool → ℕ → List PrimitiveName → Ack → List ℕ
items_text follows number [] ack = []
items_text follows number (known ∷ rest) ack =
    item_text follows number known.1 (prim number ack)
    ⧺ items_text (follows || is_shown number (prim number ack)) (number + 1) rest ack

-- all that are shown, in the order of their numbers
abbrev pub ack_line : Ack → List ℕ
ack_line ack = items_text false 0 primitive_names ack ⧺ codes "\n"

abbrev pub ack_lines : List Ack → List ℕ
ack_lines [] = []
ack_lines (ack ∷ rest) = ack_line ack ⧺ ack_lines rest

-- ---- flows

-- a flow's line, with this word for its agent, and those of its acknowledgements
abbrev pub flow_text : ℕ → List ℕ → List ℕ → List Ack → List ℕ
flow_text flow name label acks = labelled_line flow name label ⧺ ack_lines acks

-- the flows, numbered from this one on, each with its case's name and the word for its agent
abbrev pub flows_text : ℕ → List (List ℕ) → List (List ℕ) → List (List Ack) → List ℕ
flows_text flow names labels [] = []
flows_text flow [] labels (acks ∷ rest) = []
flows_text flow (name ∷ names) [] (acks ∷ rest) = []
flows_text flow (name ∷ names) (label ∷ labels) (acks ∷ rest) =
    flow_text flow name label acks ⧺ flows_text (flow + 1) names labels rest

abbrev pub acks_text : List (List ℕ) → List Agent → List (List Ack) → List ℕ
acks_text names agents acks = flows_text 0 names (map agent_text agents) acks

-- a flow that an agent outside drives, and all of them
abbrev pub own_flow_text : ℕ → List ℕ → List Ack → List ℕ
own_flow_text flow name acks = flow_text flow name own acks

abbrev pub own_acks_text : List (List ℕ) → List (List Ack) → List ℕ
own_acks_text names acks = flows_text 0 names (map (λ acks. own) acks) acks
