-- A flow with its link: its case and its word.
use Rattle.std.specs.Prelude.{◌≡◌, ℕ, ◌≤◌, Option, option_map, List, [], ◌∷◌, ◌++◌, true, length}
use Rattle.ccp_base.specs.declared.ack.Ack.{Ack}
use Rattle.ccp_base.specs.declared.place.Place.{Place}
use Rattle.portus_core.specs.Programs.{Form}
use Rattle.reg_compiler.specs.Simulation.{Simulates}
use Rattle.agent_core.specs.declared.ticket.Ticket.{Ticket}
use Rattle.link_model.specs.Link.{ack_after, acks_for_windows}
use Rattle.link_model.specs.Standing.{LinkState, Stands}
use Rattle.fold_machine.specs.declared.acked.Acked.{Acked}
use Rattle.flow_core.specs.declared.case.Case.{Case}
use Rattle.flow_core.specs.declared.letter.Letter.{Letter}
use Rattle.flow_core.specs.Readings.{Flow, over_codes, over_sources}
use Rattle.flow_core.specs.World.{World, track_of, after_ack}
use Rattle.flow_core.specs.Words.{world, is_complete}
use Rattle.flow_core.specs.WordLaws.{acks_in}
use Rattle.flow_core.specs.Lift.{place_in, map_world}
use Rattle.flow_core.specs.Books.{out_ticket}
use Rattle.flow_core.specs.Cores.{CoreState, world_in, met_in, acked_as, ran_met}
use Rattle.flow_core.specs.Summaries.{summary}
use Rattle.flow_core.specs.Bares.{BareState}

pub record CellState : Type 0 where
  pub case : Case
  pub word : List Letter

-- the flow with one letter more
abbrev pub with_letter : Letter → CellState → CellState
with_letter letter cell = record cell { word = cell.word ++ letter ∷ [] }

-- the flow, read over the codes of its case
abbrev pub flow_at : CellState → Flow ℕ
flow_at cell = over_codes cell.case

-- the flow's state after its word, with the acknowledgements of its link
abbrev pub world_at : CellState → World ℕ
world_at cell = world (flow_at cell) cell.case.link cell.word

-- what later letters depend on
abbrev pub bare_at : CellState → BareState
bare_at cell = record { case = cell.case; summary = summary (flow_at cell) (world_at cell) }

-- the link's next acknowledgement: for the windows so far and the present `Cwnd`
abbrev pub ack_at : CellState → Ack
ack_at cell = ack_after cell.case.link (world_at cell).windows (track_of (flow_at cell) (world_at cell)).env.cwnd

-- the flow's state after it
abbrev pub heard_at : CellState → World ℕ
heard_at cell = after_ack (flow_at cell) (ack_at cell) (world_at cell)

-- the answer to it
abbrev pub acked_at : CellState → Acked
acked_at cell = acked_as (met_in (flow_at cell) (world_at cell) (ack_at cell)).0

-- how many instructions it runs
abbrev pub ran_at : CellState → ℕ
ran_at cell = ran_met cell.case (world_at cell) (ack_at cell)

-- the ticket that is out, or none
abbrev pub out_at : CellState → Option Ticket
out_at cell = out_ticket (flow_at cell) (world_at cell)

abbrev pub out_number_at : CellState → Option ℕ
out_number_at cell = option_map (λ (ticket : Ticket). ticket.number) (out_at cell)

-- all acknowledgements are in, nothing can be taken and no ticket is out
abbrev pub IsComplete : CellState → Type 0
IsComplete cell = is_complete (flow_at cell) (world_at cell) ≡ true

-- for all programs that the codes simulate, the state is the one over these sources: each fault's instruction stands
-- for its place
abbrev pub StateHoldsForSources : CellState → Type 0
StateHoldsForSources cell =
    (ss ca : Form) (ss_places ca_places : List Place)
    → Simulates ss cell.case.ss.code.code ss_places
    → Simulates ca cell.case.ca.code.code ca_places
    → map_world (place_in cell.case ss_places ca_places) (world_at cell)
    ≡ world (over_sources cell.case ss ca) cell.case.link cell.word

-- the acknowledgements are the link's, and the link stands for the windows
pub record IsCell (core : CoreState) (link : LinkState) : Type 0 where
  pub case : link.case ≡ core.case.link
  pub all : acks_in core.word ≡ length core.acks
  pub acks : core.acks ≡ acks_for_windows core.case.link (world_in core).windows
  pub stands : Stands link (world_in core).windows
  pub calls : link.standing.calls ≡ length core.acks
  pub within : length core.acks ≤ core.case.acks
