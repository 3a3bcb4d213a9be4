-- The run of flows over one link: its history, in which each ask is that of its flow's state after the rounds before.
use Rattle.std.specs.Prelude.{ℕ, zero, suc, ◌-◌, Bool, true, ◌&&◌, nat_le, if◌then◌else◌}
use Rattle.std.specs.Prelude.{List, [], ◌∷◌, ◌++◌, length, map}
use Rattle.ccp_base.specs.declared.ack.Ack.{Ack}
use Rattle.flow_core.specs.declared.case.Case.{Case}
use Rattle.flow_core.specs.Cores.{CoreState}
use Rattle.campaign_core.specs.declared.row.Row.{Row}
use Rattle.campaign_core.specs.CampaignRow.{window_of}
use Rattle.campaign_core.specs.FlowRow.{CaseReading, world_of_core, opened, flow_row}
use Rattle.shared_run.specs.RoundLetters.{round_part, closed_flow}
use Rattle.shared_link.specs.declared.round.Ask.{Ask}
use Rattle.shared_link.specs.declared.round.Counts.{Counts}
use Rattle.shared_link.specs.declared.shared_case.SharedCase.{SharedCase}
use Rattle.shared_link.specs.SharedRounds.{acks_after, counts_of}

-- a run so far: its rounds, each with its asks, and its flows
pub record Progress : Type 0 where
  pub history : List (List Ask)
  pub flows : List CoreState

abbrev pub progress : List (List Ask) → List CoreState → Progress
progress history flows = record { history = history; flows = flows }

-- ---- a round

-- what a flow asks the link for: its window, and for how many acknowledgements
abbrev pub ask_of : {X : Type 0} → CaseReading X → CoreState → Ask
ask_of read core = record {
  window = window_of (read core.case) (world_of_core read core);
  left = core.case.acks - length core.acks;
}

abbrev pub asks_of : {X : Type 0} → CaseReading X → List CoreState → List Ask
asks_of read flows = map (ask_of read) flows

-- each flow's part of a round, in which the flows have these acknowledgements
abbrev pub parts : {X : Type 0} → CaseReading X → List (List Ack) → List CoreState → List CoreState
parts read [] flows = flows
parts read (acks ∷ others) [] = []
parts read (acks ∷ others) (core ∷ rest) = round_part read acks core ∷ parts read others rest

-- the run after one more round with these asks
abbrev pub after_asks : {X : Type 0} → SharedCase → CaseReading X → List Ask → Progress → Progress
after_asks link read asks run =
    progress (run.history ++ asks ∷ []) (parts read (acks_after link run.history asks) run.flows)

abbrev pub after_round : {X : Type 0} → SharedCase → CaseReading X → Progress → Progress
after_round link read run = after_asks link read (asks_of read run.flows) run

-- ---- the run

-- all flows have all acknowledgements
abbrev pub have_all : List CoreState → Bool
have_all [] = true
have_all (core ∷ rest) = nat_le core.case.acks (length core.acks) && have_all rest

-- the run ends if all flows have all acknowledgements, and else it goes on
abbrev pub ends_or : (Progress → Progress) → Progress → Progress
ends_or rest run = if have_all run.flows then run else rest run

-- rounds until all flows have all acknowledgements, at most this many
abbrev pub rounds_from : {X : Type 0} → SharedCase → CaseReading X → ℕ → Progress → Progress
rounds_from link read zero run = run
rounds_from link read (suc more) run = ends_or (rounds_from link read more) (after_round link read run)

-- without flows no round is run
abbrev pub round_limit : List Case → ℕ → ℕ
round_limit [] rounds = 0
round_limit (case ∷ rest) rounds = rounds

-- the run of cases over a link, of at most `rounds` rounds
abbrev pub whole_run : {X : Type 0} → SharedCase → CaseReading X → List Case → ℕ → Progress
whole_run link read cases rounds = rounds_from link read (round_limit cases rounds) (progress [] (map opened cases))

-- ---- what comes of it

-- the flows at the end, with their acknowledgements and words
abbrev pub flows_at_end : {X : Type 0} → SharedCase → CaseReading X → List Case → ℕ → List CoreState
flows_at_end link read cases rounds = map (closed_flow read) (whole_run link read cases rounds).flows

-- the rows of the flows, in their order
abbrev pub shared_rows : {X : Type 0} → SharedCase → CaseReading X → List Case → ℕ → List Row
shared_rows link read cases rounds = map (flow_row read) (flows_at_end link read cases rounds)

-- the link's packets
abbrev pub shared_counts : {X : Type 0} → SharedCase → CaseReading X → List Case → ℕ → Counts
shared_counts link read cases rounds = counts_of link (whole_run link read cases rounds).history
