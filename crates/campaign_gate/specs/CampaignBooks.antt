-- What a campaign makes of a case beside its row: the book after its campaign word, and the acknowledgements on the
-- way.
use Rattle.std.specs.Prelude.{◌≡◌, ℕ, true, List, map}
use Rattle.std.specs.List.{All}
use Rattle.ccp_base.specs.declared.ack.Ack.{Ack}
use Rattle.ccp_base.specs.declared.place.Place.{Place}
use Rattle.portus_core.specs.Programs.{Form}
use Rattle.reg_compiler.specs.Simulation.{Simulates}
use Rattle.link_model.specs.declared.link_case.LinkCase.{LinkCase}
use Rattle.flow_core.specs.declared.book.Book.{Book}
use Rattle.flow_core.specs.declared.case.Case.{Case}
use Rattle.flow_core.specs.Readings.{Flow, over_codes, over_sources}
use Rattle.flow_core.specs.Words.{world, legal}
use Rattle.flow_core.specs.Books.{IsBookOf}
use Rattle.flow_core.specs.Cells.{CellState, flow_at, world_at, IsComplete, StateHoldsForSources}
use Rattle.campaign_core.specs.CampaignWord.{plan_over, plan}

-- a case's flow after its campaign word
abbrev pub planned : Case → CellState
planned case = record { case = case; word = plan case }

-- the book's word is the campaign word of its case, which is legal and complete, and the book has the
-- state after that word, read over the case's codes, and so, for all programs that these simulate, over the programs
pub record IsCampaignBook (book : Book) : Type 0 where
  pub word : book.word ≡ plan book.case
  pub legal : legal (flow_at (planned book.case)) book.case.link book.word ≡ true
  pub complete : IsComplete (planned book.case)
  pub told : IsBookOf (flow_at (planned book.case)) (world_at (planned book.case)) book
  pub lifted : StateHoldsForSources (planned book.case)

-- one book a case, in order
abbrev pub AreCampaignBooks : List Case → List Book → Type 0
AreCampaignBooks cases books = (map (λ (book : Book). book.case) books ≡ cases) × All IsCampaignBook books

-- the acknowledgements of a flow on its campaign word
abbrev pub acks_read : {X : Type 0} → Flow X → LinkCase → ℕ → List Ack
acks_read flow link lag = (world flow link (plan_over flow link lag)).acks

-- the acknowledgements of a case
abbrev pub acks_of_case : Case → List Ack
acks_of_case case = acks_read (over_codes case) case.link case.lag

-- for all programs that the case's codes simulate, the campaign word is the one read over these sources, and so are the
-- acknowledgements on it
pub record HasSourcePlan (case : Case) : Type 0 where
  pub word : (ss ca : Form) (ss_places ca_places : List Place)
      → Simulates ss case.ss.code.code ss_places
      → Simulates ca case.ca.code.code ca_places
      → plan case ≡ plan_over (over_sources case ss ca) case.link case.lag
  pub acks : (ss ca : Form) (ss_places ca_places : List Place)
      → Simulates ss case.ss.code.code ss_places
      → Simulates ca case.ca.code.code ca_places
      → acks_of_case case ≡ acks_read (over_sources case ss ca) case.link case.lag
