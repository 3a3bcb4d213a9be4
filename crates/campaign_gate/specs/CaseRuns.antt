-- The run of a case: its flow and its link on the way along the campaign word.
use Rattle.std.specs.Prelude.{◌≡◌, ◌+◌, ◌-◌, ◌<◌, ◌≤◌, Option, Some, List, ◌++◌, length}
use Rattle.link_model.specs.Link.{run_of}
use Rattle.link_model.specs.Standing.{LinkState, standing_of}
use Rattle.flow_core.specs.declared.case.Case.{Case}
use Rattle.flow_core.specs.declared.letter.Letter.{Letter}
use Rattle.flow_core.specs.declared.letter.Letter.TheVariants.{A, T}
use Rattle.flow_core.specs.Words.{most_letters}
use Rattle.flow_core.specs.Readings.{over_codes}
use Rattle.flow_core.specs.Summaries.{may_make}
use Rattle.flow_core.specs.Bares.{BareState}
use Rattle.flow_core.specs.BookFlows.{BookFlowState, book_flow_of}
use Rattle.flow_core.specs.Cells.{CellState, flow_at, world_at}
use Rattle.flow_core.specs.Cores.{CoreState}
use Rattle.flow_core.specs.LettersLeft.{left_at}
use Rattle.campaign_core.specs.declared.tally.Tally.{Tally}
use Rattle.campaign_core.specs.BareLetters.{left_in, is_due_in}
use Rattle.campaign_core.specs.CampaignWord.{first_letter, next_of, plan_from, plan}
use Rattle.campaign_core.specs.GivenFlows.{IsAfterHistory}
use Rattle.campaign_gate.specs.CampaignBooks.{planned}

-- the next letter of the campaign word
abbrev pub next_in : BareState → Option Letter
next_in bare =
    let flow = over_codes bare.case in
    first_letter (is_due_in bare) (may_make flow bare.summary T) (may_make flow bare.summary A)

-- ---- a flow with its link

-- the next letter of its campaign word
abbrev pub next_planned : CellState → Option Letter
next_planned cell = next_of (flow_at cell) cell.case.lag (world_at cell)

-- the rest of the campaign word
abbrev pub plan_at : CellState → List Letter
plan_at cell =
    plan_from (flow_at cell) cell.case.link cell.case.lag (most_letters cell.case.acks - length cell.word)
    (world_at cell)

-- the flow alone: it was given the acknowledgements of its link
abbrev pub given_at : CellState → CoreState
given_at cell = record { case = cell.case; acks = (world_at cell).acks; word = cell.word }

-- the link alone: it stands for the windows so far
abbrev pub link_at : CellState → LinkState
link_at cell = record {
  case = cell.case.link;
  standing = standing_of cell.case.link (run_of cell.case.link (world_at cell).windows);
}

-- the flow of a case after its campaign word
abbrev pub core_of_case : Case → CoreState
core_of_case case = given_at (planned case)

-- and without its acknowledgements
abbrev pub book_flow_of_case : Case → BookFlowState
book_flow_of_case case = book_flow_of (core_of_case case)

-- ---- the way

-- the flow with its tally and the link are after a prefix of the campaign word
pub record IsOnWay {F : Type 0} (at : CoreState → F) (flow : F) (tally : Tally) (link : LinkState) : Type 0 where
  pub cell : CellState
  pub after : IsAfterHistory at (given_at cell) flow tally
  pub link_is : link ≡ link_at cell
  pub plan : cell.word ++ plan_at cell ≡ plan cell.case
  pub left : length cell.word + left_at cell ≤ most_letters cell.case.acks

-- and this letter is the next one of the campaign word
pub record IsNextLetter {F : Type 0} (at : CoreState → F) (flow : F) (tally : Tally) (link : LinkState)
    (letter : Letter) : Type 0 where
  pub on : IsOnWay at flow tally link
  pub next : next_planned on.cell ≡ Some letter

-- the flow is still on the way of its case, and fewer letters are left
pub record Onward {F : Type 0} (at : CoreState → F) (bare_of : F → BareState)
    (old new : F) (tally : Tally) (link : LinkState) : Type 0 where
  pub on : IsOnWay at new tally link
  pub case : (bare_of new).case ≡ (bare_of old).case
  pub fewer : left_in (bare_of new) < left_in (bare_of old)
