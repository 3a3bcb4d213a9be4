-- All that a driven flow keeps, and what holds of it between letters.
use Rattle.std.specs.Prelude.{◌≡◌, ℕ, ◌+◌, Option, option_map, List, [], ◌∷◌, ◌++◌, length}
use Rattle.driven_flow.specs.Driven.{Codes}
use Rattle.ccp_base.specs.declared.exchange.Reply.TheVariants.{Nothing}
use Rattle.link_model.specs.Link.{acks_for_windows}
use Rattle.link_model.specs.Standing.{LinkState, Stands}
use Rattle.campaign_core.specs.declared.sums.Sums.{Sums}
use Rattle.campaign_core.specs.CampaignRow.{sums_of}
use Rattle.flow_core.specs.declared.running.Issued.{Issued}
use Rattle.flow_core.specs.declared.book.EpochLine.{EpochLine}
use Rattle.flow_core.specs.declared.book.TicketLine.{TicketLine}
use Rattle.flow_core.specs.declared.letter.Letter.{Letter}
use Rattle.flow_core.specs.declared.letter.Letter.TheVariants.{A, T, C}
use Rattle.flow_core.specs.Summaries.{summary}
use Rattle.driven_flow.specs.declared.journal.Journal.{Journal}
use Rattle.flow_core.specs.declared.running.Running.{Running}
use Rattle.driven_flow.specs.declared.state.State.{State}
use Rattle.driven_flow.specs.declared.state.Opened.{Opened}
use Rattle.driven_flow.specs.declared.case.DrivenCase.{DrivenCase}
use Rattle.ccp_base.specs.FieldReg.{Pair}
use Rattle.flow_core.specs.Books.{line_of}
use Rattle.driven_flow.specs.Driven.{Given, DrivenState, over_codes, begun, flow_by, world_by, peak_by}
use Rattle.driven_flow.specs.DrivenSteps.{summary_by, IsDrivenBy}
use Rattle.driven_flow.specs.DrivenJournals.{Begins, Records}

-- how many of the letters are answers
abbrev pub answers_in : List Letter → ℕ
answers_in [] = 0
answers_in (A ∷ rest) = answers_in rest
answers_in (T ∷ rest) = answers_in rest
answers_in (C ∷ rest) = answers_in rest + 1

-- the flow with one letter more, and with one answer more
abbrev pub with_letter : Letter → DrivenState → DrivenState
with_letter letter d = record d { word = d.word ++ letter ∷ [] }

abbrev pub with_given : Given → DrivenState → DrivenState
with_given given d = record d { answers = d.answers ++ given ∷ []; word = d.word ++ C ∷ [] }

-- the line of the ticket that is out, if it is answered after this many acknowledgements
abbrev pub line_out : Option Issued → ℕ → Option TicketLine
line_out out acks =
    option_map
    (λ (issued : Issued). record { told = issued.told; taken = issued.taken; answered = acks; reply = Nothing })
    out

-- the line of the epoch that an answer began, if it is a change
abbrev pub line_begun : Option ℕ → Running → Option EpochLine
line_begun program s = option_map (λ (program : ℕ). line_of s.epoch s.acks s.machine.kept.cwnd) program

-- what runs stands for the state after the word, the journal has its lists, the link stands for its windows, and each
-- answer so far was taken
pub record IsDriven (d : DrivenState) (running : Running) (link : LinkState) (j : Journal) (sums : Sums) (peak : ℕ)
    : Type 0 where
  pub whole : IsDrivenBy d.programs d.case running
  pub stands : summary_by running ≡ summary (flow_by d) (world_by d)
  pub records : Records (flow_by d) (world_by d) j
  pub all : length d.answers ≡ length (world_by d).answered
  pub taken : answers_in d.word ≡ length d.answers
  pub link_case : link.case ≡ d.case.link
  pub link_stands : Stands link (world_by d).windows
  pub calls : link.standing.calls ≡ length (world_by d).acks
  pub linked : (world_by d).acks ≡ acks_for_windows d.case.link (world_by d).windows
  pub summed : sums ≡ sums_of (world_by d).acks
  pub greatest : peak ≡ peak_by (flow_by d) d

-- what contracts see of all that is kept, and what holds of it
abbrev pub driven_of : State → DrivenState
driven_of s = record {
  case = s.case;
  programs = s.programs.now;
  program = s.program;
  values = s.values;
  answers = s.journal.answers.items;
  word = s.journal.word.items;
}

abbrev pub IsState : State → Type 0
IsState s = IsDriven (driven_of s) s.running s.link s.journal s.sums s.peak

-- what a flow has beside its case after its first change
pub record IsOpened (programs : Codes) (case : DrivenCase) (program : ℕ) (values : List Pair)
    (opened : Opened) : Type 0 where
  pub whole : IsDrivenBy programs case opened.running
  pub stands :
      summary_by opened.running
      ≡ summary (over_codes programs case) (begun (over_codes programs case) case.link.mss program values)
  pub link_case : opened.link.case ≡ case.link
  pub link_stands : Stands opened.link []
  pub calls : opened.link.standing.calls ≡ 0
  pub journal : Begins (line_of opened.running.epoch 0 opened.running.machine.kept.cwnd) opened.journal
