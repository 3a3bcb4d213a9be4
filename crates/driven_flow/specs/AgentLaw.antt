-- A driven flow whose answers are those of an agent's replies is the flow of that agent.
use Rattle.std.specs.Prelude.{◌≡◌, ℕ, Option, Some, None, List, [], ◌∷◌, ◌++◌, map}
use Rattle.ccp_base.specs.declared.exchange.Reply.{Reply}
use Rattle.ccp_base.specs.declared.exchange.Reply.TheVariants.{Nothing, Update, Change}
use Rattle.agent_core.specs.declared.agent.Agent.{Agent}
use Rattle.agent_core.specs.Agents.{opening_change, course_of, replied, values_of}
use Rattle.campaign_core.specs.CampaignRow.{row_over, row_after}
use Rattle.flow_core.specs.declared.case.Case.{Case}
use Rattle.flow_core.specs.declared.letter.Letter.{Letter}
use Rattle.flow_core.specs.declared.letter.Letter.TheVariants.{A, T, C}
use Rattle.flow_core.specs.Readings.{Flow, code_at, over_codes}
use Rattle.flow_core.specs.Words.{Giving, from_link, after_letter, world}
use Rattle.flow_core.specs.World.{Taken, Answered, World, opening, told_as}
use Rattle.driven_flow.specs.Driven.{Given, DrivenState, code_in, unasked, flow_by, world_by, peak_by}

-- a reply as an answer
abbrev pub program_in : Reply → Option ℕ
program_in Nothing = None
program_in (Update cwnd) = None
program_in (Change program cwnd cap) = Some program

abbrev pub given_by : Agent → Reply → Given
given_by agent reply = record { program = program_in reply; values = values_of agent reply }

-- the answers that a flow's agent gives on a word, in order
abbrev pub answer_out : {X : Type 0} → Flow X → Agent → Option (Taken X) → List Given
answer_out flow agent None = []
answer_out flow agent (Some ticket) = given_by agent (replied agent (told_as flow ticket.told)).1 ∷ []

abbrev pub answer_at : {X : Type 0} → Flow X → World X → Letter → List Given
answer_at flow w A = []
answer_at flow w T = []
answer_at flow w C = answer_out flow w.agent w.out

abbrev pub answers_from : {X : Type 0} → Flow X → Giving X → World X → List Letter → List Given
answers_from flow giving w [] = []
answers_from flow giving w (letter ∷ rest) =
    answer_at flow w letter ++ answers_from flow giving (after_letter flow giving w letter) rest

-- the flow is that of the case, begins as the case's agent does, and its answers are those of the agent on its word; of
-- its programs those of the agent's two roles have the case's codes
pub record IsOfCase (s : DrivenState) (case : Case) : Type 0 where
  pub flow : s.case.flow ≡ case.flow
  pub link : s.case.link ≡ case.link
  pub slots : s.case.slots ≡ case.slots
  pub ss : code_in s.programs case.ss.role.number ≡ code_at case case.ss.role.number
  pub ca : code_in s.programs case.ca.role.number ≡ code_at case case.ca.role.number
  pub program : s.program ≡ (course_of case.agent).ss.number
  pub values : s.values ≡ values_of case.agent (opening_change case.agent)
  pub answers :
      s.answers
      ≡ answers_from (over_codes case) (from_link (over_codes case) case.link) (opening (over_codes case)) s.word

-- a state without its agent and without the agent's replies
abbrev pub without_reply : {X : Type 0} → Answered X → Answered X
without_reply ticket = record ticket { reply = Nothing }

abbrev pub without_agent : {X : Type 0} → World X → World X
without_agent w = record w { agent = unasked; answered = map without_reply w.answered }

-- the driven flow has the state, the acknowledgements, reports, epochs and faults among it, and the row of the agent's
-- flow after the same word
pub record IsAgentFlow (s : DrivenState) (case : Case) : Type 0 where
  pub state : world_by s ≡ without_agent (world (over_codes case) case.link s.word)
  pub row :
      row_over (flow_by s) (world_by s) (peak_by (flow_by s) s) ≡ row_after (over_codes case) case.link s.word
