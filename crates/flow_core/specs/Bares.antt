-- What the code keeps of a flow without its history, and the summary that it stands for.
use Rattle.std.specs.Prelude.{◌≡◌, ℕ, ◌≤◌, Option, None, option_map, List, length}
use Rattle.ccp_base.specs.FieldReg.{Pair, first_bad_pair}
use Rattle.ccp_base.specs.declared.ack.Ack.{Ack}
use Rattle.ccp_base.specs.declared.exchange.Reply.{Reply}
use Rattle.ccp_base.specs.declared.exchange.Reply.TheVariants.{Nothing, Update, Change}
use Rattle.agent_core.specs.Agents.{course_of, opening_change, values_of}
use Rattle.agent_core.specs.declared.ticket.Ticket.{Ticket}
use Rattle.flow_core.specs.declared.bare.BareParts.{BareParts}
use Rattle.flow_core.specs.declared.case.Case.{Case}
use Rattle.flow_core.specs.declared.running.Issued.{Issued}
use Rattle.flow_core.specs.declared.running.Running.{Running}
use Rattle.flow_core.specs.Readings.{code_at, over_codes}
use Rattle.flow_core.specs.Runnings.{AreCounted, RunsOn, running_by, running_at_start, started_env, instructions_for}
use Rattle.flow_core.specs.Summaries.{Summary, running_of, summary_with, step_obeyed}

-- the summary that is kept
abbrev pub summary_by : BareParts → Summary
summary_by s = summary_with s.agent (running_by s.running)

pub record BareState : Type 0 where
  pub case : Case
  pub summary : Summary

-- the ticket that is out, or none
abbrev pub told_ticket : Case → Summary → Option Ticket
told_ticket case s =
    option_map
    (λ (issued : Issued). record { flow = case.flow; number = s.answered; before = s.agent; told = issued.told })
    s.out

-- the agent has the case's roles, and the counts are in range
pub record InRange (case : Case) (s : Summary) : Type 0 where
  pub ss : (course_of s.agent).ss ≡ case.ss.role
  pub ca : (course_of s.agent).ca ≡ case.ca.role
  pub acks : s.acks ≤ case.acks
  pub counts : AreCounted (running_of s)

-- the case's programs run, and the agent has their roles
pub record IsBare (s : BareParts) : Type 0 where
  pub runs : RunsOn (code_at s.case) s.case.slots s.running
  pub ss : (course_of s.agent).ss ≡ s.case.ss.role
  pub ca : (course_of s.agent).ca ≡ s.case.ca.role
  pub acks : s.running.acks ≤ s.case.acks

-- how many instructions an acknowledgement runs
abbrev pub instructions_at : Case → Ack → Summary → ℕ
instructions_at case ack s = instructions_for (code_at case s.program) case.slots ack (running_of s)

-- ---- an answer

-- the code that a reply is for, while this program runs, has each control register that the values name
abbrev pub AreGood : Case → ℕ → Reply → List Pair → Type 0
AreGood case running Nothing values = Unit {0}
AreGood case running (Update cwnd) values = first_bad_pair (length (code_at case running).controls) values ≡ None
AreGood case running (Change program cwnd cap) values =
    first_bad_pair (length (code_at case program).controls) values ≡ None

-- what runs after a reply with these values
pub record Obeys (case : Case) (reply : Reply) (values : List Pair) (old new : Running) : Type 0 where
  pub runs : RunsOn (code_at case) case.slots new
  pub step : running_by new ≡ step_obeyed (over_codes case) reply values (running_by old)

-- ---- the opening

-- what runs in a flow of the case before its first letter
pub record IsFirst (case : Case) (s : Running) : Type 0 where
  pub runs : RunsOn (code_at case) case.slots s
  pub start :
      running_by s
      ≡ running_at_start (course_of case.agent).ss.number
      (started_env (code_at case (course_of case.agent).ss.number) (values_of case.agent (opening_change case.agent)) 0 0 0)
