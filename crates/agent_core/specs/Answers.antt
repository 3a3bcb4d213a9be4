-- What an agent answers to a ticket.
use Rattle.std.specs.Prelude.{◌≡◌, ℕ, List, []}
use Rattle.ccp_base.specs.declared.exchange.Reply.{Reply}
use Rattle.ccp_base.specs.declared.exchange.Reply.TheVariants.{Nothing, Update, Change}
use Rattle.reply_frames.specs.declared.outline.Version.TheVariants.{One}
use Rattle.reply_frames.specs.Replies.{update_bytes, change_bytes}
use Rattle.agent_core.specs.declared.agent.Agent.{Agent}
use Rattle.agent_core.specs.declared.ticket.Ticket.{Ticket}
use Rattle.agent_core.specs.Agents.{replied, values_of}

-- the agent after the ticket's report or fault
abbrev pub after_of : Ticket → Agent
after_of ticket = (replied ticket.before ticket.told).0

abbrev pub reply_of : Ticket → Reply
reply_of ticket = (replied ticket.before ticket.told).1

-- the frame of a reply: no bytes if nothing is replied
abbrev pub frame_by : ℕ → Agent → Reply → List ℕ
frame_by flow agent Nothing = []
frame_by flow agent (Update cwnd) = update_bytes One flow (values_of agent (Update cwnd))
frame_by flow agent (Change program cwnd cap) =
    change_bytes One flow program (values_of agent (Change program cwnd cap))

-- the frame for the datapath
abbrev pub frame_of : Ticket → List ℕ
frame_of ticket = frame_by ticket.flow ticket.before (reply_of ticket)

-- agent, reply and frame are those of the ticket
pub record IsAnswered (ticket : Ticket) (after : Agent) (reply : Reply) (frame : List ℕ) : Type 0 where
  pub agent : after_of ticket ≡ after
  pub said : reply_of ticket ≡ reply
  pub bytes : frame_of ticket ≡ frame
