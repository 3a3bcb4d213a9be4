-- The kinds of agents, and the programs that are built in for them.
use Rattle.std.specs.Prelude.{ℕ, Option, List, [], ◌∷◌, find, codes}
use Rattle.std.specs.Str.{bytes_eq}
use Rattle.ccp_base.specs.declared.look.Role.{Role}
use Rattle.reno_agent.specs.Reno.{first_reno}
use Rattle.cubic_agent.specs.Cubic.{first_cubic}
use Rattle.agent_core.specs.declared.agent.Agent.{Agent}
use Rattle.agent_core.specs.declared.agent.Agent.TheVariants as agent
use Rattle.agent_core.specs.declared.kind.Kind.{Kind}
use Rattle.agent_core.specs.declared.kind.Kind.TheVariants.{Reno, Cubic}

-- how many programs are built in: 0 is that of slow start, for agents of every kind, and the others are those of
-- congestion avoidance
abbrev pub built_in_count : ℕ
built_in_count = 3

-- what there is to know of a kind: its name, the number of its built-in program of congestion avoidance, and its agent
-- in the initial state, by the segment's size and the two programs
pub record KindRow : Type 0 where
  pub name : List ℕ
  pub avoidance : ℕ
  pub first : ℕ → Role → Role → Agent

abbrev pub row_of : Kind → KindRow
row_of Reno = record { name = codes "reno"; avoidance = 1; first = λ mss ss ca. agent.Reno (first_reno mss ss ca) }
row_of Cubic = record { name = codes "cubic"; avoidance = 2; first = λ mss ss ca. agent.Cubic (first_cubic mss ss ca) }

abbrev pub kinds : List Kind
kinds = Reno ∷ Cubic ∷ []

abbrev pub name_of : Kind → List ℕ
name_of kind = (row_of kind).name

-- the kind of a name, or none
abbrev pub kind_named : List ℕ → Option Kind
kind_named name = find (λ kind. bytes_eq name (name_of kind)) kinds

abbrev pub avoidance_of : Kind → ℕ
avoidance_of kind = (row_of kind).avoidance

-- the agent in its initial state
abbrev pub agent_of : Kind → ℕ → Role → Role → Agent
agent_of kind mss ss ca = (row_of kind).first mss ss ca

abbrev pub kind_of : Agent → Kind
kind_of (agent.Reno state) = Reno
kind_of (agent.Cubic state) = Cubic

-- the name of an agent's kind, as the lines of flows and cases show it
abbrev pub agent_name : Agent → List ℕ
agent_name agent = name_of (kind_of agent)
