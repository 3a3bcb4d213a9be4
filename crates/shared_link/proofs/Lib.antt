-- The lemmas of shared_link, a file a topic.
mod FlowLemmas
mod FlowsLemmas
mod KeptLemmas
mod LackingLemmas
mod LinkLemmas
mod RoundLemmas
mod SendingLemmas
mod StartLemmas
mod TimeLemmas
mod WorkedRounds
