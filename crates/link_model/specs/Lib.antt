-- The definitions of link_model, a file each; files named ..Laws have what follows from them.
-- Public contracts cite Chances, Counts, Link, Rated, Runs, Standing, TraceText and Traces. Flights, Horizon, Lines,
-- LinkMoves and Rings belong to the proofs: they say what a link keeps and how it moves from step to step.
pub mod Chances
pub mod Counts
pub mod Flights
pub mod Horizon
pub mod Lines
pub mod Link
pub mod LinkLaws
pub mod LinkMoves
pub mod Rated
pub mod Rings
pub mod Runs
pub mod Standing
pub mod TraceText
pub mod Traces
