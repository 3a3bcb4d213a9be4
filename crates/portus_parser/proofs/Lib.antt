-- The lemmas of portus_parser, a file a topic.
pub mod Numerals
pub mod OpenLists
pub mod Joins
pub mod Turns
pub mod Spelled
pub mod Finishes
pub mod FirstFaults
pub mod Lexical
pub mod Exact
pub mod PrintedAtoms
pub mod Printed
mod Rows
