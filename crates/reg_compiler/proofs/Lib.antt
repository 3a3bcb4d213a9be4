-- The lemmas of reg_compiler, a file a topic.
mod WorkedCases
pub mod NumberedPrograms
pub mod FittingNeeds
mod LineRuns
mod KnownLaws
mod OperandRuns
mod ExpressionRuns
mod BodyShapes
mod CommandRuns
mod WorkRuns
mod BlockRuns
pub mod Means
pub mod Sizes
mod AllowedLines
mod AllowedInstrs
mod AllowedExpressions
mod AllowedCommands
pub mod Accepted
pub mod CompiledSimulates
