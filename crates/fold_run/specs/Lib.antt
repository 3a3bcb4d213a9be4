-- The definitions of fold_run, a file each. Public contracts cite Fold, Folding (`HasEndNotice` alone), Ran, Separated,
-- Acknowledgements, over AckLine, and ReadingLaws. The others are for private contracts.
pub mod FirstPart
pub mod Separated
pub mod AckLine
pub mod Items
pub mod Fronts
pub mod Acknowledgements
pub mod LineCount
pub mod OneValue
pub mod Ran
pub mod Fold
pub mod AnswerMeaning
pub mod Folding
pub mod ReadingLaws
