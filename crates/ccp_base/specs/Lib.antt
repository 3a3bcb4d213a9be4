-- The definitions of ccp_base, a file each. Public contracts, here and above, cite them or definitions over them, with
-- three exceptions: SystemAnswers is for private contracts, InPlace for the invariants of lists held in place, and
-- OperationLaws, which has what follows from Operations, for proofs.
pub mod Acknowledgement
pub mod Blending
pub mod Chaining
pub mod CheckedNumbers
pub mod Course
pub mod FieldReg
pub mod InPlace
pub mod Limits
pub mod Measurement
pub mod Named
pub mod Numerals
pub mod OperationLaws
pub mod Operations
pub mod Outside
pub mod Parts
pub mod PrimitiveNames
pub mod RunningEpochs
pub mod Saturating
pub mod SystemAnswers
pub mod Text
pub mod Truth
