-- The definitions of reg_code, a file each. Public contracts, here and above, cite all but the files named ..Laws:
-- these have what follows from the others, for proofs. Forms, PackedCode and Places are for packed instructions, and the
-- files named Flat.. for the form in which a code is run.
pub mod Codes
pub mod CodeStep
pub mod CodeStart
pub mod AcceptedCode
pub mod AcceptedLaws
pub mod ListingText
pub mod Sound
pub mod Places
pub mod Forms
pub mod FormLaws
pub mod PackedCode
pub mod FlatCode
pub mod FlatParts
pub mod FlatNumbers
pub mod OperationNumbers
pub mod OperationNumberLaws
