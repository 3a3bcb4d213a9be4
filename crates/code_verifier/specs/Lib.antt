-- The definitions of code_verifier, a file each, for private contracts: public ones cite AcceptedCode of reg_code.
pub mod Marked
pub mod PartRefusals
