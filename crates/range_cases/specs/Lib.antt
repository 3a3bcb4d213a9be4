-- The definitions of range_cases, a file each. Public contracts cite all.
pub mod Listing
pub mod Cases
pub mod Conditions
