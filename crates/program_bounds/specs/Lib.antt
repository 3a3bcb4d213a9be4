-- The definitions of program_bounds, a file each. Public contracts cite Premises and Bounded; Turns is for private ones.
pub mod Premises
pub mod Bounded
pub mod Turns
