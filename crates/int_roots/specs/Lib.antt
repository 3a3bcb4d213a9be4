-- The definitions of int_roots, a file each. Public contracts cite all.
pub mod Roots
