-- The definitions of value_ranges, a file each. Public contracts cite all.
pub mod Ranges
