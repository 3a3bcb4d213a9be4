-- The definitions of ccp, a file each. The contract of a process cites both.
pub mod Process
pub mod Words
