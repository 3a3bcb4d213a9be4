-- The definitions of ccp_words, a file each.

-- those that contracts of public calls cite: the modes' names, and the words with what they ask for
pub mod Modes
pub mod Words
-- those that only private contracts and proofs cite: matches of the command line
pub mod Matches
