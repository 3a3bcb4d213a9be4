-- The lemmas of ccp_words, a file a topic.
mod AlikeWalks
mod AlikeFaults
mod CommandLine
mod ModeGiven
mod DefaultReads
mod OptionsGiven
mod Parsed
