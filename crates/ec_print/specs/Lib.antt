-- what the contract of `print` rests on
pub mod Phrase
pub mod Sentence
pub mod Layout
pub mod Canonical
-- what the laws say
pub mod Relexed
pub mod Unplaced
pub mod Plain
pub mod Again
pub mod RoundTrip
-- what the functions inside the crate promise each other
pub mod Writing
