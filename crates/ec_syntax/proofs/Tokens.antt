-- Sequences of tokens, and classes of tokens.
pub mod Sequences
pub mod Classes
pub mod Samples
