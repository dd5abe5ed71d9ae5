-- Single tokens and types are decided.
pub mod Tokens
pub mod Types
