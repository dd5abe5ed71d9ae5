-- Where a word stands, how deep, and what is counted in it.
pub mod Spans
pub mod Limits
pub mod Parts
-- what stands one deeper, between two tokens
pub mod Delimiters
pub mod Brackets
