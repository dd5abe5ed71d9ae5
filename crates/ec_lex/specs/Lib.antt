-- what is to be believed: the tokens of a text and its first refusal
pub mod Bytes
pub mod Marks
pub mod Tokens
-- what the crate's functions promise each other: the same, computed
pub mod Numbers
pub mod Strings
pub mod Front
pub mod Scan
