-- what is to be believed: answers beside want of memory, operators on numbers, what `printf` writes by
-- rules, the tokens that a text can give, the reserved words, and why sources are refused
pub mod Answers
pub mod Arithmetic
pub mod Writes
pub mod Lexical
pub mod Words
pub mod Reason
-- what the crate's functions promise each other: what `printf` writes, computed
pub mod Format
