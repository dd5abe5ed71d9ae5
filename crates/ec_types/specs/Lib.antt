-- what the contract of `check` rests on: what is refused, and how judgements are put together
pub mod Refusals
pub mod Judged
-- types, names and places
pub mod Types
pub mod Names
pub mod Parts
pub mod Context
-- what each part of a program is, or what it is refused for
pub mod Operators
pub mod Arguments
pub mod Expressions
pub mod Assignments
pub mod Headers
pub mod Statements
pub mod Declarations
pub mod Sizes
pub mod Programs
pub mod Once
-- what programs mean
pub mod Meaning
-- what the functions inside the crate promise each other
pub mod Seen
pub mod Places
pub mod Tables
