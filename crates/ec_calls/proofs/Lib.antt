-- the order of places, and the first `printf`s by it
pub mod Places
pub mod Uniqueness
-- what stands in the parts of a program
pub mod Callees
pub mod Earliest
-- names and their numbers
pub mod Numbering
pub mod Firsts
-- places that are taken over along calls, and what they are in the end
pub mod Lowering
pub mod Reached
-- the law
pub mod Existence
