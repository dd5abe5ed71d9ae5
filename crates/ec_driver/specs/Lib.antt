-- to be believed, in reading order: what the clauses of `earthc` rest on
pub mod Command
pub mod Status
pub mod Lines
pub mod Built
pub mod Source
pub mod Once
pub mod Ending
pub mod Kept
pub mod Meant
pub mod Task
-- what the functions inside the crate promise each other
pub mod Load
pub mod Answered
pub mod Drive
