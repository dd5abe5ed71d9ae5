-- what is to be believed: what an execution unit holds, and what instructions, fibers and entries do to it
pub mod State
pub mod Cells
pub mod Instructions
pub mod Fibers
pub mod Entries
-- what may not be done
pub mod Answers
-- what holds of every entry and fiber
pub mod Alone
