-- Statements are decided: their forms where what stands one deeper is, then those nested in each other.
pub mod Declarations
-- those that an operand leads
pub mod Assignments
pub mod AssignmentsAndCalls
pub mod Simple
-- those that hold others
pub mod Blocks
pub mod DanglingElse
pub mod Loops
pub mod Fors
pub mod Bare
-- statements nested in each other
pub mod Inclusion
pub mod Deep
pub mod Nested
