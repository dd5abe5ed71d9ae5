-- Expressions are decided: their parts where what stands one deeper is, then those nested in each other.
pub mod Operators
pub mod Calls
pub mod Names
-- `malloc`, whose count ends before the last `*`
pub mod CountFactors
pub mod CountTurns
pub mod Counts
pub mod Malloc
pub mod MallocGrammar
-- operands
pub mod Selections
pub mod Primaries
pub mod Operands
pub mod OperandKinds
-- expressions nested in each other
pub mod Witnesses
pub mod Nested
