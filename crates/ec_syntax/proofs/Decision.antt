-- Decision procedures: what a reader owes a language, and how such readers are put together.
-- what is owed
pub mod Procedures
pub mod Equations
-- no token, and one
pub mod Basics
pub mod OneToken
-- one behind the other, either, and repeated
pub mod Concatenation
pub mod Sequencing
pub mod Alternatives
pub mod Repetition
-- the same where the depth is within its limit
pub mod Limited
pub mod BoundedRepetition
-- what stands behind something else
pub mod Continuations
pub mod Dependence
