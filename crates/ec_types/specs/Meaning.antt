-- What programs mean, from left to right. To be believed: values, the state, memory, resolved trees, what they do, programs.
pub mod Values
pub mod State
pub mod Memory
pub mod Tree
pub mod Branches
pub mod Evaluation
-- how a program becomes a resolved tree
pub mod Layout
pub mod Resolution
-- what a whole program means, and the laws of meanings
pub mod Programs
pub mod Laws
