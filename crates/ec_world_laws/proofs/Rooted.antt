-- in the order in which they rest on each other
-- what is named
pub mod Held
pub mod Runs
pub mod Instructions
pub mod Entries
pub mod Nodes
pub mod Worlds
-- births
pub mod Weights
pub mod Same
pub mod Births
pub mod Bearing
pub mod Bringing
pub mod Moves
pub mod Forest
pub mod Steps
