-- what is put behind what was put before, and the tables of places
pub mod Behind
pub mod Numbering
-- resolved trees, by their parts
pub mod Terms
-- expressions
pub mod Values
pub mod Operators
pub mod Nodes
-- statements
pub mod Actions
pub mod Functionless
pub mod Sequences
-- branches and bodies
pub mod Surroundings
pub mod Outlined
pub mod Branches
-- written functions
pub mod Programs
