-- in the order in which they rest on each other
pub mod Values
pub mod Cells
pub mod Instructions
pub mod Fibers
pub mod Entries
