-- what the crate's functions promise each other: counts of faults, pieces of a transfer, what writes make of what is told
pub mod Counts
pub mod Pieces
pub mod Writes
