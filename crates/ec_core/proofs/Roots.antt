-- Rooted worlds: what leads to frames leads to the root, and each step leaves it so.
pub mod Weights
pub mod Moves
pub mod Frames
pub mod Pointers
pub mod Grown
pub mod Steady
pub mod Kept
