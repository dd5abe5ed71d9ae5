-- what is to be believed: the memory of a node, and what becomes of it
pub mod Memory
pub mod Frames
pub mod Blocks
pub mod Accesses
