-- the resolved trees of the code as those of the definitions
pub mod Erased
-- what the functions inside the crate promise each other
pub mod Declares
pub mod Pointers
pub mod Seen
pub mod Operands
