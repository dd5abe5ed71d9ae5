-- Parts of programs: what stands one deeper, what has a limit, and what is read in more than one function.
pub mod Rooms
pub mod Limits
pub mod Statements
pub mod Declarations
