-- What the runs of main's fibers do.
pub mod Expressions
pub mod Statements
pub mod Fibers
pub mod Halting
pub mod Entries
