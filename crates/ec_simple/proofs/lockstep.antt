-- outcomes that are alike, and code
pub mod Alike
pub mod Together
pub mod Code
-- variables, accesses, and the values of expressions
pub mod Variables
pub mod Steps
pub mod Accesses
pub mod Below
pub mod Operators
pub mod Values
-- what statements use, and what they leave
pub mod Used
pub mod Scopes
pub mod Narrow
pub mod Frames
-- statements
pub mod Functions
pub mod Stages
pub mod Statements
pub mod Loops
-- branches and bodies
pub mod Copies
pub mod Outlined
pub mod Branches
pub mod Bodies
-- calls and programs
pub mod Calls
pub mod Programs
