-- what it is to read again, and the combinators
pub mod Readings
pub mod Rules
-- single tokens and lists
pub mod Tokens
pub mod Marks
pub mod Lists
pub mod Types
-- what is said of trees, case by case
pub mod Folds
-- expressions
pub mod Levels
pub mod Calls
pub mod Primary
pub mod Expressions
-- statements
pub mod Steps
pub mod Assignments
pub mod Groups
pub mod Declarations
pub mod Simple
pub mod Bodies
pub mod Loops
pub mod Statements
-- items
pub mod Structs
pub mod Functions
pub mod Programs
