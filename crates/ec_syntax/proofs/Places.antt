-- parts that stand one behind the other, and what the grammar's combinators keep of that
pub mod Standing
pub mod Rules
pub mod Placing
-- each rule of the grammar
pub mod Tokens
pub mod Operators
pub mod Calls
pub mod Expressions
pub mod Declarations
pub mod Statements
pub mod Programs
-- so parts that aren't plain differ by their places
pub mod Marks
