-- what simple forms mean
pub mod Meaning
-- which variables statements use, and what they are lowered to
pub mod Uses
pub mod Expressions
pub mod Statements
pub mod Lower
-- what typed programs keep to, and that a simple form means what its program does
pub mod Sound
pub mod Kinds
pub mod Laws
-- what simple forms keep to
pub mod Formed
pub mod Counted
pub mod Counts
-- what the functions inside the crate promise each other
pub mod Seen
pub mod Puts
pub mod Used
pub mod Around
pub mod Direct
pub mod Headers
pub mod Written
