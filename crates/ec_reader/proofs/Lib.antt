-- what the crate's functions promise each other
pub mod Loops
pub mod Parts
-- what the answer of `read` and the law that tokens are refused once rest on
pub mod Refusals
