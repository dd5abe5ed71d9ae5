-- which tokens are a small program, and what it means
pub mod Words
pub mod Grammar
pub mod Meaning
pub mod Sound
-- what the functions inside the crate promise each other
pub mod Descent
pub mod Counting
