-- Loops that read turns, or the count of a `malloc`.
pub mod Turns
pub mod Stopping
pub mod Factors
