-- Nodes and statements can be free of ticks.
-- a relation of meanings that is closed under their words, and where it holds
pub mod Ahead
pub mod Runs
-- whole programs, both ways
pub mod Free
