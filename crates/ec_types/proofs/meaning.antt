-- Laws of meanings.
-- what is only added to, and steps that take no tick
pub mod Growth
pub mod Steps
-- one induction over the tree for every relation of meanings
pub mod Relations
pub mod Closed
-- meanings with more ticks, and within their ticks
pub mod More
pub mod Spent
-- whole programs
pub mod Settled
-- what each part keeps, and that room for calls and turns doesn't matter
pub mod Keeps
pub mod Room
-- small programs by computation, as trees and as they are written
pub mod Rows
pub mod Sources
pub mod Notes
