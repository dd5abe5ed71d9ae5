-- First sets and lookahead: by which tokens a word may begin, and by which it may go on.
pub mod FirstSets
pub mod FirstTokens
pub mod FollowSets
