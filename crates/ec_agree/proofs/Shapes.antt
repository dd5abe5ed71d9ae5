-- What a node looks like, and at which stages.
pub mod Seen
pub mod Cells
pub mod Stages
