-- what a unit keeps to
pub mod Room
