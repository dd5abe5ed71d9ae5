-- in the order in which they rest on each other
pub mod Numbered
pub mod Units
pub mod Nodes
pub mod Worlds
