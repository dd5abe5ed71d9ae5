-- what is to be believed: what units and worlds of nodes keep to, and the laws of it
pub mod Units
pub mod Worlds
pub mod Rooted
