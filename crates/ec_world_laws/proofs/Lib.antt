-- what units keep to
pub mod Units
-- what worlds keep to
pub mod Worlds
-- what every world keeps
pub mod Rooted
