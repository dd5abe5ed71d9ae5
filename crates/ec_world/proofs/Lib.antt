-- what single functions rest on
pub mod Lists
-- what the laws of steps rest on
pub mod Handled
pub mod Enabled
