-- what single functions rest on
pub mod Rows
pub mod Lists
pub mod KnownSlots
-- what the laws of steps rest on
pub mod Enabled
pub mod Handled
-- what rooted worlds rest on
pub mod Roots
