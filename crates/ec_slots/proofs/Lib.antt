-- what single functions rest on
pub mod Places
pub mod Rows
-- what is found after a change
pub mod Found
