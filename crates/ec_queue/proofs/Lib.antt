-- what single functions rest on
pub mod Rows
pub mod Lists
