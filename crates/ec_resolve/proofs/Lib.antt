pub mod Places
pub mod Named
pub mod Cells
pub mod Terms
pub mod Lists
pub mod Within
