pub mod Marks
pub mod Strings
pub mod Words
pub mod Texts
