-- what is to be believed: what the code of a small program is owed
pub mod Owes
-- what the crate's functions promise each other, and what the laws of runs rest on
pub mod Cut
pub mod Building
