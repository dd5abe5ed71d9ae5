-- what is to be believed: which code is valid, and which messages may stand where
pub mod Operands
pub mod Valid
pub mod InPlace
