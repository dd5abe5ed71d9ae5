-- Structs, functions and programs are decided.
pub mod Tokens
pub mod Structs
pub mod Parameters
pub mod ParameterReader
pub mod Functions
pub mod Programs
