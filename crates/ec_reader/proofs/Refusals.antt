-- Tokens are refused once: where reading stops, which words ask what, and what a brace is refused for.
pub mod Whole
pub mod Local
pub mod Asking
pub mod Brace
pub mod Once
