-- how a text is judged
pub mod Judged
