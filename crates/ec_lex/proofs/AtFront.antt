-- What stands at the front of a text, and what is found there.
pub mod Told
pub mod Spelling
pub mod Marking
pub mod Values
pub mod Lexicals
pub mod Fronts
pub mod Answering
pub mod Found
