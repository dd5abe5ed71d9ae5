-- Parts of a text, and what stands inside comments and strings.
pub mod Parts
pub mod Comments
pub mod Quoted
pub mod Decoding
