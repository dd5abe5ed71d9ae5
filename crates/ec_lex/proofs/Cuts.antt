-- Texts cut into tokens, one front after the other.
pub mod Scanning
pub mod Cutting
pub mod OneCut
pub mod Whole
