-- what is to be believed: which tokens are a program, with which tree, and which token is refused and why
pub mod Grammar
-- what the laws say: tokens have one tree, it is found, and otherwise one token is refused
pub mod Laws
-- what they say of places: the parts of a tree, and that parts stand one behind the other
pub mod Parts
pub mod Places
-- what functions promise each other, and the proofs go by: the grammar as functions that look one token ahead
pub mod Descent
