-- what the contract of `first_prints` rests on: the items of a program, what their parts do, and the first `printf`s
pub mod Items
pub mod Effects
pub mod Prints
-- the law
pub mod Laws
-- what the functions inside the crate promise each other
pub mod Seen
pub mod Numbers
pub mod Graphs
