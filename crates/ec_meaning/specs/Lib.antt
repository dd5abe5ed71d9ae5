-- what is still to do in an activation, and what that does
pub mod Works
pub mod Acts
-- how a work is taken, and the state of the machine
pub mod Opened
pub mod Machine
-- what each step keeps
pub mod Laws
-- the state of the code as that of the definitions
pub mod Seen
-- the order of its blocks, and the memory that shows them
pub mod Order
pub mod Means
pub mod Shown
-- what the functions inside the crate promise each other: what they make of a hand and of works
pub mod Handled
-- what accesses reach among the blocks
pub mod Reached
-- what a work leaves as it is
pub mod Kept
-- how activations start and end, what a step comes to, and what all steps have come to
pub mod Activations
pub mod Steps
-- the start, and the answer
pub mod Started
pub mod Last
