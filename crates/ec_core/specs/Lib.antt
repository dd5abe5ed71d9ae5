-- what is to be believed: the machine, from its queues to its runs
pub mod State
pub mod Queues
pub mod Fiber
pub mod Entry
pub mod Slots
pub mod Handle
pub mod Step
pub mod Run
-- what is to be believed: which code is valid, what every world keeps, and what is seen of it at its end
pub mod Valid
pub mod Rooted
pub mod Observed
