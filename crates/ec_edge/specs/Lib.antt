-- what the contracts of shelves and sinks rest on: to be believed, in reading order
pub mod Fault
pub mod Sink
pub mod Shelf
-- what the files of the system and those in memory, and the sinks, do at each call
pub mod Files
pub mod MemoryShelf
pub mod MemorySink
