-- what is to be believed: what a synchronisation unit holds, and what a message does to it
pub mod Handle
-- what it keeps to
pub mod Room
