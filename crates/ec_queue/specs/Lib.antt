-- what is to be believed: what is put into queues, and taken
pub mod Queues
