-- what is to be believed: slots by frame and number, and what becomes of them
pub mod Slots
