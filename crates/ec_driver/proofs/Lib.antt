-- the words, and the text of a file
pub mod Words
pub mod LongTexts
-- a source has one refusal
pub mod Unique
pub mod Once
pub mod Ends
-- the loop over the steps of a run, and what it keeps
pub mod Driving
pub mod Units
pub mod Keeping
-- how a command ends, and what is written of it
pub mod Delivery
pub mod Endings
pub mod Answered
