-- what is to be believed: steps, and what lists of them give
pub mod Step
pub mod Run
-- what the code of a step answers
pub mod Answers
