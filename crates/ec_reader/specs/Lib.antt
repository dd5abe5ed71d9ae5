-- what is to be believed: which refusal `read` answers, and what the law says of refusals
pub mod Refusals
pub mod Laws
-- what the crate's functions promise each other: what they answer, and parts of readers by names of their own
pub mod Answers
pub mod Operators
pub mod Inside
pub mod Sentences
pub mod Another
-- where loops stand
pub mod Going
pub mod Counting
