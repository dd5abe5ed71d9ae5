-- what single functions rest on: parts of a text, and what stands at its front
pub mod Inside
pub mod AtFront
-- what `lex` and the law of one cut rest on
pub mod Cuts
