-- what the laws rest on: sequences of tokens, their classes, and how they are told by their first token
pub mod Tokens
pub mod Lookahead
-- decision procedures: what a reader owes a language, and how such readers are put together
pub mod Decision
-- spans, depths and counts
pub mod Nesting
-- a decision procedure for each rule of the grammar
pub mod Terminals
pub mod Expressions
pub mod Statements
pub mod Items
-- the end of a text stands in no rule but that of programs
pub mod EndOfText
-- so tokens have one tree, or one of them is refused; examples
pub mod Verdicts
-- folds over trees
pub mod Folds
-- where the parts of a program stand
pub mod Places
