-- By what functions and proofs go, and nothing that needs belief: recursive descent over the tokens that are left, which the
-- laws prove to be the grammar.
-- how readers are put together
pub mod Reader
-- a reader for each rule
pub mod Tokens
pub mod Expressions
pub mod Statements
pub mod Items
