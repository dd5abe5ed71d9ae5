-- What is to be believed: the grammar relates tokens to trees, and asks for the limits at each token.
-- where one stands, what is limited, and how relations between tokens and values are put together
pub mod State
pub mod Language
-- the rules
pub mod Words
pub mod Tokens
pub mod Types
pub mod Expressions
pub mod Statements
pub mod Items
-- which tokens are a program, and which token keeps tokens from being one
pub mod Reading
