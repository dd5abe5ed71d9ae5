-- Simple forms keep the counts that their programs keep.
-- what rules of the grammar keep
pub mod Steady
pub mod Grammar
-- what the statements of a text weigh, and so what its program keeps
pub mod Costs
pub mod Trees
pub mod Statements
pub mod Programs
-- code of expressions, and names
pub mod Code
pub mod Names
-- code of statements, and the form
pub mod Bodies
pub mod Forms
-- the law
pub mod Kept
