-- Simple forms of typed programs are formed.
-- where parts of lists stand
pub mod Standing
pub mod Parts
-- code, and kinds of variables
pub mod Code
pub mod Kinds
pub mod Tests
-- expressions
pub mod Accesses
pub mod Arguments
pub mod Operators
pub mod Values
-- assignments and declarations
pub mod Assignments
-- the shapes of temporaries are there
pub mod Fitting
-- functions of branches and bodies, and their calls
pub mod Moved
pub mod Uses
pub mod Inside
pub mod Outlined
pub mod CallBranches
-- statements
pub mod Spots
pub mod Statements
pub mod Branches
pub mod Loops
pub mod Bodies
-- functions and programs
pub mod Written
pub mod Programs
-- headers marked as counting
pub mod Apart
pub mod Counted
