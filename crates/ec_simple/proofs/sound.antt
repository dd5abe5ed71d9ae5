-- Resolved trees of typed programs are sound, and ints and pointers stand in them where they are asked for.
-- what judgements without refusals say of their parts
pub mod Right
-- lists, and names with their numbers
pub mod Each
pub mod Numbers
-- shapes and fields
pub mod Shapes
-- types of values
pub mod Types
pub mod Points
-- expressions
pub mod Good
pub mod Accesses
pub mod Variables
pub mod Calls
pub mod Layers
pub mod ExpressionFolds
pub mod Expressions
-- statements
pub mod Scopes
pub mod ShapeNumbers
pub mod Assignments
pub mod AssignmentKinds
pub mod Headers
pub mod Declarations
pub mod StatementLayers
pub mod StatementFolds
pub mod Statements
-- functions and programs
pub mod Once
pub mod Programs
pub mod Main
