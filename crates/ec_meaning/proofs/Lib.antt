-- parts of meanings one after the other
pub mod Binds
-- how works open
pub mod Expressions
pub mod Calls
pub mod OpenedStatements
-- what steps keep
pub mod Steps
-- relations of meanings are relations of what works do
pub mod Related
pub mod Loops
pub mod Opens
pub mod Keeps
pub mod Enters
pub mod Ticks
pub mod Starts
-- works of the code that are opened or touch the hand
pub mod Arguments
pub mod Tables
pub mod Taken
-- lists from behind and several times
pub mod Lists
-- blocks by numbers and by paths, and what accesses reach in them
pub mod Blocks
pub mod Births
pub mod Reaching
pub mod Copies
-- answers one after the other
pub mod Answered
pub mod Handled
-- the order of births, and the paths that blocks' numbers stand for
pub mod Order
pub mod Untold
pub mod Remembered
-- views with the same paths, activations, and steps of the machine in code
pub mod Views
pub mod Parameters
pub mod Activations
pub mod MachineSteps
pub mod Starting
pub mod Entering
-- all steps, from the start to the answer
pub mod Finale
pub mod Final
