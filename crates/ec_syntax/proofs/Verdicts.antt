-- The laws: tokens are read as the grammar has them, or one of them is refused. Then examples.
pub mod Reading
pub mod Refusals
pub mod Examples
