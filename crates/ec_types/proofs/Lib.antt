pub mod Order
pub mod Judgements
pub mod ArgumentLists
pub mod KindByKind
pub mod Places
pub mod Bodies
pub mod Together
pub mod Cells
pub mod Variables
pub mod Verdicts
pub mod SizeTables
pub mod Once
-- laws of meanings
pub mod meaning
