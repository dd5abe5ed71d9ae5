-- what the functions rest on: phrases one behind the other
pub mod Appending
pub mod Laying
-- what the laws rest on: laid-out tokens are cut into themselves,
pub mod Relexed
-- what was read is written with tokens that a text can give,
pub mod Spellable
-- these tokens are read as the same program,
pub mod Again
-- nothing written of a program tells places,
pub mod Unplaced
-- plain tokens are those of what they are read as,
pub mod Plain
-- and all of it together
pub mod RoundTrip
