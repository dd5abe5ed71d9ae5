-- what is to be believed: when a world agrees with a meaning, and what every run gives
pub mod Agree
