-- what single functions rest on
pub mod Lists
pub mod Fibers
-- what the law of effects rests on
pub mod Alone
