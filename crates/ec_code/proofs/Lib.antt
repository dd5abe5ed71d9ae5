-- what limits rest on
pub mod Bits
-- what walks along fibers rest on
pub mod Ends
