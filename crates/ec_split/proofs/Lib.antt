-- what single functions rest on
pub mod Ranges
pub mod Small
-- what the clauses of `split` rest on: the code is owed, and valid
pub mod Exprs
pub mod Owing
pub mod Validity
