-- Bodies of functions.
-- judgements of lists, as loops put them together
pub mod Lists
-- expressions in which nothing is called or allocated
pub mod Headers
-- statements, kind by kind
pub mod Statements
