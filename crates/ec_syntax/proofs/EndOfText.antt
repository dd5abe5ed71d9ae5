-- The end of a text stands in no rule but that of programs, so a program's tokens end there.
pub mod Inside
pub mod Grammar
pub mod Texts
