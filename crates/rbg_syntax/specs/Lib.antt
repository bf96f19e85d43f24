-- The errors of the parser and their names, and what the parser is shown to do.
pub mod Names
pub mod Faults
pub mod Laws
pub mod internal
