-- Lemmas about what the parser returns.
pub mod Answers
pub mod Descriptions
pub mod Exits
pub mod Faults
pub mod Fronts
pub mod Parts
pub mod Places
pub mod SectionLists
mod Separated
