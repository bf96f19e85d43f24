-- A whole match, from the text of its game on. Each file builds on those above it.
pub mod Refereed
pub mod Played
pub mod Laws
pub mod Answers
pub mod Errors
pub mod Faults
pub mod InputLaws
pub mod Matches
pub mod Printed
pub mod Runs
pub mod Scripts
