-- What a session of questions is, and what it answers. Each file builds on those above it.
pub mod Limits
pub mod Keys
pub mod Packing
pub mod Questions
pub mod Misfits
pub mod Sessions
pub mod Places
pub mod Chance
pub mod Fields
pub mod Shapes
pub mod Summary
pub mod Counting
pub mod Searching
pub mod Answers
pub mod Answering
pub mod Laws
pub mod internal
-- Why sequences of moves are not counted.
pub mod Refusals
-- What is told of matches that were played by chance. Such matches from the beginning of play.
pub mod Playing
