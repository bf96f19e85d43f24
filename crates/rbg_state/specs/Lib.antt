-- What the contracts of this crate cite apart from the meaning of a game.
pub mod History
pub mod Changes
pub mod Equality
pub mod Answer
pub mod Reads
pub mod Evaluation
pub mod Trials
pub mod Rows
