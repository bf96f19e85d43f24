-- What the contracts of this crate cite beside the meaning of a game.
pub mod Start
pub mod Flat
pub mod Nesting
pub mod Closure
pub mod Meeting
pub mod Part
pub mod Met
pub mod Plain
pub mod Searching
pub mod Counting
pub mod Passing
pub mod Forced
pub mod Taken
pub mod Answered
pub mod internal
