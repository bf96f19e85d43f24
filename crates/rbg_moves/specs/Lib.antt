-- Places of play, and the moves that lead from one to the next.
pub mod Answers
pub mod Equality
pub mod Listing
pub mod Limits
pub mod Settling
pub mod Tallying
pub mod internal
-- Where play begins, a place with its game, where a game that is played move by move stands, and where a move leads.
pub mod GamePlaces
pub mod Moving
pub mod Playing
pub mod Starting
