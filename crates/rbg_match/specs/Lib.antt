-- What a match is, by topic. Each file builds on those above it.
pub mod Limits
pub mod Config
pub mod Deliveries
pub mod Play
pub mod PlayingOn
pub mod History
pub mod Handling
pub mod Inputs
pub mod Arrivals
pub mod Transcript
pub mod Matches
pub mod Laws
pub mod internal
