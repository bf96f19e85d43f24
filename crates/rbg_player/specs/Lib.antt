-- What a player receives and sends, by topic. Each file builds on those above it.
pub mod Limits
pub mod Players
pub mod Hearing
pub mod Streams
pub mod Laws
pub mod internal
