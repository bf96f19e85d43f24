pub mod Actions
pub mod Excerpts
-- The warnings of a game for its author.
pub mod Sifting
pub mod Warnings
pub mod internal
