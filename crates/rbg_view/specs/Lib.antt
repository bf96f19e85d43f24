-- How a game that is followed goes on, what the lines of a list are and mean, how they are followed, and how the end of
-- a match is told.
pub mod Endings
pub mod Following
pub mod Lines
pub mod Moving
pub mod Readings
pub mod Showing
pub mod internal
-- A match as a page. Each file builds on those above it.
pub mod Texts
pub mod Places
pub mod Boards
pub mod Telling
pub mod Pages
pub mod Laws
