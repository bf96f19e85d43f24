-- The lines of a script.
pub mod Config
pub mod Events
pub mod Inputs
pub mod Laws
pub mod Limits
pub mod Lines
pub mod Scripts
pub mod internal
