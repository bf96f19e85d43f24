-- Leaps, by topic.
pub mod Leaps
pub mod Origin
pub mod Asked
pub mod Limits
pub mod Entries
pub mod Made
pub mod internal
