-- The lines of a record.
pub mod Entries
pub mod Heading
pub mod NextLine
pub mod Reading
pub mod LineLaws
-- What a record is, which records are right, and the verdict on one that isn't. Each file builds on those above it.
pub mod Records
pub mod Right
pub mod Lines
pub mod Judged
pub mod ByLine
pub mod Reaching
pub mod Migration
pub mod OfMatch
pub mod Laws
pub mod internal
-- Scripts of records.
pub mod Scripting
pub mod Writing
