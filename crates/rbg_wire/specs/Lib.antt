-- Messages and streams.
pub mod Bytes
pub mod Codes
pub mod Cursors
pub mod Inboxes
pub mod Laws
pub mod Limits
pub mod Lines
pub mod Messages
pub mod Reading
pub mod Reads
pub mod Scores
pub mod Streams
pub mod Whole
pub mod Words
pub mod Writing
