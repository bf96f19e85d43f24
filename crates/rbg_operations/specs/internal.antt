-- Definitions that only this crate's proofs use.
pub mod Parts
pub mod RecordParts
pub mod RecordCommands
