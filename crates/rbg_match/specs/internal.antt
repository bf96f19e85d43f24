-- Definitions that only the contracts of private functions and the proofs use.
pub mod Codes
pub mod InputOf
pub mod Inboxes
pub mod Items
pub mod Opening
pub mod PlayOf
pub mod Playable
pub mod Replies
pub mod Saying
