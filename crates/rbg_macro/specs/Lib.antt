-- Tokens of a text, by topic. The folder `internal` is for the crate's own proofs.
pub mod TextLimits
pub mod Token
pub mod Kinds
pub mod Spelling
pub mod Text
pub mod Lines
pub mod TextLaws
pub mod internal
-- Sections, macros and their expansion, by topic.
pub mod Limits
pub mod Names
pub mod Sections
pub mod Steps
pub mod Errors
pub mod Macro
pub mod Call
pub mod Definition
pub mod Joining
pub mod Expansion
pub mod Laws
