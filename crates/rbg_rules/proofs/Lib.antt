-- Lemmas on the definitions of specs/, by topic.
pub mod Common
pub mod ListLemmas
pub mod RunLemmas
pub mod PositionLemmas
pub mod PatternLemmas
pub mod LevelLemmas
pub mod WordLemmas
pub mod MoveLemmas
pub mod PlaceLemmas
pub mod StateLemmas
pub mod Bridge
pub mod TreeLemmas
pub mod TableLemmas
pub mod NameLemmas
pub mod TrimLemmas
pub mod AnswerLemmas
pub mod CutLemmas
pub mod LocalityLemmas
-- Lemmas for the examples.
pub mod ActionsAt
pub mod ExampleLemmas
pub mod ExampleStates
pub mod LookingRight
pub mod Threes
pub mod WithoutEnd
pub mod Offs
-- Crates above cite LegalPairs.
pub mod LegalPairs
