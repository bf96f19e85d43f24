-- Lemmas, by topic.
pub mod Common
pub mod Bits
pub mod Cases
pub mod Fillings
pub mod Layings
pub mod Places
pub mod ShiftLemmas
pub mod Sharing
pub mod Interning
pub mod Steppings
pub mod Tabling
pub mod Targets
