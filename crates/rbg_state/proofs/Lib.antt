-- Lemmas, by topic.
pub mod Histories
pub mod Pasts
pub mod Counts
pub mod Fits
pub mod OneMore
pub mod Applying
pub mod Reading
pub mod Chains
pub mod Trying
pub mod RowLemmas
