-- What the proofs of this crate share.
pub mod Common
pub mod ByteLemmas
pub mod CursorLemmas
pub mod CutLemmas
pub mod FieldLemmas
pub mod InboxLemmas
pub mod Items
pub mod Kept
pub mod LawLemmas
pub mod MessageLemmas
pub mod NumberLemmas
pub mod OutcomeLemmas
pub mod PairLemmas
pub mod ReadsLemmas
pub mod ScoreLemmas
pub mod WholeLemmas
pub mod WordLemmas
