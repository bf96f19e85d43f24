-- What the proofs of this crate share.
pub mod PassedLemmas
mod GameFileLemmas
pub mod PassedLaws
