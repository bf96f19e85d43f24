-- What the proofs of this crate share.
pub mod Apart
pub mod Digits
pub mod Lacking
pub mod LineLemmas
pub mod Marks
pub mod Parts
pub mod ScriptLemmas
pub mod WholeLines
