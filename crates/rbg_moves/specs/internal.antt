-- What only the proofs and the private contracts of this crate cite.
pub mod Asking
pub mod Gathering
pub mod Stepping
pub mod Fronts
pub mod Lines
pub mod Drawing
