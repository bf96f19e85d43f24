-- What only the proofs and the private contracts of this crate cite.
pub mod Holding
pub mod Stopping
pub mod Trying
pub mod Standing
