-- What only the proofs and the private contracts of this crate cite.
pub mod Asked
pub mod Beyond
pub mod BySets
pub mod Finding
pub mod Fitting
pub mod Held
pub mod Shown
pub mod Spent
pub mod Straight
pub mod Taking
pub mod Trying
pub mod DeadWords
