-- What the proofs of this crate share. Crates above cite Common, CallerLemmas and Errors.
pub mod Common
pub mod Numerals
pub mod CallerLemmas
pub mod Errors
mod Lists
