-- What only the contracts of private functions and this crate's proofs cite.
pub mod Arithmetic
pub mod Actions
pub mod Steps
pub mod Tables
pub mod Holders
pub mod Things
pub mod Boards
pub mod Graphs
