-- Definitions that the crate's own proofs use.
pub mod Orders
pub mod Firsts
pub mod Laying
pub mod Trees
pub mod Tables
pub mod Building
pub mod Prepared
pub mod Compacts
pub mod PlainNodes
