-- Definitions that the crate's own proofs use.
pub mod Sets
pub mod Table
pub mod Places
pub mod Begun
pub mod Shown
pub mod Leading
pub mod Passing
pub mod Gathering
pub mod Counted
pub mod Bits
pub mod Ending
pub mod Setting
pub mod Walking
