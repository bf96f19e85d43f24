-- Definitions that only the contracts of private functions and the proofs use.
pub mod TableCodes
pub mod TableHearing
pub mod TableParts
pub mod Running
-- Definitions that only the proofs and the contracts of private functions use.
pub mod LogCodes
pub mod LogParts
pub mod Codes
pub mod Due
pub mod First
pub mod Hearing
pub mod Parts
