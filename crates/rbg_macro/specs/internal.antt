-- What only the contracts of private functions and this crate's proofs cite.
pub mod Part
-- What only the contracts of private functions, the models and this crate's proofs cite.
pub mod Calls
pub mod Defines
pub mod Gives
pub mod Joined
pub mod Marks
pub mod ExpandedTokens
pub mod ReadTokens
pub mod Span
pub mod Template
