-- The steps of the rules, by topic.
pub mod Steps
pub mod OfTree
pub mod Laws
pub mod LentSteps
pub mod internal
