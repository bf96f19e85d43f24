-- The meaning of a game, by topic. "Paper" marks what is defined as in Regular Boardgames (AAAI 2019), "own" what this
-- project chose.
pub mod Expression
pub mod Positions
pub mod Words
pub mod State
pub mod Values
pub mod Actions
pub mod Moves
pub mod Places
pub mod Limits
pub mod Questions
pub mod Heavy
pub mod LawfulNames
pub mod Games
pub mod Laws
pub mod Translation
pub mod Table
pub mod Texts
pub mod Meaning
pub mod Codes
pub mod PlaceCodes
pub mod Kept
pub mod Parts
-- The games of the examples.
pub mod ExampleGames
-- The law of this crate.
pub mod SpellingLaws
