-- Lemmas, by topic.
pub mod SameBoards
pub mod Items
pub mod Keys
pub mod Parts
pub mod Texts
pub mod Boards
pub mod BracketedNames
pub mod Definitions
pub mod Faults
pub mod Missing
pub mod Narrow
pub mod Sections
pub mod Spaces
pub mod Tokens
pub mod VertexNames
pub mod WrittenBoards
-- The rest of the rules after an action, and how play goes on from there.
pub mod RestWords
pub mod RestParts
pub mod Renumbered
pub mod RenumberedActs
pub mod GoesOn
pub mod SameMoves
pub mod Beginnings
pub mod RestFound
pub mod RestKeys
