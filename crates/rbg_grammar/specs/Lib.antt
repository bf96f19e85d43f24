-- The grammar of descriptions: the trees, the tokens that spell them, and what is read of tokens.
pub mod Descriptions
pub mod Examples
pub mod Formed
pub mod Grammar
pub mod Laws
pub mod Phrase
pub mod Reading
pub mod RuleReading
pub mod Sections
pub mod Spells
pub mod Tree
pub mod Views
