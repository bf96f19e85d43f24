-- What the rules of a description are by numbers, and why they have none.
pub mod NameNumbers
pub mod Rules
pub mod RuleFaults
pub mod NameTables
pub mod Numbered
pub mod Laws
pub mod internal
-- Which game a description is, which game a text is, and why one is none.
pub mod Names
pub mod Descriptions
pub mod Faults
pub mod Loading
pub mod Layouts
pub mod OneGame
