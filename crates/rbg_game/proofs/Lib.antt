-- Lemmas on the definitions of specs/, by topic.
pub mod NumberingCommon
pub mod Lists
pub mod NameLemmas
pub mod LookUps
pub mod ArithmeticLemmas
pub mod ActionLemmas
pub mod StepLemmas
pub mod StepFaults
pub mod RuleNumbering
pub mod Reaching
pub mod RuleLaws
pub mod RuleFaults
pub mod OneNumbering
pub mod Common
pub mod NameFaults
pub mod BoardNames
pub mod Joining
pub mod NamedRows
pub mod NamedGraphs
pub mod GraphSteps
pub mod GraphFaults
pub mod Assembly
pub mod FaultLaw
mod LoadingLemmas
mod OneGameLists
mod OneGameBoards
pub mod OneGame
