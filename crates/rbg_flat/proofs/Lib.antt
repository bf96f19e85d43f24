-- Lemmas, by topic.
pub mod Common
pub mod ChainLemmas
pub mod Listings
pub mod Steps
pub mod WordLemmas
pub mod SetLemmas
pub mod PlaceLemmas
pub mod Meetings
pub mod ModifierLemmas
pub mod Leadings
pub mod Leaping
pub mod Takings
pub mod Passings
pub mod Wordwise
pub mod ToTry
mod Trying
pub mod Doing
pub mod Lists
pub mod Ones
pub mod Spellings
pub mod Onwards
pub mod Switches
pub mod FirstSwitches
pub mod Having
pub mod Gatherings
pub mod Numberings
pub mod Countings
pub mod Finishings
pub mod Stills
mod Endings
mod Walkings
pub mod Crossings
