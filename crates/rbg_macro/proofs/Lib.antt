-- Lemmas.
pub mod TextCommon
pub mod OneReading
mod Parts
mod Scan
pub mod SpeltTokens
pub mod Words
pub mod ZeroBytes
pub mod Common
mod Arguments
mod CallLemmas
mod Chains
mod Defined
mod Exits
mod Failing
mod Filled
mod Heads
mod JoinedLists
mod Marks
mod Names
pub mod OneExpansion
pub mod OneFault
mod Reading
mod Sections
mod Spans
pub mod SpeltExpansions
mod SpeltJoins
