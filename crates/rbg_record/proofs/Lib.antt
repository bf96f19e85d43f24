-- What the proofs of this crate share.
pub mod LineCommon
pub mod Apart
pub mod Lacking
pub mod LineReading
pub mod Stopping
-- Lemmas, by topic.
pub mod Common
pub mod Beginning
pub mod Deciding
pub mod EntryLemmas
pub mod Fitting
pub mod Following
pub mod Leading
pub mod MatchRight
pub mod MatchSpelled
pub mod MigratingLemmas
pub mod OneEnd
pub mod OnePlain
pub mod OneRecordLemmas
pub mod PlayerNames
pub mod Saying
pub mod SoFarLemmas
pub mod Telling
pub mod WrittenLemmas
mod EventLines
mod TellingLemmas
