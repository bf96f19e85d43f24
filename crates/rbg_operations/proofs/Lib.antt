-- Lemmas, by topic.
mod ListingLemmas
pub mod AnswerLemmas
mod JudgingLemmas
mod LawLemmas
mod OpeningLemmas
mod ReadingLemmas
mod RecordRunLemmas
mod RecordedLemmas
mod RunLemmas
