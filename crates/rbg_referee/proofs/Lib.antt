-- Lemmas, by topic.
pub mod CallerLemmas
mod HandlingLemmas
mod OneOutboxLemmas
pub mod RefereedLemmas
pub mod AnswerLemmas
mod ApartLemmas
pub mod RunCallerLemmas
mod ErrorLemmas
mod PlayedLemmas
mod PrintedLemmas
mod SayableLemmas
mod WholeLemmas
