-- Lemmas, by topic.
pub mod FileLemmas
mod MemoryLemmas
mod OutputLemmas
