-- Lemmas, by topic.
mod WishLemmas
mod WordLemmas
