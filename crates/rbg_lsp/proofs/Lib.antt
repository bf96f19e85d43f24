-- Lemmas, by topic.
mod Layouts
