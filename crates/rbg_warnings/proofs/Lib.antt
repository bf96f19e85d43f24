-- Lemmas, by topic.
mod Parts
mod Names
mod Sifting
mod ActionsAt
