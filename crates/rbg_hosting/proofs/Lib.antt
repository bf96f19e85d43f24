-- Lemmas, by topic.
mod AnswerLemmas
mod ArchiveLaws
mod HallLemmas
mod HandingLemmas
mod MomentLemmas
mod PastLemmas
mod PrintedLemmas
mod RecordLemmas
mod RecordedLemmas
mod ResumingLemmas
mod SeatLemmas
mod StandingLemmas
mod TableLemmas
