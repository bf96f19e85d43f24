mod AnswerLemmas
mod HearingLemmas
mod LawLemmas
mod StreamLemmas
