-- The match is told, or it isn't played.
use Rattle.rbg_questions.proofs.Sampled.{sample_refused, sample_told}
use Rattle.rbg_questions.proofs.session.Session.play_sample.Goals as goal

pub returns-clause-answers : goal.returns-clause-answers
returns-clause-answers c = rw (← c.self.view_is) (sample_told _ _ _ _ _ _ (rw c.new-here.ensures at c.write_sample.ensures.sampled))

pub returns-clause-refused : goal.returns-clause-refused
returns-clause-refused c = rw (← c.self.view_is) (sample_refused _ _ _ _ (rw c.new-here.ensures at c.write_sample.ensures.unsampled))
