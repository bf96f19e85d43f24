-- The matches are told, or one of them isn't played to its end, or there was no memory.
use Rattle.rbg_questions.specs.Answering.{unplayed}
use Rattle.rbg_questions.proofs.Answering.{plays_matches}
use Rattle.rbg_base.proofs.Errors.{passed_on}
use Rattle.rbg_questions.proofs.session.Session.play_by_chance.Goals as goal

pub returns-in_err-tallies-clause-refused : goal.returns-in_err-tallies-clause-refused
returns-in_err-tallies-clause-refused c =
    rw (← c.self.view_is) (passed_on c.from_residual.result c.in_err-tallies.field-0.0 _ c.from_residual.ensures.1 (unplayed (rw c.new-here.ensures at c.in_err-tallies.ensures.unplayed)))

pub returns-clause-answers : goal.returns-clause-answers
returns-clause-answers c =
    rw (← c.self.view_is)
    (plays_matches _ _ _ _ _ _ (rw c.new-here.ensures at c.in_ok-tallies.ensures.tallied) (rw c.as_slice.ensures.value at c.in_ok-write_matches.ensures.ok))
