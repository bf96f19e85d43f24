-- The matches after each move are told, or they aren't played.
use Rattle.rbg_questions.proofs.Searched.{search_refused, search_told}
use Rattle.rbg_questions.proofs.session.Session.search_moves.Goals as goal

pub returns-clause-answers : goal.returns-clause-answers
returns-clause-answers c = rw (← c.self.view_is) (search_told _ _ _ _ _ _ (rw c.new-here.ensures at c.write_search.ensures.searched))

pub returns-clause-refused : goal.returns-clause-refused
returns-clause-refused c = rw (← c.self.view_is) (search_refused _ _ _ _ (rw c.new-here.ensures at c.write_search.ensures.unsearched))
