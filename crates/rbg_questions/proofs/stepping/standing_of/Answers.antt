-- There is no legal move, or there are some.
use Rattle.rbg_questions.proofs.Counted.{stands_on_some, stands_over_none}
use Rattle.rbg_questions.proofs.stepping.standing_of.Goals as goal

pub returns-then-count-eq0 : goal.returns-then-count-eq0
returns-then-count-eq0 c = stands_over_none _ _ _ _ c.requires c.if-count-eq0.true c.scores.ensures.values

pub returns : goal.returns
returns c = stands_on_some _ _ _ _ c.requires c.if-count-eq0.false c.player.ensures
