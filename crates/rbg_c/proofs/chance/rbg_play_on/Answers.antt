-- The copy is played on.
use Rattle.rbg_c.proofs.ByChance.{copies_from}
use Rattle.rbg_c.proofs.chance.rbg_play_on.Goals as goal

pub returns-in-Some-clause-to : goal.returns-in-Some-clause-to
returns-in-Some-clause-to c = copies_from _ _ _ _ _ _ _ _ c.in-Some.ensures.taken c.deref.ensures c.play_copy-result.ensures
