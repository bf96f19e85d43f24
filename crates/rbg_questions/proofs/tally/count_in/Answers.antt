-- No tally is that of the ending, so its first match is counted.
use Rattle.std.proofs.Common.{refl}
use Rattle.rbg_questions.proofs.Tallies.{first_counted}
use Rattle.rbg_questions.proofs.tally.count_in.Goals as goal

pub returns-in-None : goal.returns-in-None
returns-in-None c =
    first_counted c.push_first.result _ _ _ (rw c.as_slice.ensures.value at (rw c.in-None.is at c.index_of.ensures.none)) refl c.push_first.ensures
