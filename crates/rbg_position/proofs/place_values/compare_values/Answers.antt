-- One variable more holds the same, or another number.
use Rattle.rbg_position.specs.Refusals.PlacesDiffer.{value}
use Rattle.rbg_position.proofs.Items.{same_more}
use Rattle.rbg_position.proofs.place_values.compare_values.Goals as goal

pub returns-then-here-there-clause-otherwise : goal.returns-then-here-there-clause-otherwise
returns-then-here-there-clause-otherwise c =
    value (record { at_here = c.value_of-here.ensures; at_there = c.value_of-there.ensures; other = c.if-here-there.true })

pub loop-index-preserved : goal.loop-index-preserved
loop-index-preserved c =
    same_more _ _ _ _ _ c.loop-index.invariant c.value_of-here.ensures c.value_of-there.ensures c.if-here-there.false
