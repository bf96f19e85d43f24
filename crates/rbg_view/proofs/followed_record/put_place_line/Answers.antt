-- Both places have as many vertices and variables.
use Rattle.rbg_view.proofs.Standing.{same_pieces, same_variables}
use Rattle.rbg_view.proofs.followed_record.put_place_line.Goals as goal

pub put_place-requires-clause-pieces : goal.put_place-requires-clause-pieces
put_place-requires-clause-pieces c = same_pieces _ _ _ c.place.ensures.in_game c.requires

pub put_place-requires-clause-variables : goal.put_place-requires-clause-variables
put_place-requires-clause-variables c = same_variables _ _ _ c.place.ensures.in_game c.requires
