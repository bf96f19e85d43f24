-- Something differs.
use Rattle.std.proofs.Common.{sym, ◌∙◌}
use Rattle.rbg_position.specs.Refusals.PlacesDiffer.{pieces, player}
use Rattle.rbg_position.proofs.Faults.{differ_text}
use Rattle.rbg_position.proofs.place_values.compare.Goals as goal

pub returns-then-ne-clause-otherwise : goal.returns-then-ne-clause-otherwise
returns-then-ne-clause-otherwise c =
    pieces (λ same. differ_text _ _ c.if-ne.ensures (c.pieces_of.ensures ∙ (same ∙ sym c.pieces_of-2.ensures)))

pub returns-then-here-there-clause-otherwise : goal.returns-then-here-there-clause-otherwise
returns-then-here-there-clause-otherwise c =
    player (sym c.player_of-here.ensures) (sym c.player_of-there.ensures) c.if-here-there.true
