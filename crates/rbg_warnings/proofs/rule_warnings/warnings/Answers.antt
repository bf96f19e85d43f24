-- The kinds of warnings, one after the other.
use Rattle.std.proofs.Common.{[]}
use Rattle.rbg_warnings.specs.Sifting.{nothing}
use Rattle.rbg_warnings.specs.Warnings.{players_warned, pieces_warned, variables_warned, directions_warned}
use Rattle.rbg_warnings.proofs.Sifting.{sifts_both}
use Rattle.rbg_warnings.proofs.rule_warnings.warnings.Goals as goal

pub returns : goal.returns
unfolding players_warned pieces_warned variables_warned directions_warned
returns c =
    sifts_both _ _ _ _ _ _
    (sifts_both _ _ _ _ _ _
    (sifts_both _ _ _ _ _ _
    (sifts_both _ _ _ _ _ _ c.in_ok-sift_positions.ensures (rw c.players-players.ensures.count at c.in_ok-sift_things.ensures))
    (rw c.pieces.ensures.count at c.in_ok-sift_things-2.ensures))
    (rw (c.saturating_sub-others.ensures, c.players-players.ensures.count, c.variables.ensures.count) at c.in_ok-sift_things-3.ensures))
    (rw c.directions.ensures.count at c.in_ok-sift_things-4.ensures)
    [] (rw c.new-found.ensures.items nothing)
