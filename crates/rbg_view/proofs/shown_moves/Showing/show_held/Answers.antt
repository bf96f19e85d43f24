-- After the end of a record nothing may be held.
use Rattle.rbg_view.proofs.Following.{stops_after_end}
use Rattle.rbg_view.specs.internal.Standing.{standing_of}
use Rattle.rbg_view.proofs.shown_moves.Showing.show_held.Goals as goal

pub returns-in-Some-clause-stops : goal.returns-in-Some-clause-stops
returns-in-Some-clause-stops c =
    λ other line is. stops_after_end line c.args.held.now (standing_of c.args.self.now) c.in-Some.field-0 c.requires is c.in-Some.is
