-- The line is followed, or it stops and this is told.
use Rattle.rbg_view.specs.internal.Standing.{standing_of}
use Rattle.rbg_view.proofs.Lists.{line_stopped}
use Rattle.rbg_view.proofs.shown_moves.Showing.show_or_stop.Goals as goal

pub returns-in-Ok : goal.returns-in-Ok
returns-in-Ok c = record { bare = c.without_return.result.now; is_bare = c.without_return.ensures; follows = c.in-Ok.ensures.follows }

pub returns-in_ok-write_stop-in-Err : goal.returns-in_ok-write_stop-in-Err
returns-in_ok-write_stop-in-Err c =
    line_stopped c.args.line.now c.without_return.result.now c.args.number (standing_of c.args.self.now) c.in-Err.stop c.show_line.new.self c.write_stop.new.self
    c.without_return.ensures (c.in-Err.ensures.stops c.in_ok-write_stop-in-Err.ensures.known) c.write_stop.ensures.play c.in_ok-write_stop-in-Err.ensures.told
