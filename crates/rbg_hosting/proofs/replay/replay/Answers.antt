-- The hall hears the script of the log, or nothing.
use Rattle.rbg_hosting.proofs.PastLemmas.{hears_same, nothing_heard, past_none, past_some}
use Rattle.rbg_hosting.proofs.replay.replay.Goals as goal

pub returns-in-Some : goal.returns-in-Some
returns-in-Some g c =
    hears_same g.A.Archive.handed c.args.recorded.now c.replay_script.new.recorded c.args.out.now c.replay_script.new.out _ _ c.replay_script.result
    (past_some c.args.seats.number c.args.seats.line c.args.seats.players c.args.past.now c.in-Some.script c.in-Some.is) c.replay_script.ensures

pub returns-in-None : goal.returns-in-None
returns-in-None g c starts matches earlier so_far =
    nothing_heard _ (past_none c.args.seats.number c.args.seats.line c.args.seats.players c.args.past.now c.in-None.is) so_far
