-- The players ask with the message that asks.
use Rattle.std.proofs.Common.{◌∙◌, ap}
use Rattle.rbg_hosting.specs.Pasts.{script_from}
use Rattle.rbg_script.specs.Scripts.{script_of}
use Rattle.rbg_hosting.proofs.PastLemmas.{hears_same, stopped_first}
use Rattle.rbg_hosting.proofs.replay.replay_script.Goals as goal

pub returns-in-Ok : goal.returns-in-Ok
returns-in-Ok g c =
    hears_same g.A.Archive.handed c.args.recorded.now c.replay_asked.new.recorded c.args.out.now c.replay_asked.new.out _ _ c.replay_asked.result
    (ap (λ text. script_from text c.args.seats.line c.args.seats.players (script_of c.args.script.now)) (c.as_slice.ensures.value ∙ c.in-Ok.ensures)) c.replay_asked.ensures

pub returns-in-Err : goal.returns-in-Err
returns-in-Err g c starts matches earlier so_far = stopped_first _ so_far
