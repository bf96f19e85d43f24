-- The hall hears the events of the script.
use Rattle.std.proofs.Common.{◌∙◌, ap, map}
use Rattle.rbg_script.specs.Events.{event_of}
use Rattle.rbg_hosting.proofs.PastLemmas.{hears_same, stopped_first}
use Rattle.rbg_hosting.proofs.replay.replay_asked.Goals as goal

pub returns-in-Ok : goal.returns-in-Ok
returns-in-Ok g c =
    hears_same g.A.Archive.handed c.args.recorded.now c.hear_all.new.recorded c.args.out.now c.hear_all.new.out _ _ c.hear_all.result
    (ap (map event_of) c.as_slice.ensures.value ∙ c.in-Ok.ensures) c.hear_all.ensures

pub returns-in-Err : goal.returns-in-Err
returns-in-Err g c starts matches earlier so_far = stopped_first _ so_far
