use Rattle.std.proofs.Common.{refl, ap, not}
use Rattle.rbg_serving.proofs.PollLemmas.{one_polled}
use Rattle.rbg_serving.proofs.rounds.poll.Goals as goal

pub returns-clause-served : goal.returns-clause-served
returns-clause-served g c = λ before heard queued intakes at are.
    one_polled g.L.Line.told g.L.Line.failure_count before heard queued c.args.lines.now c.args.states.now intakes c.args.index at
    c.index-lines-index.result c.poll-polled.new.self _ c.poll-polled.result c.poll-polled.new.buffer
    c.requires.there are c.poll-polled.ensures.told c.requires.live refl (ap not c.is_last.ensures)
