use Rattle.std.proofs.Common.{◌≡◌, length, map, take, false}
use Rattle.rbg_match.proofs.Common.{seats_of, HasHistory, StepsAll}
use Rattle.rbg_script.specs.Events.{event_of}
use Rattle.rbg_referee.proofs.refereeing.handle_all.Given as goal

abbrev pub invariant-loop-done : goal.invariant-loop-done
invariant-loop-done l =
    StepsAll l.initial.refereed l.initial.outbox (map event_of (take l.done l.events)) l.refereed l.outbox
    × (length l.outbox ≡ seats_of l.refereed.game)
    × (l.refereed.failed ≡ false)
    × (HasHistory l.initial.refereed → HasHistory l.refereed)
