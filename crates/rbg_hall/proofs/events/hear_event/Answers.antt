use Rattle.rbg_base.proofs.Common.{sym, subst, on_err_weaker, on_ok_weaker, OnOk}
use Rattle.rbg_hall.proofs.Common.{HallWrites, hall_of, ledgers_of}
use Rattle.rbg_script.specs.Events.{event_of}
use Rattle.rbg_hall.proofs.Halls.{clock_ticks, hall_stops}
use Rattle.rbg_hall.proofs.events.hear_event.Goals as goal

pub returns-in-Tick-clause-writes : goal.returns-in-Tick-clause-writes
returns-in-Tick-clause-writes g c =
    subst (λ event. OnOk c.tick.result (HallWrites g.W.Log.told (hall_of c.args.tables.now c.args.lines.now) (ledgers_of c.args.tables.now) (event_of event) (hall_of c.tick.new.tables c.args.lines.now) (ledgers_of c.tick.new.tables) c.args.out.now.queued c.tick.new.out.queued)) (sym c.in-Tick.is)
    (on_ok_weaker c.tick.result (clock_ticks g.W.Log.told c.args.tables.now c.tick.new.tables c.args.lines.now c.in-Tick.at c.args.out.now.queued c.tick.new.out.queued) c.tick.ensures.hears)

pub returns-in-Tick-clause-stops : goal.returns-in-Tick-clause-stops
returns-in-Tick-clause-stops g c = on_err_weaker c.tick.result hall_stops c.tick.ensures.stops
