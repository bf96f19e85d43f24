-- A match in play continues to the moment.
use Rattle.std.proofs.Common.{Option, subst, sym, OnOk}
use Rattle.rbg_wire.specs.declared.outcome.Outcome.{Outcome}
use Rattle.rbg_script.specs.Events.{moment_alone}
use Rattle.rbg_record.specs.Scripting.{end_events}
use Rattle.rbg_record.specs.internal.Telling.{AppendsEvents}
use Rattle.rbg_record.proofs.EventLines.{tells_event}
use Rattle.rbg_record.proofs.entries.write_ended.Goals as goal

pub returns-in-None : goal.returns-in-None
returns-in-None c =
    subst (λ (one : Option Outcome). OnOk c.write_tick.result (AppendsEvents (end_events c.args.at one) c.args.out.now.items c.write_tick.new.out.items)) (sym c.in-None.is)
    (tells_event (moment_alone c.args.at) c.args.out.now.items c.write_tick.new.out.items c.write_tick.result c.write_tick.ensures.spelled c.write_tick.ensures.written)
