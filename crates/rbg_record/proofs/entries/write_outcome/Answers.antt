-- Each end has its event.
use Rattle.rbg_base.proofs.Common.{◌≢◌, [], Some, subst, sym, OnOk, All-nil}
use Rattle.rbg_wire.specs.declared.outcome.Outcome.{Outcome}
use Rattle.rbg_wire.specs.Lines.{line_feed}
use Rattle.rbg_script.specs.Events.{end_of_stream, moment_alone}
use Rattle.rbg_record.specs.Scripting.{end_events}
use Rattle.rbg_record.specs.internal.Telling.{AppendsEvents}
use Rattle.rbg_record.proofs.EventLines.{tells_event, tells_message}
use Rattle.rbg_record.proofs.entries.write_outcome.Goals as goal

pub returns-in-Time : goal.returns-in-Time
returns-in-Time c =
    subst (λ (one : Outcome). OnOk c.write_tick.result (AppendsEvents (end_events c.args.at (Some one)) c.args.out.now.items c.write_tick.new.out.items)) (sym c.in-Time.is)
    (tells_event (moment_alone c.args.at) c.args.out.now.items c.write_tick.new.out.items c.write_tick.result c.write_tick.ensures.spelled c.write_tick.ensures.written)

pub returns-in-Refusals : goal.returns-in-Refusals
returns-in-Refusals c =
    subst (λ (one : Outcome). OnOk c.write_message.result (AppendsEvents (end_events c.args.at (Some one)) c.args.out.now.items c.write_message.new.out.items)) (sym c.in-Refusals.is)
    (tells_message c.in-Refusals.player c.args.at [] c.args.out.now.items c.write_message.new.out.items c.write_message.result c.write_message.ensures.spelled (All-nil (λ byte. byte ≢ line_feed)) c.write_message.ensures.written)

pub returns-in-Gone : goal.returns-in-Gone
returns-in-Gone c =
    subst (λ (one : Outcome). OnOk c.write_end.result (AppendsEvents (end_events c.args.at (Some one)) c.args.out.now.items c.write_end.new.out.items)) (sym c.in-Gone.is)
    (tells_event (end_of_stream c.in-Gone.player c.args.at) c.args.out.now.items c.write_end.new.out.items c.write_end.result c.write_end.ensures.spelled c.write_end.ensures.written)
