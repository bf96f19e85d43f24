-- A line that is none of the others tells nothing, or may be a move.
use Rattle.rbg_base.proofs.Common.{refl, false≢true}
use Rattle.rbg_script.specs.Events.{by_message}
use Rattle.rbg_view.specs.Lines.{passed_over}
use Rattle.rbg_view.proofs.Lines.{event_found, event_line, event_only, no_event, not_silent}
use Rattle.rbg_view.proofs.line.ListLine.read.Goals as goal

pub returns-in-Some : goal.returns-in-Some
returns-in-Some c = (c.in-Some.message.at, by_message _ _ _ c.in-Some.ensures.found)

pub returns-in-Some-2 : goal.returns-in-Some-2
returns-in-Some-2 c =
    event_line c.args.line.now _ c.of_event.result
    (event_found c.args.line.now c.in_ok-event.field-0 c.in-Some-2.event c.in-Some-2.is c.in_ok-event.ensures.found)
    (event_only c.args.line.now c.in_ok-event.field-0 c.in-Some-2.event c.in-Some-2.is c.in_ok-event.ensures.only)
    c.of_event.ensures

pub returns-then-is_silent : goal.returns-then-is_silent
returns-then-is_silent c =
    let none = no_event c.args.line.now c.in_ok-event.field-0 c.in_default-2.is c.in_ok-event.ensures.only in
    (passed_over (c.if-is_silent.ensures.0 refl), λ seat text says. none _ says.1)

pub returns-in-Some-read_version : goal.returns-in-Some-read_version
returns-in-Some-read_version c =
    let none = no_event c.args.line.now c.in_ok-event.field-0 c.in_default-2.is c.in_ok-event.ensures.only in
    (c.in-Some-read_version.ensures.found, not_silent c.args.line.now none (λ over. false≢true (c.if-is_silent.ensures.1 over)))

pub returns-in-Some-record_end : goal.returns-in-Some-record_end
returns-in-Some-record_end c =
    let none = no_event c.args.line.now c.in_ok-event.field-0 c.in_default-2.is c.in_ok-event.ensures.only in
    (c.in-Some-record_end.ensures.found, not_silent c.args.line.now none (λ over. false≢true (c.if-is_silent.ensures.1 over)))

pub returns : goal.returns
returns c =
    let none = no_event c.args.line.now c.in_ok-event.field-0 c.in_default-2.is c.in_ok-event.ensures.only in (
      refl,
      record {
        no_head = λ version is. let told = c.in_default-read_version.ensures.only version is in cc;
        no_end = c.in_default-record_end.ensures.none;
        no_message = λ seat text says. none _ says.1;
        no_silence = not_silent c.args.line.now none (λ over. false≢true (c.if-is_silent.ensures.1 over));
      },
    )
