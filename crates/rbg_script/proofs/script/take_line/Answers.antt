-- The event of the line is added after the others.
use Rattle.rbg_base.proofs.Common.{refl, ap, map, ◌∙◌, map-append}
use Rattle.rbg_script.specs.Events.{SpellsEvent, owned_event_of}
use Rattle.rbg_script.specs.internal.Reading.{taken, not_taken}
use Rattle.rbg_script.proofs.Apart.{some_here, no_event_here}
use Rattle.rbg_script.proofs.script.take_line.Goals as goal

pub returns-in_default : goal.returns-in_default
returns-in_default c = not_taken (no_event_here _ _ c.in_default.is c.in_ok-event.ensures.only) refl

pub returns : goal.returns
returns c =
    taken (owned_event_of c.in-Some.event) (some_here (λ event. SpellsEvent c.args.line.now (owned_event_of event)) _ _ c.in-Some.is c.in_ok-event.ensures.found)
    (ap (map owned_event_of) c.in_ok-push.ensures.items ∙ map-append owned_event_of c.args.events.now.items _)
