-- A text is that of one event at most.
use Rattle.rbg_script.proofs.Apart.{event_only}
use Rattle.rbg_script.proofs.event_reader.read_event.Goals as goal

pub returns-clause-only : goal.returns-clause-only
returns-clause-only c = event_only _ _ c.event_in.ensures.found c.event_in.ensures.none
