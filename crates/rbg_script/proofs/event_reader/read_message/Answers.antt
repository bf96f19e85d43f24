-- A text is the line of one message at most.
use Rattle.rbg_script.proofs.Apart.{message_only}
use Rattle.rbg_script.proofs.event_reader.read_message.Goals as goal

pub returns-clause-only : goal.returns-clause-only
returns-clause-only c = message_only _ _ c.message_in.ensures.found c.message_in.ensures.none
