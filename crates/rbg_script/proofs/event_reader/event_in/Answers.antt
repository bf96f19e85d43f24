-- A message is a piece.
use Rattle.std.proofs.Common.{subst, sym}
use Rattle.rbg_script.specs.Events.{SpellsEvent, by_message}
use Rattle.rbg_script.proofs.event_reader.event_in.Goals as goal

pub returns-in-Some-clause-found : goal.returns-in-Some-clause-found
returns-in-Some-clause-found c = subst (SpellsEvent c.args.line.now) (sym c.in_ok-piece_of.ensures) (by_message _ _ _ c.in-Some.ensures.found)
