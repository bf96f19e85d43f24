-- The digits follow the moment.
use Rattle.rbg_script.specs.Events.{SpellsBytes, by_digits}
use Rattle.rbg_script.proofs.Apart.{bad_digits, some_here, none_here}
use Rattle.rbg_script.proofs.event_reader.piece_in.Goals as goal

pub returns-in_default-2-clause-none : goal.returns-in_default-2-clause-none
returns-in_default-2-clause-none c = bad_digits _ _ _ _ c.in-Some.ensures.found (none_here _ c.in_default-2.is c.in_ok-bytes.ensures.none)

pub returns-clause-found : goal.returns-clause-found
returns-clause-found c =
    by_digits _ _ _ _ c.in-Some.ensures.found (some_here (λ bytes. SpellsBytes c.in-Some.fields.rest.now bytes.items) _ _ c.in-Some-2.is c.in_ok-bytes.ensures.found)
