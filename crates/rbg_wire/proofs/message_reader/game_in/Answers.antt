-- The text has no zero byte.
use Rattle.rbg_wire.proofs.MessageLemmas.{no_game, spells_game, first_stands}
use Rattle.rbg_wire.proofs.message_reader.game_in.Goals as goal

pub returns-in-None : goal.returns-in-None
returns-in-None c = (spells_game _ c.in-None.ensures.none, tt)

pub returns-in-Some : goal.returns-in-Some
returns-in-Some c = no_game _ (first_stands 0 _ _ c.in-Some.ensures.found)
