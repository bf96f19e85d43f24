use Rattle.rbg_wire.specs.Words.{words_left}
use Rattle.rbg_record.proofs.PlayerNames.{AreFirstNames}
use Rattle.rbg_record.proofs.asking.are_players.Given as goal

abbrev pub invariant-loop-player : goal.invariant-loop-player
invariant-loop-player l = AreFirstNames (words_left l.fn.names) l.game.players (words_left l.left) l.player
