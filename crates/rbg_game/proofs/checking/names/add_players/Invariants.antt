use Rattle.std.proofs.Common.{◌≡◌, ◌++◌, map, take}
use Rattle.rbg_grammar.specs.Views.{bounded_of}
use Rattle.rbg_game.specs.Descriptions.{holder_names}
use Rattle.rbg_game.proofs.checking.names.add_players.Given as goal

abbrev pub invariant-loop-player : goal.invariant-loop-player
invariant-loop-player l = l.table ≡ l.initial.table ++ holder_names (map bounded_of (take l.player-index l.players))
