-- The names so far are those of the first players.
use Rattle.std.proofs.Common.{◌≡◌, ◌++◌, take, codes, flat_map}
use Rattle.rbg_record.proofs.players.write_names.Given as goal

abbrev pub invariant-loop-index : goal.invariant-loop-index
invariant-loop-index g l = l.out.items ≡ l.fn.out.items ++ flat_map (λ name. codes " " ++ name) (take l.index (g.G.HasPlayers.game l.game).players)
