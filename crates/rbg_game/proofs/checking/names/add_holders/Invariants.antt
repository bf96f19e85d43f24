use Rattle.std.proofs.Common.{◌≡◌, ◌++◌, map, take}
use Rattle.rbg_grammar.specs.Views.{bounded_of}
use Rattle.rbg_game.proofs.Common.{holder_names, AddsBounds}
use Rattle.rbg_game.proofs.checking.names.add_holders.Given as goal

abbrev pub invariant-loop-holder : goal.invariant-loop-holder
invariant-loop-holder l =
    (l.table ≡ l.initial.table ++ holder_names (map bounded_of (take l.holder-index l.holders))) × AddsBounds (map bounded_of (take l.holder-index l.holders)) l.initial.bounds.items l.bounds.items
