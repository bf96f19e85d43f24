-- The states of the examples in which white moves: on one square, and on two.
use Rattle.std.proofs.Common.{[], ◌∷◌}
use Rattle.rbg_rules.specs.Meaning.{AbstractState}
use Rattle.rbg_rules.specs.ExampleGames.{state_of}

-- before an off on one square, and after one of w
abbrev pub start : AbstractState
start = state_of 1 (0 ∷ []) 0

abbrev pub with_piece : AbstractState
with_piece = state_of 1 (1 ∷ []) 0

-- on the first of two squares, on the second, there after an off of w, and after a switch after it
abbrev pub at_first : AbstractState
at_first = state_of 1 (0 ∷ 0 ∷ []) 0

abbrev pub at_second : AbstractState
at_second = record { player = 1; pieces = 0 ∷ 0 ∷ []; values = 0 ∷ 0 ∷ 0 ∷ []; vertex = 1 }

abbrev pub after_off : AbstractState
after_off = record { player = 1; pieces = 0 ∷ 1 ∷ []; values = 0 ∷ 0 ∷ 0 ∷ []; vertex = 1 }

abbrev pub after_switch : AbstractState
after_switch = record { player = 2; pieces = 0 ∷ 1 ∷ []; values = 0 ∷ 0 ∷ 0 ∷ []; vertex = 1 }
