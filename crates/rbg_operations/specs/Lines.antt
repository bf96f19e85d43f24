-- The printed lines of moves, and of how a match ended in its opening.
use Rattle.std.specs.Prelude.{ℕ, Bool, true, false, List, [], ◌++◌, codes, decimal}
use Rattle.std.specs.List.{flat_map}
use Rattle.rbg_wire.specs.Messages.{pairs_text}
use Rattle.rbg_wire.specs.declared.outcome.Outcome.{Outcome}
use Rattle.rbg_wire.specs.declared.outcome.Outcome.TheVariants.{Finished, Time, Refusals, Gone, Heavy}
use Rattle.rbg_match.specs.declared.made.Made.{Made}

-- `made <player> <pairs>`: a move of the opening
abbrev pub made_line : Made → List ℕ
made_line made = codes "made " ++ decimal made.player ++ codes " " ++ pairs_text made.pairs ++ codes "\n"

-- `move <player> <pairs>`: a legal move of a player
abbrev pub move_line : (player : ℕ) → (pairs : List (ℕ × ℕ)) → List ℕ
move_line player pairs = codes "move " ++ decimal player ++ codes " " ++ pairs_text pairs ++ codes "\n"

-- `cut`: there are more legal moves
abbrev pub cut_text : Bool → List ℕ
cut_text true = codes "cut\n"
cut_text false = []

-- each number, with a space before it
abbrev pub numbers_text : List ℕ → List ℕ
numbers_text numbers = flat_map (λ number. codes " " ++ decimal number) numbers

-- `finished <scores>`, or `over`: a question is above the limits, or the keeper moved too often
unfoldable pub end_text : Outcome → List ℕ
end_text (Finished scores) = codes "finished" ++ numbers_text scores ++ codes "\n"
end_text (Time player) = codes "over\n"
end_text (Refusals player) = codes "over\n"
end_text (Gone player) = codes "over\n"
end_text Heavy = codes "over\n"
