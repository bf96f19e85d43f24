-- What is told of a place: what stands on the vertices, what the variables hold, and who is to move. Of the first place
-- all is told, and of each later one what has changed since the place before.
use Rattle.std.specs.Prelude.{ℕ, ◌+◌, ◌==◌, nat_lt, if◌then◌else◌, List, [], ◌∷◌, ◌++◌, set, codes, decimal}
use Rattle.std.specs.List.{flat_map}
use Rattle.rbg_rules.specs.Meaning.{AbstractPlace}

-- A piece, or what a variable holds: a letter for each of the first 26 numbers, then the number with a point after it.
unfoldable pub piece_text : ℕ → List ℕ
piece_text piece = if nat_lt piece 26 then (97 + piece) ∷ [] else decimal piece ++ codes "."

-- the pieces on the vertices, in order
abbrev pub pieces_text : List ℕ → List ℕ
pieces_text pieces = flat_map piece_text pieces

-- the pieces and the values of a place, with a bar between them
unfoldable pub whole_text : AbstractPlace → List ℕ
whole_text place = pieces_text place.state.pieces ++ codes "|" ++ pieces_text place.state.values

-- an item that has changed, with its index
abbrev pub change_at : (index before after : ℕ) → List (ℕ × ℕ)
change_at index before after = if before == after then [] else (index, after) ∷ []

-- the items of a list that differ from those of another one, which are numbered from this index on
abbrev pub changes_from : (index : ℕ) → (before after : List ℕ) → List (ℕ × ℕ)
changes_from index [] after = []
changes_from index (x ∷ before) [] = []
changes_from index (x ∷ before) (y ∷ after) = change_at index x y ++ changes_from (index + 1) before after

-- the list with these items in the places of others
abbrev pub changed : List ℕ → List (ℕ × ℕ) → List ℕ
changed items [] = items
changed items (change ∷ changes) = changed (set items change.0 change.1) changes

-- an item that has changed: a space, the item, and its index
unfoldable pub change_text : ℕ × ℕ → List ℕ
change_text change = codes " " ++ piece_text change.1 ++ decimal change.0

abbrev pub changes_text : (before after : List ℕ) → List ℕ
changes_text before after = flat_map change_text (changes_from 0 before after)

-- the pieces and the values that have changed since another place, and the player to move, each after a bar
unfoldable pub place_text : (before place : AbstractPlace) → List ℕ
place_text before place =
    codes "|"
    ++ changes_text before.state.pieces place.state.pieces
    ++ codes "|"
    ++ changes_text before.state.values place.state.values
    ++ codes "|"
    ++ decimal place.state.player
