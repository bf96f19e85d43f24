-- Lines: texts that end with a line feed.
use Rattle.std.specs.Prelude.{ℕ, List, [], ◌∷◌, ◌++◌}
use Rattle.std.specs.List.{flat_map}

-- the byte of a line feed
abbrev pub line_feed : ℕ
line_feed = 10

-- the line of a text: the text, and a line feed
abbrev pub line_of : List ℕ → List ℕ
line_of text = text ++ line_feed ∷ []

-- the lines of these texts, one after the other
abbrev pub lines_of : List (List ℕ) → List ℕ
lines_of texts = flat_map line_of texts
