-- The lines of a text. Each line ends with a line feed; the last one may lack it.
use Rattle.std.specs.Prelude.{◌≡◌, ℕ, List, [], ◌∷◌, ◌++◌, All}
use Rattle.rbg_wire.specs.Bytes.{LacksByte}
use Rattle.rbg_wire.specs.Lines.{line_feed, lines_of}

-- what follows the last line feed: one more line, or nothing
abbrev pub last_line : List ℕ → List (List ℕ)
last_line [] = []
last_line (byte ∷ bytes) = (byte ∷ bytes) ∷ []

-- The text has these lines: whole ones, each with its line feed, and what follows the last line feed.
pub record HasLines (text : List ℕ) (lines : List (List ℕ)) : Type 0 where
  pub whole : List (List ℕ)
  pub rest : List ℕ
  pub parts : text ≡ lines_of whole ++ rest
  pub lines_end : All (LacksByte line_feed) whole
  pub rest_lacks : LacksByte line_feed rest
  pub are : lines ≡ whole ++ last_line rest
