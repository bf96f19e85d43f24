-- Texts that are read line by line.
use Rattle.std.specs.Prelude.{◌≡◌, ℕ, List, ◌++◌, All}
use Rattle.rbg_wire.specs.Bytes.{LacksByte}
use Rattle.rbg_wire.specs.Lines.{line_feed, lines_of}

-- The lines before what is left of a text are whole.
pub record WholeSoFar (text left : List ℕ) : Type 0 where
  pub lines : List (List ℕ)
  pub whole : All (LacksByte line_feed) lines
  pub parts : text ≡ lines_of lines ++ left
