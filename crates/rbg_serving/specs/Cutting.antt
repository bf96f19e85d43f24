-- A text without its last line, where that has no line feed.
use Rattle.std.specs.Prelude.{◌≡◌, ℕ, List, ◌++◌, All}
use Rattle.rbg_wire.specs.Bytes.{LacksByte}
use Rattle.rbg_wire.specs.Lines.{line_feed, lines_of}

-- The text is these whole lines, and what stands after the last line feed.
pub record AreWholeLines (text whole : List ℕ) : Type 0 where
  pub lines : List (List ℕ)
  pub rest : List ℕ
  pub is : whole ≡ lines_of lines
  pub lines_end : All (LacksByte line_feed) lines
  pub parts : text ≡ whole ++ rest
  pub lacks : LacksByte line_feed rest
