-- A description, the line `%%` and a script, in one text.
use Rattle.std.specs.Prelude.{◌≡◌, ◌≢◌, ℕ, ◌⊎◌, List, [], ◌++◌, codes, All}
use Rattle.rbg_wire.specs.Bytes.{LacksByte}
use Rattle.rbg_wire.specs.Lines.{line_feed, line_of, lines_of}

-- the line between the description and the script
abbrev pub mark : List ℕ
mark = codes "%%"

-- The input is a description, the mark, and a script. The description is whole lines, and none of them is the mark. The
-- mark has its line feed, or the input ends with it, and then the script is empty.
pub record IsInput (input description script : List ℕ) : Type 0 where
  pub lines : List (List ℕ)
  pub described : description ≡ lines_of lines
  pub whole : All (LacksByte line_feed) lines
  pub unmarked : All (λ line. line ≢ mark) lines
  pub parts : (input ≡ description ++ line_of mark ++ script) ⊎ ((input ≡ description ++ mark) × (script ≡ []))
