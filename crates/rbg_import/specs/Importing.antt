-- What an imported text is.
use Rattle.std.specs.Prelude.{ℕ, ◌≡◌, ◌≤◌, List, ◌++◌, length, take, drop}
use Rattle.rbg_import.specs.declared.board.Board.{Board}
use Rattle.rbg_import.specs.declared.whole_text.Imported.{Imported}
use Rattle.rbg_import.specs.declared.whole_text.Imported.TheVariants.{Text, Faults}
use Rattle.rbg_import.specs.Comments.{Rewrites}
use Rattle.rbg_import.specs.Graphs.{graph_text}

-- these bytes are the graph of a board
pub record IsGraph (bytes : List ℕ) : Type 0 where
  pub board : Board
  pub is : bytes ≡ graph_text board

-- The part between two offsets is replaced by some notes and a graph. In the rest only comments are rewritten.
pub record IsChanged (text new : List ℕ) : Type 0 where
  pub start : ℕ
  pub end : ℕ
  pub in_order : start ≤ end
  pub within : end ≤ length text
  pub before : List ℕ
  pub notes : List ℕ
  pub graph : List ℕ
  pub after : List ℕ
  pub is : new ≡ ((before ++ notes) ++ graph) ++ after
  pub rewrites_before : Rewrites (take start text) (length (take start text)) before
  pub is_graph : IsGraph graph
  pub rewrites_after : Rewrites (drop end text) (length (drop end text)) after

-- The new text is the old one with other comments alone, or with a graph too.
pub data IsImported (text new : List ℕ) : Type 0 where
  comments : Rewrites text (length text) new → IsImported text new
  board : IsChanged text new → IsImported text new

-- the result of an import
abbrev pub ImportsTo : List ℕ → Imported → Type 0
ImportsTo text (Text new) = IsImported text new.items
ImportsTo text (Faults faults) = Unit {0}
