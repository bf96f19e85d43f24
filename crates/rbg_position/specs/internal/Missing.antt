-- A text without a board.
use Rattle.std.specs.Prelude.{ℕ, List}
use Rattle.rbg_macro.specs.Text.{HasTokens}
use Rattle.rbg_macro.specs.Token.{Lexeme}
use Rattle.rbg_position.specs.Boards.{BeginsBoard}

-- There is no `#board` in the text.
pub record HasNoBoard (text : List ℕ) : Type 0 where
  pub tokens : List Lexeme
  pub cut : HasTokens text tokens
  pub none : (at : ℕ) → ¬ BeginsBoard tokens at
