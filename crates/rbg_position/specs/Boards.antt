-- The section of the board among the tokens of a text, and the text with another one in its place.
use Rattle.std.specs.Prelude.{◌≡◌, ℕ, ◌+◌, ◌-◌, ◌<◌, ◌≤◌, true, false, List, ◌++◌, length, take, drop, slice_get, Some, codes}
use Rattle.rbg_macro.specs.Kinds.{is_symbol}
use Rattle.rbg_macro.specs.declared.token.Symbol.TheVariants as symbols
use Rattle.rbg_macro.specs.Text.{HasTokens}
use Rattle.rbg_macro.specs.Token.{Lexeme}

-- `#board` is here.
pub record BeginsBoard (tokens : List Lexeme) (at : ℕ) : Type 0 where
  pub hash : Lexeme
  pub name : Lexeme
  pub at_hash : slice_get tokens at ≡ Some hash
  pub at_name : slice_get tokens (at + 1) ≡ Some name
  pub is_hash : is_symbol symbols.Hash hash.kind ≡ true
  pub is_board : name.text ≡ codes "board"

-- The tokens from `start` up to `end` are the section of the board: `#board`, and what comes before the next `#`.
pub record IsBoardSection (tokens : List Lexeme) (start end : ℕ) : Type 0 where
  pub begins : BeginsBoard tokens start
  pub after : start + 2 ≤ end
  pub within : end ≤ length tokens
  pub inside : (k : ℕ) (token : Lexeme) →
      start + 2 ≤ k →
      k < end →
      slice_get tokens k ≡ Some token → is_symbol symbols.Hash token.kind ≡ false
  pub ends : (token : Lexeme) → slice_get tokens end ≡ Some token → is_symbol symbols.Hash token.kind ≡ true

-- The new text is the old one with this section in place of that of its board. The text before the first token of that
-- section, and after its last one, is the same.
pub record IsRewritten (text section new : List ℕ) : Type 0 where
  pub tokens : List Lexeme
  pub cut : HasTokens text tokens
  pub start : ℕ
  pub end : ℕ
  pub is_section : IsBoardSection tokens start end
  pub first : Lexeme
  pub last : Lexeme
  pub at_first : slice_get tokens start ≡ Some first
  pub at_last : slice_get tokens (end - 1) ≡ Some last
  pub is : new ≡ take first.at text ++ section ++ drop (last.at + length last.text) text
