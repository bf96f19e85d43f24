-- Why a text is no description, in numbers.
use Rattle.std.specs.Prelude.{◌≡◌, ◌+◌, ℕ, List}
use Rattle.rbg_board.specs.declared.error.BoardError.{BoardError}
use Rattle.rbg_board.specs.declared.error.BoardError.TheVariants as boards
use Rattle.rbg_macro.specs.declared.text_error.TextError.{TextError}
use Rattle.rbg_macro.specs.declared.text_error.TextError.TheVariants as texts
use Rattle.rbg_macro.specs.declared.error.MacroError.{MacroError}
use Rattle.rbg_macro.specs.declared.error.MacroError.TheVariants as macros
use Rattle.rbg_syntax.specs.declared.error.SyntaxError.{SyntaxError}
use Rattle.rbg_syntax.specs.declared.error.SyntaxError.TheVariants as phrases
use Rattle.rbg_rules.specs.Meaning.{AbstractGame}
use Rattle.rbg_game.specs.Loading.{Loads, IsMemory, IsRefused}
use Rattle.rbg_game.specs.declared.error.LoadError.{LoadError}
use Rattle.rbg_game.specs.declared.error.LoadError.TheVariants as errors
use Rattle.rbg_game.specs.declared.game_error.GameError.{GameError}
use Rattle.rbg_game.specs.declared.game_error.GameError.TheVariants as games
use Rattle.rbg_c.specs.Results.{ok, memory, layer_of}

-- the offset of what is at no byte
abbrev pub no_offset : ℕ
no_offset = 18446744073709551615

-- The number of an error in its layer, as `rbg check` prints it, and the offset of the byte at which it is. Out of memory is
-- none of them: it has the number 0.
abbrev pub text_number : TextError → ℕ
text_number texts.TooLong = 1
text_number texts.ZeroByte = 2
text_number (texts.BadByte at) = 3
text_number texts.Memory = 0

abbrev pub text_offset : TextError → ℕ
text_offset texts.TooLong = no_offset
text_offset texts.ZeroByte = no_offset
text_offset (texts.BadByte at) = at
text_offset texts.Memory = no_offset

abbrev pub macro_number : MacroError → ℕ
macro_number (macros.BadDefinition at) = 1
macro_number (macros.Twice at) = 2
macro_number (macros.ArgumentCount at) = 3
macro_number (macros.Depth at) = 4
macro_number macros.TooManyTokens = 5
macro_number (macros.BadJoin at) = 6
macro_number macros.Memory = 0

abbrev pub macro_offset : MacroError → ℕ
macro_offset (macros.BadDefinition at) = at
macro_offset (macros.Twice at) = at
macro_offset (macros.ArgumentCount at) = at
macro_offset (macros.Depth at) = at
macro_offset macros.TooManyTokens = no_offset
macro_offset (macros.BadJoin at) = at
macro_offset macros.Memory = no_offset

abbrev pub syntax_number : SyntaxError → ℕ
syntax_number (phrases.Expected at what) = 1
syntax_number (phrases.MissingSection which) = 2
syntax_number (phrases.SectionTwice which) = 3
syntax_number (phrases.TooDeep at) = 4
syntax_number phrases.Memory = 0

abbrev pub syntax_offset : SyntaxError → ℕ
syntax_offset (phrases.Expected at what) = at
syntax_offset (phrases.MissingSection which) = no_offset
syntax_offset (phrases.SectionTwice which) = no_offset
syntax_offset (phrases.TooDeep at) = at
syntax_offset phrases.Memory = no_offset

-- The numbers of a board are 10 above those that are printed, since `board` is printed in place of the layer.
abbrev pub board_number : BoardError → ℕ
board_number boards.NoCell = 11
board_number (boards.RowLength row) = 12
board_number boards.TooManyVertices = 13
board_number boards.SameDirection = 14
board_number boards.UnknownVertex = 15
board_number boards.SameVertex = 16
board_number boards.Memory = 0

abbrev pub game_number : GameError → ℕ
game_number (games.UnknownName at) = 1
game_number (games.SameName at) = 2
game_number (games.Bound at) = 3
game_number (games.SwitchInPattern at) = 4
game_number (games.PatternTooDeep at) = 5
game_number (games.TooMany what) = 6
game_number games.Memory = 0
game_number (games.Board error) = board_number error

abbrev pub game_offset : GameError → ℕ
game_offset (games.UnknownName at) = at
game_offset (games.SameName at) = at
game_offset (games.Bound at) = at
game_offset (games.SwitchInPattern at) = at
game_offset (games.PatternTooDeep at) = at
game_offset (games.TooMany what) = no_offset
game_offset games.Memory = no_offset
game_offset (games.Board error) = no_offset

abbrev pub number_in_layer : LoadError → ℕ
number_in_layer (errors.Text cause) = text_number cause
number_in_layer (errors.Macro cause) = macro_number cause
number_in_layer (errors.Syntax cause) = syntax_number cause
number_in_layer (errors.Game cause) = game_number cause

abbrev pub offset_of : LoadError → ℕ
offset_of (errors.Text cause) = text_offset cause
offset_of (errors.Macro cause) = macro_offset cause
offset_of (errors.Syntax cause) = syntax_offset cause
offset_of (errors.Game cause) = game_offset cause

-- What is said of a text, with a number and an offset.
--   no_fault: it is the description of a game.
--   not_known: memory ran out.
--   is_fault: it is none, by the fault of this layer that has this number and is at this byte.
pub data Faults (text : List ℕ) (number at result : ℕ) : Type 0 where
  no_fault : {game : AbstractGame} → Loads text game → result ≡ ok → Faults text number at result
  not_known : result ≡ memory → Faults text number at result
  is_fault : {error : LoadError} →
      IsRefused text error →
      ¬ IsMemory error →
      result ≡ layer_of error →
      number ≡ number_in_layer error →
      at ≡ offset_of error →
      Faults text number at result
