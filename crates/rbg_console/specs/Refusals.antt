-- The refusals of descriptions as they are printed: the layer, the number and the name of each, and its place or thing.
use Rattle.std.specs.Prelude.{ℕ, List, ◌++◌, codes, decimal}
use Rattle.rbg_board.specs.declared.error.BoardError.{BoardError}
use Rattle.rbg_board.specs.declared.error.BoardError.TheVariants as boards
use Rattle.rbg_game.specs.declared.error.LoadError.{LoadError}
use Rattle.rbg_game.specs.declared.error.LoadError.TheVariants.{Text, Macro, Syntax, Game}
use Rattle.rbg_game.specs.declared.game_error.GameError.{GameError}
use Rattle.rbg_game.specs.declared.game_error.GameError.TheVariants as games
use Rattle.rbg_game.specs.Names.{thing_name}
use Rattle.rbg_macro.specs.declared.error.MacroError.{MacroError}
use Rattle.rbg_macro.specs.declared.error.MacroError.TheVariants as macros
use Rattle.rbg_macro.specs.Names.{section_name}
use Rattle.rbg_syntax.specs.Names.{part_name}
use Rattle.rbg_syntax.specs.declared.error.SyntaxError.{SyntaxError}
use Rattle.rbg_syntax.specs.declared.error.SyntaxError.TheVariants as phrases
use Rattle.rbg_macro.specs.declared.text_error.TextError.{TextError}
use Rattle.rbg_macro.specs.declared.text_error.TextError.TheVariants as texts

unfoldable pub text_refusal : TextError → List ℕ
text_refusal texts.TooLong = codes "text 1 TooLong"
text_refusal texts.ZeroByte = codes "text 2 ZeroByte"
text_refusal (texts.BadByte at) = codes "text 3 BadByte " ++ decimal at
text_refusal texts.Memory = codes "text Memory"

unfoldable pub macro_refusal : MacroError → List ℕ
macro_refusal (macros.BadDefinition at) = codes "macro 1 BadDefinition " ++ decimal at
macro_refusal (macros.Twice at) = codes "macro 2 Twice " ++ decimal at
macro_refusal (macros.ArgumentCount at) = codes "macro 3 ArgumentCount " ++ decimal at
macro_refusal (macros.Depth at) = codes "macro 4 Depth " ++ decimal at
macro_refusal macros.TooManyTokens = codes "macro 5 TooManyTokens"
macro_refusal (macros.BadJoin at) = codes "macro 6 BadJoin " ++ decimal at
macro_refusal macros.Memory = codes "macro Memory"

unfoldable pub syntax_refusal : SyntaxError → List ℕ
syntax_refusal (phrases.Expected at what) =
    codes "syntax 1 Expected " ++ (decimal at ++ (codes " " ++ part_name what))
syntax_refusal (phrases.MissingSection which) = codes "syntax 2 MissingSection " ++ section_name which
syntax_refusal (phrases.SectionTwice which) = codes "syntax 3 SectionTwice " ++ section_name which
syntax_refusal (phrases.TooDeep at) = codes "syntax 4 TooDeep " ++ decimal at
syntax_refusal phrases.Memory = codes "syntax Memory"

unfoldable pub board_refusal : BoardError → List ℕ
board_refusal boards.NoCell = codes "board 1 NoCell"
board_refusal (boards.RowLength row) = codes "board 2 RowLength " ++ decimal row
board_refusal boards.TooManyVertices = codes "board 3 TooManyVertices"
board_refusal boards.SameDirection = codes "board 4 SameDirection"
board_refusal boards.UnknownVertex = codes "board 5 UnknownVertex"
board_refusal boards.SameVertex = codes "board 6 SameVertex"
board_refusal boards.Memory = codes "board Memory"

unfoldable pub game_refusal : GameError → List ℕ
game_refusal (games.UnknownName at) = codes "game 1 UnknownName " ++ decimal at
game_refusal (games.SameName at) = codes "game 2 SameName " ++ decimal at
game_refusal (games.Bound at) = codes "game 3 Bound " ++ decimal at
game_refusal (games.SwitchInPattern at) = codes "game 4 SwitchInPattern " ++ decimal at
game_refusal (games.PatternTooDeep at) = codes "game 5 PatternTooDeep " ++ decimal at
game_refusal (games.TooMany what) = codes "game 6 TooMany " ++ thing_name what
game_refusal games.Memory = codes "game Memory"
game_refusal (games.Board error) = board_refusal error

unfoldable pub refusal_text : LoadError → List ℕ
refusal_text (Text error) = text_refusal error
refusal_text (Macro error) = macro_refusal error
refusal_text (Syntax error) = syntax_refusal error
refusal_text (Game error) = game_refusal error
