-- The page of a record.
use Rattle.std.specs.Prelude.{◌≡◌, ℕ, List, [], ◌++◌, codes}
use Rattle.rbg_rules.specs.Meaning.{AbstractGame, AbstractPlace}
use Rattle.rbg_game.specs.declared.layout.Layout.{Layout}
use Rattle.rbg_record.specs.NextLine.{BeginsWith}
use Rattle.rbg_record.specs.Lines.{nothing_next}
use Rattle.rbg_record.specs.Right.{IsRightRecord}
use Rattle.rbg_view.specs.declared.head.TheConstants.{HEAD}
use Rattle.rbg_view.specs.declared.tail.TheConstants.{STYLES, SCRIPTS, END}
use Rattle.rbg_view.specs.declared.style.TheConstants.{BOARD_STYLE}
use Rattle.rbg_view.specs.declared.script.TheConstants.{BOARD_SCRIPT}
use Rattle.rbg_view.specs.Texts.{escaped, names_text, values_text}
use Rattle.rbg_view.specs.Boards.{drawing_text}
use Rattle.rbg_view.specs.Telling.{Told, Tells}

-- the names of the variables, and what they hold at a place
unfoldable pub values_part : AbstractGame → AbstractPlace → List ℕ
values_part game place =
    codes "<ul id='variables'>"
    ++ names_text game.variables
    ++ codes "</ul>\n<ul id='values'>"
    ++ values_text place.state.values
    ++ codes "</ul>\n"

-- the names of the players and the pieces
unfoldable pub names_part : AbstractGame → List ℕ
names_part game =
    codes "<ul id='players'>"
    ++ names_text game.players
    ++ codes "</ul>\n<ul id='pieces'>"
    ++ names_text game.pieces
    ++ codes "</ul>\n"

-- the board at a place with these pairs marked, and what the variables hold there
unfoldable pub place_part : AbstractGame → Layout → (marked : List (ℕ × ℕ)) → AbstractPlace → List ℕ
place_part game layout marked place =
    drawing_text layout game.pieces marked place.state.pieces
    ++ codes "</svg>\n"
    ++ values_part game place
    ++ codes "<div id='play'></div>\n"

-- what a script is told of the game, and the lines of the record with their places
unfoldable pub lines_part : (described lines : List ℕ) → List ℕ
lines_part described lines =
    codes "<details><summary>The record, and each place</summary>\n<pre id='game' hidden>\n"
    ++ escaped described
    ++ codes "</pre>\n<pre id='record'>\n"
    ++ lines

-- the fixed tail: the style and the script that draw boards, and the script of the page
unfoldable pub tail_text : List ℕ
tail_text = STYLES.now ++ BOARD_STYLE.now ++ SCRIPTS.now ++ BOARD_SCRIPT.now ++ END.now

-- A page: its fixed head with the style; the last place; the names; the lines; and its fixed tail with the scripts.
unfoldable pub page_text : AbstractGame → Layout → (described : List ℕ) → Told → List ℕ
page_text game layout described told =
    HEAD.now ++ place_part game layout told.marked told.place ++ names_part game ++ lines_part described told.lines ++ tail_text

-- The bytes are those of a right record, and the page tells its lines.
pub record IsPage (game : AbstractGame) (layout : Layout) (described bytes page : List ℕ) : Type 0 where
  pub right : IsRightRecord game bytes
  pub texts : List (List ℕ)
  pub begins : BeginsWith bytes texts []
  pub told : Told
  pub tells : Tells game texts nothing_next told
  pub is : page ≡ page_text game layout described told
