-- What the parts of a page are made of.
use Rattle.std.proofs.Common.{◌≡◌, ℕ, Bool, List, [], ◌∷◌, ◌++◌, length, codes, refl, Vec, Global}
use Rattle.rbg_rules.specs.Meaning.{AbstractGame, AbstractPlace}
use Rattle.rbg_game.specs.declared.layout.Layout.{Layout}
use Rattle.rbg_game.specs.NameTables.{bytes_of}
use Rattle.rbg_view.specs.declared.drawing.Spot.{Spot}
use Rattle.rbg_view.specs.declared.head.TheConstants.{HEAD}
use Rattle.rbg_view.specs.declared.tail.TheConstants.{STYLES, SCRIPTS, END}
use Rattle.rbg_view.specs.declared.style.TheConstants.{BOARD_STYLE}
use Rattle.rbg_view.specs.declared.script.TheConstants.{BOARD_SCRIPT}
use Rattle.rbg_view.specs.Texts.{escaped, field_text, names_text, values_text}
use Rattle.rbg_view.specs.Boards.{spot_text, mark_text, vertex_text, size_text, frame_text, widest, vertices_text, labels_text, rows_text, graph_text, drawing_text}
use Rattle.rbg_view.specs.Telling.{Told}
use Rattle.rbg_view.specs.Pages.{values_part, names_part, place_part, lines_part, tail_text, page_text}

pub spot_is : (spot : Spot) (piece : ℕ) → spot_text spot piece ≡ field_text (codes "<g style='--x:") spot.column ++ field_text (codes ";--y:") spot.row ++ field_text (codes ";--l:") spot.length ++ field_text (codes ";--p:") piece ++ codes "' data-piece='"
spot_is spot piece = unfold spot_text in refl

pub vertex_is : (name : List ℕ) (spot : Spot) (marked : Bool) (piece : ℕ) → vertex_text name spot marked piece ≡ spot_text spot piece ++ escaped name ++ mark_text marked ++ codes "<use href='#cell'/><circle r='4'/><text>" ++ escaped name ++ codes "</text></g>\n"
vertex_is name spot marked piece = unfold vertex_text in refl

pub frame_is : (kind : List ℕ) (width height : ℕ) (cell : List ℕ) → frame_text kind width height cell ≡ codes "<svg id='board' class='" ++ kind ++ size_text width height ++ codes "0'><defs>" ++ cell ++ codes "</defs>\n"
frame_is kind width height cell = unfold frame_text in refl

pub rows_are : (kind cell : List ℕ) (pieces : List (List ℕ)) (lengths : List ℕ) (marked : List (ℕ × ℕ)) (standing : List ℕ) → rows_text kind cell pieces lengths marked standing ≡ frame_text kind (widest lengths) (length lengths) cell ++ vertices_text pieces lengths marked standing
rows_are kind cell pieces lengths marked standing = unfold rows_text in refl

pub graph_is : (pieces : List (List ℕ)) (names : List (Vec ℕ Global)) (marked : List (ℕ × ℕ)) (standing : List ℕ) → graph_text pieces names marked standing ≡ frame_text (codes "graph") (length names) (length names) (codes "<circle id='cell' r='5'/>") ++ vertices_text pieces (length names ∷ []) marked standing ++ labels_text (bytes_of names)
graph_is pieces names marked standing = unfold graph_text in refl

pub values_are : (game : AbstractGame) (place : AbstractPlace) → values_part game place ≡ codes "<ul id='variables'>" ++ names_text game.variables ++ codes "</ul>\n<ul id='values'>" ++ values_text place.state.values ++ codes "</ul>\n"
values_are game place = unfold values_part in refl

pub names_are : (game : AbstractGame) → names_part game ≡ codes "<ul id='players'>" ++ names_text game.players ++ codes "</ul>\n<ul id='pieces'>" ++ names_text game.pieces ++ codes "</ul>\n"
names_are game = unfold names_part in refl

pub place_is : (game : AbstractGame) (layout : Layout) (marked : List (ℕ × ℕ)) (place : AbstractPlace) → place_part game layout marked place ≡ drawing_text layout game.pieces marked place.state.pieces ++ codes "</svg>\n" ++ values_part game place ++ codes "<div id='play'></div>\n"
place_is game layout marked place = unfold place_part in refl

pub lines_are : (described lines : List ℕ) → lines_part described lines ≡ codes "<details><summary>The record, and each place</summary>\n<pre id='game' hidden>\n" ++ escaped described ++ codes "</pre>\n<pre id='record'>\n" ++ lines
lines_are described lines = unfold lines_part in refl

pub tail_is : tail_text ≡ STYLES.now ++ BOARD_STYLE.now ++ SCRIPTS.now ++ BOARD_SCRIPT.now ++ END.now
tail_is = unfold tail_text in refl

pub page_is : (game : AbstractGame) (layout : Layout) (described : List ℕ) (told : Told) → page_text game layout described told ≡ HEAD.now ++ place_part game layout told.marked told.place ++ names_part game ++ lines_part described told.lines ++ tail_text
page_is game layout described told = unfold page_text in refl
