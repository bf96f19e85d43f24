-- The text of a game has a section of a board.
use Rattle.std.proofs.Common.{ℕ, List, subst}
use Rattle.rbg_game.specs.Loading.{Loads}
use Rattle.rbg_macro.specs.Expansion.{HasSections}
use Rattle.rbg_rules.specs.Meaning.{AbstractGame}
use Rattle.rbg_macro.proofs.TextCommon.{HasTokens, Lexeme}
use Rattle.rbg_macro.proofs.OneReading.{tokens_once}
use Rattle.rbg_position.specs.Sections.{ExpandsBoard}
use Rattle.rbg_position.specs.internal.Missing.{HasNoBoard}
use Rattle.rbg_position.proofs.Definitions.{board_begins}

-- what the section of its board expands to
pub board_of : (text : List ℕ) (game : AbstractGame) (tokens : List Lexeme) → Loads text game → HasTokens text tokens → (ts : List Lexeme) × ExpandsBoard tokens ts
board_of text game tokens loads cut = (
  loads.describes.spells.board.ts,
  record {
    sections = loads.describes.sections;
    expanded = subst (λ us. HasSections us loads.describes.sections) (tokens_once text loads.describes.has.tokens tokens loads.describes.has.cut cut) loads.describes.has.expanded;
    has = loads.describes.spells.board.has;
  },
)

pub no_board_missing : (text : List ℕ) (game : AbstractGame) → Loads text game → HasNoBoard text → ⊥
no_board_missing text game loads missing =
    let board = board_of text game missing.tokens loads missing.cut in
    let begins = board_begins missing.tokens board.0 board.1.sections board.1.expanded board.1.has in
    missing.none begins.0 begins.1
