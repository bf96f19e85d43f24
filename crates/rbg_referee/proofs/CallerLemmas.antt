-- What callers need of a text that loads to a game: no byte of it is zero, and its players' names are names of the language.
use Rattle.std.proofs.Common.{ℕ, List, IsTrue, All}
use Rattle.rbg_base.specs.Names.{is_name}
use Rattle.rbg_macro.proofs.ZeroBytes.{text_has_no_zero_byte}
use Rattle.rbg_wire.specs.Bytes.{LacksByte}
use Rattle.rbg_rules.specs.Meaning.{AbstractGame}
use Rattle.rbg_game.specs.Loading.{Loads}
use Rattle.rbg_match.proofs.Greeting.{players_named}

-- a text that has tokens has no zero byte, so it can be sent in a message
pub no_zero_in : (text : List ℕ) (game : AbstractGame) → Loads text game → LacksByte 0 text
no_zero_in text game loads = text_has_no_zero_byte text loads.describes.has.tokens loads.describes.has.cut

pub names_in : (text : List ℕ) (game : AbstractGame) → Loads text game → All (λ name. IsTrue (is_name name)) game.players
names_in text game loads = players_named game loads.game_of.lawful
