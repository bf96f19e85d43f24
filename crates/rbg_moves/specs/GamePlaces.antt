-- A place of a game, with the game.
use Rattle.std.specs.Prelude.{refl}
use Rattle.std.specs.Coded.{Coded, coded×, code_by}
use Rattle.rbg_rules.specs.Meaning.{AbstractGame, AbstractPlace}
use Rattle.rbg_rules.specs.Codes.{coded_game}
use Rattle.rbg_rules.specs.PlaceCodes.{coded_place}

-- a game, and a place of it
pub record AbstractGamePlace : Type 0 where
  pub game : AbstractGame
  pub place : AbstractPlace

abbrev pub coded_game_place : Coded AbstractGamePlace
coded_game_place =
    code_by (AbstractGame × AbstractPlace) (coded× coded_game coded_place)
    (λ at. (at.game, at.place))
    (λ t. record { game = t.0; place = t.1 })
    (λ _. refl)
