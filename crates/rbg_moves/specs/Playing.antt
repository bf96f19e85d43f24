-- Where a game that is played move by move stands, and who is to move.
use Rattle.std.specs.Prelude.{ℕ, ◌-◌, ◌==◌, if◌then◌else◌, List, get_or, codes, refl}
use Rattle.std.specs.Coded.{Coded, coded_ℕ, coded×, code_by}
use Rattle.rbg_rules.specs.Meaning.{AbstractGame, AbstractPlace}
use Rattle.rbg_rules.specs.Codes.{coded_game}
use Rattle.rbg_rules.specs.PlaceCodes.{coded_place}

-- A game, the place that play has reached in it, and how many moves the keeper has made in a row, which are not counted
-- above 1,000.
pub record Playing : Type 0 where
  pub game : AbstractGame
  pub place : AbstractPlace
  pub in_a_row : ℕ

abbrev pub coded_playing : Coded Playing
coded_playing =
    code_by (AbstractGame × (AbstractPlace × ℕ))
    (coded× coded_game (coded× coded_place coded_ℕ))
    (λ p. (p.game, (p.place, p.in_a_row)))
    (λ t. record { game = t.0; place = t.1.0; in_a_row = t.1.1 })
    (λ _. refl)

-- a game at a place, before any move is made from there
abbrev pub playing_at : AbstractGame → AbstractPlace → Playing
playing_at game place = record { game = game; place = place; in_a_row = 0 }

-- who is to move
abbrev pub mover_text : Playing → List ℕ
mover_text at =
    if at.place.state.player == 0 then codes "the keeper"
    else get_or at.game.players (at.place.state.player - 1) (codes "")
