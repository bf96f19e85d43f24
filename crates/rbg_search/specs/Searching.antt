-- A search as its callers see it.
use Rattle.std.specs.Prelude.{ℕ, refl}
use Rattle.std.specs.Coded.{Coded, coded_ℕ, coded×, code_by}
use Rattle.rbg_rules.specs.Meaning.{AbstractGame}
use Rattle.rbg_rules.specs.Codes.{coded_game}

-- A search in a game: how many openings it may take up, how many modifiers in a row are too many, how many openings it
-- has taken up, and how many pairs of a vertex and a position it has taken.
pub record Searching : Type 0 where
  pub game : AbstractGame
  pub openings : ℕ
  pub modifiers : ℕ
  pub opened : ℕ
  pub taken : ℕ

abbrev pub coded_searching : Coded Searching
coded_searching =
    code_by (AbstractGame × (ℕ × (ℕ × (ℕ × ℕ))))
    (coded× coded_game (coded× coded_ℕ (coded× coded_ℕ (coded× coded_ℕ coded_ℕ))))
    (λ s. (s.game, (s.openings, (s.modifiers, (s.opened, s.taken)))))
    (λ t. record { game = t.0; openings = t.1.0; modifiers = t.1.1.0; opened = t.1.1.1.0; taken = t.1.1.1.1 })
    (λ _. refl)

-- What searches took up in all: how many openings, and how many pairs.
pub record Tally : Type 0 where
  pub openings : ℕ
  pub pairs : ℕ
