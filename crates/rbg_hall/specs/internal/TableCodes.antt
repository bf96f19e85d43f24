-- States of a table as pairs, sums and lists of numbers, one to one. Proofs tell states apart by them.
use Rattle.std.specs.Prelude.{ℕ, List, Option, refl}
use Rattle.std.specs.Coded.{Coded, coded_ℕ, coded_list, coded_option, coded×, code_by}
use Rattle.rbg_rules.specs.Meaning.{AbstractGame}
use Rattle.rbg_rules.specs.Codes.{coded_game}
use Rattle.rbg_match.specs.Matches.{MatchState}
use Rattle.rbg_match.specs.internal.Codes.{coded_match}
use Rattle.rbg_hall.specs.Tables.{TableState}

abbrev pub coded_table : Coded TableState
coded_table = code_by ((AbstractGame × (List ℕ × (ℕ × ℕ))) × (List (Option ℕ) × Option MatchState))
    (coded×
    (coded× coded_game (coded× (coded_list coded_ℕ) (coded× coded_ℕ coded_ℕ)))
    (coded× (coded_list (coded_option coded_ℕ)) (coded_option coded_match)))
    (λ t. ((t.game, (t.text, (t.config.turn_ms, t.config.refusals))), (t.seats, t.begun)))
    (λ p. record {
      game = p.0.0;
      text = p.0.1.0;
      config = record { turn_ms = p.0.1.1.0; refusals = p.0.1.1.1 };
      seats = p.1.0;
      begun = p.1.1;
    })
    (λ _. refl)
