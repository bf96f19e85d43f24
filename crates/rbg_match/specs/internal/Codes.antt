-- States of a match as pairs, sums and lists of numbers, one to one. Proofs use them to distinguish states.
use Rattle.std.specs.Prelude.{ℕ, Bool, List, Option, refl}
use Rattle.std.specs.Coded.{Coded, coded_ℕ, coded_bool, coded_list, coded_option, coded×, code_by}
use Rattle.rbg_wire.specs.declared.outcome.Outcome.{Outcome}
use Rattle.rbg_wire.specs.Codes.{coded_outcome, coded_rest}
use Rattle.rbg_wire.specs.Streams.{Rest}
use Rattle.rbg_rules.specs.Meaning.{AbstractGame, AbstractPlace}
use Rattle.rbg_rules.specs.Codes.{coded_game}
use Rattle.rbg_rules.specs.PlaceCodes.{coded_place}
use Rattle.rbg_match.specs.declared.config.Config.{Config}
use Rattle.rbg_match.specs.declared.made.Made.{Made}
use Rattle.rbg_match.specs.Play.{AbstractPlay}
use Rattle.rbg_match.specs.Inputs.{Streams}
use Rattle.rbg_match.specs.Matches.{MatchState}
use Rattle.rbg_match.specs.internal.Replies.{RefereeState}

abbrev coded_config : Coded Config
coded_config = code_by (ℕ × ℕ)
    (coded× coded_ℕ coded_ℕ)
    (λ c. (c.turn_ms, c.refusals))
    (λ p. record { turn_ms = p.0; refusals = p.1 })
    (λ _. refl)

abbrev coded_made : Coded Made
coded_made = code_by (ℕ × (ℕ × List (ℕ × ℕ)))
    (coded× coded_ℕ (coded× coded_ℕ (coded_list (coded× coded_ℕ coded_ℕ))))
    (λ m. (m.player, (m.at, m.pairs)))
    (λ p. record { player = p.0; at = p.1.0; pairs = p.1.1 })
    (λ _. refl)

abbrev coded_play : Coded AbstractPlay
coded_play = code_by ((AbstractPlace × ℕ) × (List ℕ × (List Made × Option Outcome)))
    (coded×
    (coded× coded_place coded_ℕ)
    (coded× (coded_list coded_ℕ) (coded× (coded_list coded_made) (coded_option coded_outcome))))
    (λ p. ((p.place, p.turn_began), (p.refusals, (p.made, p.outcome))))
    (λ p. record { place = p.0.0; turn_began = p.0.1; refusals = p.1.0; made = p.1.1.0; outcome = p.1.1.1 })
    (λ _. refl)

abbrev coded_streams : Coded Streams
coded_streams = code_by (ℕ × List Rest)
    (coded× coded_ℕ (coded_list coded_rest))
    (λ s. (s.moment, s.rests))
    (λ p. record { moment = p.0; rests = p.1 })
    (λ _. refl)

abbrev pub coded_match : Coded MatchState
coded_match = code_by ((AbstractGame × (Config × ℕ)) × (AbstractPlay × (Streams × Bool)))
    (coded×
    (coded× coded_game (coded× coded_config coded_ℕ))
    (coded× coded_play (coded× coded_streams coded_bool)))
    (λ m. ((m.game, (m.config, m.began)), (m.play, (m.streams, m.failed))))
    (λ p. record { game = p.0.0; config = p.0.1.0; began = p.0.1.1; play = p.1.0; streams = p.1.1.0; failed = p.1.1.1 })
    (λ _. refl)

abbrev pub coded_referee : Coded RefereeState
coded_referee = code_by ((AbstractGame × (Config × ℕ)) × (AbstractPlay × List (List ℕ)))
    (coded×
    (coded× coded_game (coded× coded_config coded_ℕ))
    (coded× coded_play (coded_list (coded_list coded_ℕ))))
    (λ r. ((r.game, (r.config, r.moment)), (r.play, r.outbox)))
    (λ p. record { game = p.0.0; config = p.0.1.0; moment = p.0.1.1; play = p.1.0; outbox = p.1.1 })
    (λ _. refl)
