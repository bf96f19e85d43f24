-- Semi-states and places as tuples of numbers and lists, one to one. Proofs use these codes to distinguish the values
-- that contracts see.
use Rattle.std.specs.Prelude.{ℕ, List, Option, refl}
use Rattle.std.specs.Coded.{Coded, coded_ℕ, coded_list, coded_option, coded×, code_by}
use Rattle.rbg_rules.specs.State.{AbstractState}
use Rattle.rbg_rules.specs.Moves.{AbstractPlace}

abbrev pub coded_state : Coded AbstractState
coded_state = code_by ((ℕ × List ℕ) × (List ℕ × ℕ))
    (coded× (coded× coded_ℕ (coded_list coded_ℕ)) (coded× (coded_list coded_ℕ) coded_ℕ))
    (λ s. ((s.player, s.pieces), (s.values, s.vertex)))
    (λ p. record { player = p.0.0; pieces = p.0.1; values = p.1.0; vertex = p.1.1 })
    (λ _. refl)

abbrev pub coded_place : Coded AbstractPlace
coded_place = code_by (AbstractState × Option ℕ)
    (coded× coded_state (coded_option coded_ℕ))
    (λ p. (p.state, p.last))
    (λ p. record { state = p.0; last = p.1 })
    (λ _. refl)
