-- A move of a list of all.
use Rattle.rbg_base.proofs.Common.{◌≡◌, ℕ, ◌<◌, List, [], ◌∷◌, length, slice_get, Bool, true, false, Some, refl, subst, arith, All, Contains, slice_get_within, get_or_from_slice_get}
use Rattle.rbg_rules.specs.Meaning.{AbstractGame, AbstractPlace, Finished, IsLegal}
use Rattle.rbg_moves.specs.Listing.{IsGathered}

nothing_in : {X : Type 0} (x : X) → Contains [] x → ⊥
nothing_in x h = omega (arith, h.1)

-- Where no move is listed, play is finished.
pub nothing_listed : (game : AbstractGame) (place : AbstractPlace) (max : ℕ) (all : List (List (ℕ × ℕ))) (cut : Bool) → 0 < max → IsGathered game place max all cut → length all ≡ 0 → Finished game place
nothing_listed game place max all true some gathered none = absurd (omega (arith, some, gathered.full refl, none))
nothing_listed game place max [] false some gathered none = record { no_move = λ pairs to legal. nothing_in pairs (gathered.whole refl pairs (to, legal)) }
nothing_listed game place max (x ∷ all) false some gathered none = absurd (omega (arith, none))

-- What holds of each move holds of the one at an index.
pub legal_at : (game : AbstractGame) (place : AbstractPlace) (all : List (List (ℕ × ℕ))) (index : ℕ) (pairs : List (ℕ × ℕ)) → All (IsLegal game place) all → slice_get all index ≡ Some pairs → IsLegal game place pairs
legal_at game place all index pairs legal there =
    subst (IsLegal game place) (get_or_from_slice_get all index pairs pairs there) (legal index pairs (slice_get_within all index pairs there))
