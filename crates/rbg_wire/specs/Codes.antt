-- Outcomes, and the rests of streams, as sums of numbers and lists, one to one. Proofs use these codes to distinguish
-- the values that contracts see.
use Rattle.std.specs.Prelude.{◌≡◌, ◌⊎◌, ℕ, List, refl}
use mathlib.Core.Logic.{inl, inr}
use base.Stored.{coded_unit}
use Rattle.std.specs.Coded.{Coded, coded_ℕ, coded_list, coded⊎, code_by}
use Rattle.rbg_wire.specs.declared.outcome.Outcome.{Outcome}
use Rattle.rbg_wire.specs.declared.outcome.Outcome.TheVariants.{Finished, Time, Refusals, Gone, Heavy}
use Rattle.rbg_wire.specs.Streams.{Rest, incomplete, dropping}

abbrev pub outcome_parts : Outcome → List ℕ ⊎ (ℕ ⊎ (ℕ ⊎ (ℕ ⊎ Unit {0})))
outcome_parts (Finished scores) = inl scores
outcome_parts (Time player) = inr (inl player)
outcome_parts (Refusals player) = inr (inr (inl player))
outcome_parts (Gone player) = inr (inr (inr (inl player)))
outcome_parts Heavy = inr (inr (inr (inr tt)))

abbrev pub outcome_from : List ℕ ⊎ (ℕ ⊎ (ℕ ⊎ (ℕ ⊎ Unit {0}))) → Outcome
outcome_from (inl scores) = Finished scores
outcome_from (inr (inl player)) = Time player
outcome_from (inr (inr (inl player))) = Refusals player
outcome_from (inr (inr (inr (inl player)))) = Gone player
outcome_from (inr (inr (inr (inr _)))) = Heavy

pub outcome_from-parts : (o : Outcome) → outcome_from (outcome_parts o) ≡ o
outcome_from-parts (Finished scores) = refl
outcome_from-parts (Time player) = refl
outcome_from-parts (Refusals player) = refl
outcome_from-parts (Gone player) = refl
outcome_from-parts Heavy = refl

abbrev pub coded_outcome : Coded Outcome
coded_outcome = code_by (List ℕ ⊎ (ℕ ⊎ (ℕ ⊎ (ℕ ⊎ Unit {0}))))
    (coded⊎ (coded_list coded_ℕ) (coded⊎ coded_ℕ (coded⊎ coded_ℕ (coded⊎ coded_ℕ coded_unit))))
    outcome_parts
    outcome_from
    outcome_from-parts

abbrev pub rest_parts : Rest → List ℕ ⊎ Unit {0}
rest_parts (incomplete bytes) = inl bytes
rest_parts dropping = inr tt

abbrev pub rest_from : List ℕ ⊎ Unit {0} → Rest
rest_from (inl bytes) = incomplete bytes
rest_from (inr _) = dropping

pub rest_from-parts : (r : Rest) → rest_from (rest_parts r) ≡ r
rest_from-parts (incomplete bytes) = refl
rest_from-parts dropping = refl

abbrev pub coded_rest : Coded Rest
coded_rest = code_by (List ℕ ⊎ Unit {0}) (coded⊎ (coded_list coded_ℕ) coded_unit) rest_parts rest_from rest_from-parts
