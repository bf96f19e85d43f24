-- The scores of the first players.
use Rattle.rbg_base.proofs.Common.{◌≡◌, ℕ, ◌+◌, ◌-◌, ◌<◌, ◌^◌, List, [], ◌∷◌, ◌++◌, length, take, All, slice_get, Some, ap, ◌∙◌, arith, refl, All-push, slice_get_within, get_or_from_slice_get}
use Rattle.std.proofs.lemmas.List.{take_more, length-append}

-- the scores are the first so many values, and numbers of 64 bits
pub record HasScored (values : List ℕ) (players : ℕ) (scores : List ℕ) : Type 0 where
  pub first : scores ≡ take players values
  pub count : length scores ≡ players
  pub small : All (λ score. score < 2 ^ 64) scores

-- one more player's value
pub scored_more : (values : List ℕ) (players : ℕ) (scores : List ℕ) (score : ℕ) → HasScored values players scores → slice_get values (players + 1 - 1) ≡ Some score → score < 2 ^ 64 → HasScored values (players + 1) (scores ++ score ∷ [])
scored_more values players scores score scored found small =
    let same : players + 1 - 1 ≡ players = omega arith in
    let there : slice_get values players ≡ Some score = rw same at found in
    record {
      first = rw (take_more values players score (slice_get_within values players score there), get_or_from_slice_get values players score score there, ← scored.first) refl;
      count = length-append scores (score ∷ []) ∙ ap (λ n. n + 1) scored.count;
      small = All-push (λ one. one < 2 ^ 64) scores score scored.small small;
    }
