-- One more match in a list of counted ones.
use Rattle.std.specs.Prelude.{◌≡◌, ◌≢◌, ℕ, ◌+◌, ◌<◌, ◌^◌, List, [], ◌∷◌, ◌++◌, length, slice_get, Some, All, Option}
use Rattle.rbg_questions.specs.declared.tally.EndingTally.{EndingTally}
use Rattle.rbg_questions.specs.Chance.{Counted, scores_of}

-- The numbers of the tally can still grow.
abbrev pub IsSmall : EndingTally → Type 0
IsSmall tally = (tally.matches < 2 ^ 63) × (tally.moves < 2 ^ 62)

-- The tally at this index is that of the matches that ended so.
pub record IsTallyAt (scores : Option (List ℕ)) (tallies : List EndingTally) (index : ℕ) : Type 0 where
  pub within : index < length tallies
  pub tally : EndingTally
  pub stands : slice_get tallies index ≡ Some tally
  pub same : scores_of tally.ending ≡ scores

-- One more match that ended so, after so many moves, is counted: with the others that did, or as the first one.
pub data CountsIn (scores : Option (List ℕ)) (made : ℕ) : (before after : List Counted) → Type 0 where
  again : (front later : List Counted) (matches moves : ℕ) →
      CountsIn scores made
      (front ++ (record { scores = scores; matches = matches; moves = moves }) ∷ later)
      (front ++ (record { scores = scores; matches = matches + 1; moves = moves + made }) ∷ later)
  first : {all : List Counted} →
      All (λ counted. counted.scores ≢ scores) all →
      CountsIn scores made all (all ++ (record { scores = scores; matches = 1; moves = made }) ∷ [])
