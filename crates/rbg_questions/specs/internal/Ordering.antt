-- Moves that are written in their order.
use Rattle.std.specs.Prelude.{◌≡◌, ℕ, ◌++◌, List, AllPairs, Bool}
use Rattle.std.specs.List.Sorted.{IsPermutation}
use Rattle.rbg_moves.specs.Listing.{IsMoveBefore}
use Rattle.rbg_questions.specs.Answers.{moves as moves_answer, answer_text}

-- The second list has the moves of the first one, in order.
pub record IsInOrder (moves ordered : List (List (ℕ × ℕ))) : Type 0 where
  pub permutation : IsPermutation moves ordered
  pub order : AllPairs IsMoveBefore ordered

-- The lines of the moves, in order, stand after the bytes that were there.
pub record WritesInOrder (moves : List (List (ℕ × ℕ))) (cut : Bool) (before after : List ℕ) : Type 0 where
  pub ordered : List (List (ℕ × ℕ))
  pub is : IsInOrder moves ordered
  pub told : after ≡ before ++ answer_text (moves_answer ordered cut)
