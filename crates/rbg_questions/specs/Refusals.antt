-- Why the sequences of moves from a place are not counted.
use Rattle.std.specs.Prelude.{◌≢◌, ℕ, ◌<◌, ◌⊎◌, zero, suc, List, All, AllPairs}
use Rattle.rbg_rules.specs.Meaning.{AbstractGame, IsTooHard, AbstractPlace, Legal, IsLegal, Question, find_move, list_moves}
use Rattle.rbg_moves.specs.Settling.{Settles, MeetsHeavy, IsEndless}
use Rattle.rbg_questions.specs.Counting.{AreCountedAfter, Sums}
use Rattle.rbg_questions.specs.declared.error.CountError.{CountError}
use Rattle.rbg_questions.specs.declared.extent.Extent.{Extent}
use Rattle.rbg_questions.specs.declared.extent.Extent.TheVariants.{Ends, Moves}
use Rattle.rbg_moves.specs.declared.unsettled.Unsettled.TheVariants.{Heavy, Endless, Memory}
use Rattle.rbg_questions.specs.declared.error.CountError.TheVariants.{TooMany, Unsettled}

-- the greatest number that is counted, 2^64 - 1
abbrev pub most_counted : ℕ
most_counted = 18446744073709551615

-- Something is asked at a place: moves are to be counted from there, or the ends are asked for.
abbrev pub IsAsked : (moves : ℕ) → Extent → Type 0
IsAsked zero Ends = Unit {0}
IsAsked zero Moves = ⊥
IsAsked (suc _) extent = Unit {0}

-- Something is wrong with so many moves to count from a place. It is wrong at once, where something is asked, or after a
-- move of a player, before which the keeper makes legal moves until that player is to move.
pub data Meets (Wrong : (moves : ℕ) → AbstractPlace → Type 0) (game : AbstractGame) (extent : Extent) :
    (moves : ℕ) → AbstractPlace → Type 0 where
  here :
      {moves : ℕ} {place : AbstractPlace} →
      IsAsked moves extent →
      Wrong moves place →
      Meets Wrong game extent moves place
  after :
      {moves : ℕ} {place to next : AbstractPlace} {pairs : List (ℕ × ℕ)} →
      Settles game place to →
      Legal game to pairs next →
      Meets Wrong game extent moves next →
      Meets Wrong game extent (suc moves) place

-- What is asked where the keeper's moves lead: for all legal moves, or for one where no more moves are counted.
abbrev pub question_of : (moves : ℕ) → Question
question_of zero = find_move
question_of (suc _) = list_moves

-- A question is above the limits: one for a move of the keeper, or the one where the keeper's moves lead.
pub data AsksTooMuch (game : AbstractGame) (moves : ℕ) (place : AbstractPlace) : Type 0 where
  keeper : MeetsHeavy game place → AsksTooMuch game moves place
  player : {to : AbstractPlace} →
      Settles game place to →
      IsTooHard game (question_of moves) to →
      AsksTooMuch game moves place

-- After some of the legal moves where the keeper's moves lead there are, taken together, more sequences than can be
-- counted.
pub data AreTooMany (game : AbstractGame) (extent : Extent) : (moves : ℕ) → AbstractPlace → Type 0 where
  sum :
      {moves sequences ended : ℕ} {place to : AbstractPlace} {firsts : List (List (ℕ × ℕ))} →
      Settles game place to →
      All (IsLegal game to) firsts →
      AllPairs (λ a b. a ≢ b) firsts →
      Sums (AreCountedAfter game moves extent to) firsts sequences ended →
      (most_counted < sequences) ⊎ (most_counted < ended) →
      AreTooMany game extent (suc moves) place

-- Why so many moves are not counted from a place.
--   Unsettled Heavy: at a place that they lead to, a question is above the limits.
--   Unsettled Endless: at one, the keeper is to move after 1,000 of its moves in a row.
--   Unsettled Memory: memory ran out.
--   TooMany: at one, a number is too great.
abbrev pub IsNotCounted : AbstractGame → (moves : ℕ) → Extent → AbstractPlace → CountError → Type 0
IsNotCounted game moves extent place (Unsettled Heavy) = Meets (AsksTooMuch game) game extent moves place
IsNotCounted game moves extent place (Unsettled Endless) = Meets (λ _ at. IsEndless game at) game extent moves place
IsNotCounted game moves extent place (Unsettled Memory) = Unit {0}
IsNotCounted game moves extent place TooMany = Meets (AreTooMany game extent) game extent moves place

-- The same, of every place from which the keeper's moves lead here.
abbrev pub IsNotCountedFrom : AbstractGame → (moves : ℕ) → Extent → AbstractPlace → CountError → Type 0
IsNotCountedFrom game moves extent to error =
    (place : AbstractPlace) → Settles game place to → IsNotCounted game moves extent place error
