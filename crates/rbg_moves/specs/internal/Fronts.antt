-- What is said of a move whose pairs are left in a buffer.
use Rattle.std.specs.Prelude.{◌≡◌, ℕ, List, [], length, Bool, true, false, Result, IfOk, OnOk}
use Rattle.rbg_base.specs.Move.{IsMoveLength}
use Rattle.rbg_rules.specs.Meaning.{AbstractGame, AbstractPlace, Finished, IsLegal, find_move}
use Rattle.rbg_search.specs.Searching.{Tally}
use Rattle.rbg_search.specs.declared.over.Over.{Over}
use Rattle.rbg_moves.specs.Answers.{GivesUp}
use Rattle.rbg_moves.specs.Limits.{FitsLimits}
use Rattle.rbg_moves.specs.Tallying.{Tallies}
use Rattle.rbg_moves.specs.internal.Asking.{question_of, is_cut}
use Rattle.rbg_moves.specs.internal.Gathering.{Gathers}

-- Some legal move of the place was found, if there is one, and these are its pairs. What is said is as in FindsMove.
pub record FindsFront
    (game : AbstractGame) (place : AbstractPlace) (result : Result Bool Over) (front : List (ℕ × ℕ))
    : Type 0
  where
    pub found : IfOk result (λ found. found ≡ true → IsLegal game place front)
    pub sized : IfOk result (λ found. found ≡ true → IsMoveLength (length front))
    pub finished : IfOk result (λ found. found ≡ false → Finished game place)
    pub given_up : GivesUp game find_move place result
    pub fits : OnOk result ((cut : Bool) → FitsLimits game cut find_move place)

-- A walk from a place, after no pair: what it gathered in a list that may hold so many moves, whether its question is
-- within the limits, and what was counted of it. Where there is room for none it looks for some move.
pub record IsWalkedFrom
    (game : AbstractGame) (place : AbstractPlace) (max : ℕ) (had has : List (List (ℕ × ℕ))) (first : List (ℕ × ℕ))
    (old new : Tally) (result : Result Bool Over)
    : Type 0
  where
    pub gathers : IfOk result (λ ended. Gathers (IsLegal game place) [] max had has first ended)
    pub given_up : GivesUp game (question_of max) place result
    pub fits : IfOk result (λ ended. FitsLimits game (is_cut ended max) (question_of max) place)
    pub tallies : Tallies game (question_of max) place old new result
