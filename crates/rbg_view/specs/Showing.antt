-- What is shown of a list.
use Rattle.std.specs.Prelude.{◌≡◌, ℕ, List, true, false}
use Rattle.rbg_rules.specs.Meaning.{AbstractGame}
use Rattle.rbg_view.specs.declared.shown_moves.ShownMoves.{ShownMoves}
use Rattle.rbg_view.specs.declared.stop.Stop.{Stop}
use Rattle.rbg_view.specs.Endings.{EndsWith, stopped_text, unsettled_text}
use Rattle.rbg_view.specs.Following.{FollowsList, StopsAtEnd, StopsAtLine, first_standing}
use Rattle.rbg_moves.specs.Playing.{Playing}

-- What is shown is whole, and then the list is followed whole; or it is not, and then a line of the list stops, or what
-- comes after the last one. The last line of the text tells which, with the number of the line and why it stops.
pub data IsShown (game : AbstractGame) (list : List ℕ) (shown : ShownMoves) : Type 0 where
  whole :
      (to : Playing) (told : List ℕ) →
      FollowsList (first_standing game) list to told →
      shown.is_whole ≡ true →
      EndsWith shown.text.items told →
      IsShown game list shown
  at_line :
      (number : ℕ) (stop : Stop) (to : Playing) →
      StopsAtLine (first_standing game) list number stop to →
      shown.is_whole ≡ false →
      EndsWith shown.text.items (stopped_text to number stop) →
      IsShown game list shown
  at_end :
      (stop : Stop) (to : Playing) →
      StopsAtEnd (first_standing game) list stop to →
      shown.is_whole ≡ false →
      EndsWith shown.text.items (unsettled_text stop) →
      IsShown game list shown
