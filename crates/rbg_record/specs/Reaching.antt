-- The place that play has reached in a record.
use Rattle.std.specs.Prelude.{◌≡◌, ℕ, List, [], ◌∷◌, ◌++◌}
use Rattle.rbg_rules.specs.Meaning.{AbstractGame, AbstractPlace}
use Rattle.rbg_record.specs.NextLine.{BeginsWith}
use Rattle.rbg_record.specs.Lines.{MatchSoFar, Reached, version_next, players_next, start_next, entry_next, nothing_next, LeadTo}
use Rattle.rbg_record.specs.Right.{IsRightRecord}

-- the place to which a line leads, or the one before it if the line leads to none
abbrev pub place_in : Reached → AbstractPlace → AbstractPlace
place_in version_next before = before
place_in players_next before = before
place_in start_next before = before
place_in (entry_next match_so_far) before = match_so_far.place
place_in nothing_next before = before

-- The bytes are those of a right record, and its moves lead to this place: all its lines but the last one, which has
-- how the match ended, lead there.
pub record IsPlaceAfter (game : AbstractGame) (bytes : List ℕ) (place : AbstractPlace) : Type 0 where
  pub right : IsRightRecord game bytes
  pub texts : List (List ℕ)
  pub last : List ℕ
  pub begins : BeginsWith bytes (texts ++ last ∷ []) []
  pub match_so_far : MatchSoFar
  pub leads : LeadTo game texts (entry_next match_so_far)
  pub here : match_so_far.place ≡ place
