-- The lines of a record, followed to the place to which they lead.
use Rattle.std.specs.Prelude.{◌≡◌, ℕ, List, [], ◌∷◌, ◌++◌}
use Rattle.rbg_record.specs.Lines.{MatchSoFar, Reached, version_next, players_next, start_next, entry_next, nothing_next, LeadTo}
use Rattle.rbg_rules.specs.Meaning.{AbstractPlace, AbstractGame}

-- the last of these lines is the end, and the others lead to this place
pub data EndsAt (game : AbstractGame) : (texts : List (List ℕ)) → (place : AbstractPlace) → Type 0 where
  ends_at : {before : List (List ℕ)} {match_so_far : MatchSoFar} (last : List ℕ) →
      LeadTo game before (entry_next match_so_far) →
      EndsAt game (before ++ last ∷ []) match_so_far.place

-- the moves of these lines, which lead there, lead to this place; before the first move nothing is claimed
abbrev pub IsAt : AbstractGame → (texts : List (List ℕ)) → Reached → AbstractPlace → Type 0
IsAt game texts (entry_next match_so_far) place = match_so_far.place ≡ place
IsAt game texts nothing_next place = EndsAt game texts place
IsAt game texts version_next place = Unit {0}
IsAt game texts players_next place = Unit {0}
IsAt game texts start_next place = Unit {0}
