-- The verdict on a record: that it is right, or the first line that is not, and what is wrong with it.
use Rattle.std.specs.Prelude.{◌≡◌, ◌≢◌, ℕ, ◌+◌, ◌≤◌, List, [], ◌∷◌, ◌++◌, length, Some, None, Result, Ok, Err}
use Rattle.rbg_wire.specs.declared.outcome.Outcome.TheVariants.{Finished, Time, Refusals, Gone, Heavy}
use Rattle.rbg_rules.specs.Meaning.{IsHeavyToFind, IsHeavyToTry, AbstractGame}
use Rattle.rbg_match.specs.History.{IsInTurn}
use Rattle.rbg_match.specs.Limits.{latest_moment}
use Rattle.rbg_match.specs.PlayingOn.{seats_of}
use Rattle.rbg_record.specs.declared.entry.Entry.{Entry}
use Rattle.rbg_record.specs.declared.entry.Entry.TheVariants.{Move, End}
use Rattle.rbg_record.specs.declared.entry.Timed.{Timed}
use Rattle.rbg_record.specs.Entries.{SpellsIn}
use Rattle.rbg_record.specs.NextLine.{BeginsWith, HasFormFault}
use Rattle.rbg_record.specs.Lines.{
  MatchSoFar,
  Reached,
  entry_next,
  nothing_next,
  HasForm,
  IsMomentFor,
  Leads,
  LeadTo,
}
use Rattle.rbg_record.specs.Right.{turn_config}
use Rattle.rbg_record.specs.declared.checked.Checked.{Checked}
use Rattle.rbg_record.specs.declared.checked.Checked.TheVariants.{Good, Bad}
use Rattle.rbg_record.specs.declared.error.RecordError.{RecordError}
use Rattle.rbg_record.specs.declared.error.RecordError.TheVariants.{Form, Over, Memory}
use Rattle.rbg_record.specs.declared.fault.Misfit.{Misfit}
use Rattle.rbg_record.specs.internal.Faults.{verdict_at}

-- Each line is right after those before it, and the record has ended with the last of them.
pub record IsGoodByLines (game : AbstractGame) (bytes : List ℕ) : Type 0 where
  pub texts : List (List ℕ)
  pub begins : BeginsWith bytes texts []
  pub leads : LeadTo game texts nothing_next

-- The lines before this one are right, but what follows them is not of the form: it is the first fault of the record.
abbrev pub IsFormFault : AbstractGame → (bytes : List ℕ) → (line : ℕ) → Type 0
IsFormFault game bytes line = HasFormFault (LeadTo game) nothing_next HasForm bytes line

-- The line of this number has this text, after lines of the texts before it. Lines are numbered from 1.
pub record IsLineOf (bytes : List ℕ) (line : ℕ) (texts : List (List ℕ)) (text : List ℕ) : Type 0 where
  pub rest : List ℕ
  pub begins : BeginsWith bytes (texts ++ text ∷ []) rest
  pub number : line ≡ length texts + 1

-- The lines before this one are right. This one is of the form, but it isn't right after them.
pub record IsBadLine (game : AbstractGame) (bytes : List ℕ) (line : ℕ) : Type 0 where
  pub texts : List (List ℕ)
  pub text : List ℕ
  pub here : IsLineOf bytes line texts text
  pub reached : Reached
  pub leads : LeadTo game texts reached
  pub form : HasForm reached text
  pub wrong : (to : Reached) → ¬ Leads game reached text to

-- A player is to move, and the moment is one of its turn.
abbrev pub IsOnTurn : MatchSoFar → (at : ℕ) → Type 0
IsOnTurn match_so_far at =
    (match_so_far.place.state.player ≢ 0) × IsInTurn (turn_config match_so_far.turn_ms) match_so_far.last at

-- What is checked before a question is asked of the rules.
--   Move: the player is the mover, and the moment is one for its move.
--   None: a player is to move, and the moment is one of its turn.
--   Finished: the moment is that of the last move.
--   Time: the player is the mover and not the keeper, and at that moment its turn is due.
--   Refusals, Gone: the same as for None, and the player that is named is one of the game.
--   Heavy: the moment is one of the turn.
abbrev pub FitsUnasked : AbstractGame → MatchSoFar → (at : ℕ) → Entry → Type 0
FitsUnasked game match_so_far at (Move player pairs) =
    (player ≡ match_so_far.place.state.player) × IsMomentFor match_so_far player at
FitsUnasked game match_so_far at (End None) = IsOnTurn match_so_far at
FitsUnasked game match_so_far at (End (Some (Finished scores))) = at ≡ match_so_far.last
FitsUnasked game match_so_far at (End (Some (Time player))) =
    (player ≡ match_so_far.place.state.player) × (player ≢ 0) × (match_so_far.last + match_so_far.turn_ms ≤ at)
FitsUnasked game match_so_far at (End (Some (Refusals player))) =
    IsOnTurn match_so_far at × (1 ≤ player) × (player ≤ seats_of game)
FitsUnasked game match_so_far at (End (Some (Gone player))) =
    IsOnTurn match_so_far at × (1 ≤ player) × (player ≤ seats_of game)
FitsUnasked game match_so_far at (End (Some Heavy)) = IsInTurn (turn_config match_so_far.turn_ms) match_so_far.last at

-- The question of an entry is above the limits: whether the move is legal, or whether there is a legal move. `E4` has
-- none.
abbrev pub AsksHeavy : AbstractGame → MatchSoFar → Entry → Type 0
AsksHeavy game match_so_far (Move player pairs) = IsHeavyToTry game match_so_far.place pairs
AsksHeavy game match_so_far (End (Some Heavy)) = ⊥
AsksHeavy game match_so_far (End _) = IsHeavyToFind game match_so_far.place

-- The lines before this one are right. This one is of the form, and all that needs no question fits; but its question
-- is above the limits.
pub record IsHeavyLine (game : AbstractGame) (bytes : List ℕ) (line : ℕ) : Type 0 where
  pub texts : List (List ℕ)
  pub text : List ℕ
  pub here : IsLineOf bytes line texts text
  pub match_so_far : MatchSoFar
  pub leads : LeadTo game texts (entry_next match_so_far)
  pub told : Timed
  pub form : SpellsIn match_so_far.version text told
  pub counted : told.at ≤ latest_moment
  pub fits : FitsUnasked game match_so_far told.at told.entry
  pub asks : AsksHeavy game match_so_far told.entry

-- The verdict on a record is true.
abbrev pub IsJudged : AbstractGame → List ℕ → Result Checked RecordError → Type 0
IsJudged game bytes (Ok Good) = IsGoodByLines game bytes
IsJudged game bytes (Ok (Bad line)) = IsBadLine game bytes line
IsJudged game bytes (Err (Form line)) = IsFormFault game bytes line
IsJudged game bytes (Err (Over line)) = IsHeavyLine game bytes line
IsJudged game bytes (Err Memory) = Unit {0}

-- The line is the first one that is not right, not of the form, or asks a question above the limits, as the fault has
-- it. If memory ran out, nothing is claimed.
abbrev pub IsMisfit : AbstractGame → List ℕ → Misfit → Type 0
IsMisfit game bytes misfit = IsJudged game bytes (verdict_at misfit.fault misfit.line)
