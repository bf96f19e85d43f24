-- The places that play has reached, their legal moves, and why no move leads on from one.
use Rattle.std.specs.Prelude.{◌≢◌, ℕ, List, All, AllPairs, Bool, Contains}
use Rattle.rbg_rules.specs.Meaning.{AbstractGame, AbstractPlace, Legal, IsLegal, IsPlaceOf, IsTooHard, Question, find_move, list_moves, try_move}
use Rattle.rbg_moves.specs.Limits.{FitsLimits}
use Rattle.rbg_moves.specs.Settling.{IsEndless, MeetsHeavy}
use Rattle.rbg_questions.specs.declared.question_error.QuestionError.{QuestionError}
use Rattle.rbg_questions.specs.declared.question_error.QuestionError.TheVariants.{Illegal, Over, Keeper, Memory}
use Rattle.rbg_questions.specs.Sessions.{HasLedTo}

-- The origin and the places are of the game, and play has led through them from there.
pub record AreReached (game : AbstractGame) (origin : AbstractPlace) (before : List AbstractPlace) (place : AbstractPlace) : Type 0 where
  pub start : IsPlaceOf game origin
  pub earlier : All (IsPlaceOf game) before
  pub here : IsPlaceOf game place
  pub led : HasLedTo game origin before place

-- These are the legal moves, each once.
pub record AreLegalMoves (game : AbstractGame) (place : AbstractPlace) (moves : List (List (ℕ × ℕ))) : Type 0 where
  pub legal : All (IsLegal game place) moves
  pub different : AllPairs (λ a b. a ≢ b) moves
  pub whole : (pairs : List (ℕ × ℕ)) → IsLegal game place pairs → Contains moves pairs

-- A question at a place was given up, for this reason.
--   above: it is above the limits.
--   no_memory: memory ran out, which says nothing of it.
pub data IsGivenUp (game : AbstractGame) (question : Question) (place : AbstractPlace) : QuestionError → Type 0 where
  above : IsTooHard game question place → IsGivenUp game question place Over
  no_memory : IsGivenUp game question place Memory

-- A question at a place was answered: what had to be looked at for it was within the limits.
abbrev pub IsAnswered : AbstractGame → Question → AbstractPlace → Type 0
IsAnswered game question place = (cut : Bool) → FitsLimits game cut question place

-- Why the legal moves aren't listed, and why it isn't told whether there is one.
abbrev pub IsUnlisted : AbstractGame → AbstractPlace → QuestionError → Type 0
IsUnlisted game place = IsGivenUp game list_moves place

abbrev pub IsUntold : AbstractGame → AbstractPlace → QuestionError → Type 0
IsUntold game place = IsGivenUp game find_move place

-- Why the keeper's moves lead to no place where play rests.
--   heavy: a question for one of them is above the limits.
--   endless: the keeper is to move after 1,000 of them.
--   no_room: memory ran out, which says nothing of the place.
pub data IsUnsettled (game : AbstractGame) (place : AbstractPlace) : QuestionError → Type 0 where
  heavy : MeetsHeavy game place → IsUnsettled game place Over
  endless : IsEndless game place → IsUnsettled game place Keeper
  no_room : IsUnsettled game place Memory

-- Why a legal move isn't made: for what the keeper's moves after it meet.
pub record IsStopped (game : AbstractGame) (from : AbstractPlace) (pairs : List (ℕ × ℕ)) (refusal : QuestionError) : Type 0 where
  pub middle : AbstractPlace
  pub legal : Legal game from pairs middle
  pub unsettled : IsUnsettled game middle refusal

-- Why a move isn't followed.
--   illegal: it isn't legal, and the question whether it is was answered.
--   not_told: that question was given up.
pub data IsUnfollowed (game : AbstractGame) (from : AbstractPlace) (pairs : List (ℕ × ℕ)) : QuestionError → Type 0 where
  illegal :
      ((to : AbstractPlace) → ¬ Legal game from pairs to) →
      IsAnswered game (try_move pairs) from →
      IsUnfollowed game from pairs Illegal
  not_told : {refusal : QuestionError} → IsGivenUp game (try_move pairs) from refusal → IsUnfollowed game from pairs refusal

-- Why a move isn't made, with the keeper's moves after it: it isn't followed, or it is stopped.
pub data IsUnmade (game : AbstractGame) (from : AbstractPlace) (pairs : List (ℕ × ℕ)) (refusal : QuestionError) : Type 0 where
  unfollowed : IsUnfollowed game from pairs refusal → IsUnmade game from pairs refusal
  stopped : IsStopped game from pairs refusal → IsUnmade game from pairs refusal
