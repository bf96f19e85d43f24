-- Matches that are played by chance from the beginning of play.
use Rattle.std.specs.Prelude.{◌≡◌, ℕ, List}
use Rattle.rbg_rules.specs.Meaning.{AbstractGame, AbstractPlace}
use Rattle.rbg_moves.specs.Settling.{Settles}
use Rattle.rbg_questions.specs.declared.question_error.QuestionError.{QuestionError}
use Rattle.rbg_questions.specs.declared.question_error.QuestionError.TheVariants.{Memory}
use Rattle.rbg_questions.specs.Chance.{AreTallied, Counted, IsUnplayed}
use Rattle.rbg_questions.specs.Places.{IsUnsettled}
use Rattle.rbg_moves.specs.Starting.{start_place}
use Rattle.rbg_questions.specs.Summary.{summary_text}

-- So many matches are counted, from where the keeper's first moves lead.
pub record ArePlayouts (game : AbstractGame) (count : ℕ) (counted : List Counted) : Type 0 where
  pub place : AbstractPlace
  pub begins : Settles game (start_place game) place
  pub tallied : AreTallied game place count counted

-- The text tells of so many matches.
pub record TellsPlayouts (game : AbstractGame) (count : ℕ) (text : List ℕ) : Type 0 where
  pub counted : List Counted
  pub played : ArePlayouts game count counted
  pub told : text ≡ summary_text game.players count counted

-- Why no matches are played.
--   unsettled: the keeper's first moves lead to no place where play rests.
--   unplayed: a match from where these moves lead isn't played to its end.
--   no_summary: memory ran out, which says nothing of the game.
pub data AreUnplayed (game : AbstractGame) : QuestionError → Type 0 where
  unsettled : {refusal : QuestionError} → IsUnsettled game (start_place game) refusal → AreUnplayed game refusal
  unplayed : {place : AbstractPlace} {refusal : QuestionError} →
      Settles game (start_place game) place →
      IsUnplayed game place refusal →
      AreUnplayed game refusal
  no_summary : AreUnplayed game Memory
