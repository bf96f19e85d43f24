-- What holds of the places of each session, and why one isn't unpacked.
use Rattle.std.specs.Prelude.{◌≢◌, ℕ, List}
use Rattle.rbg_rules.specs.Meaning.{AbstractGame, AbstractPlace, IsPlaceOf}
use Rattle.rbg_questions.specs.declared.question_error.QuestionError.{QuestionError}
use Rattle.rbg_questions.specs.declared.question_error.QuestionError.TheVariants.{NoPlace, Memory}
use Rattle.rbg_questions.specs.Packing.{packed_text}
use Rattle.rbg_questions.specs.Sessions.{AreHeard}

-- The place is of the game, and the moves that were heard lead there from the origin.
pub record IsHeardPlace (game : AbstractGame) (origin place : AbstractPlace) : Type 0 where
  pub fits : IsPlaceOf game place
  pub heard : AreHeard game origin place

-- Why no place is unpacked.
pub data IsNotUnpacked (game : AbstractGame) (text : List ℕ) : QuestionError → Type 0 where
  no_place : ((place : AbstractPlace) → IsPlaceOf game place → text ≢ packed_text place) → IsNotUnpacked game text NoPlace
  no_bytes : IsNotUnpacked game text Memory
