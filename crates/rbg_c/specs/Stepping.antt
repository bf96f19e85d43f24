-- Why moves aren't made.
use Rattle.std.specs.Prelude.{◌≡◌, ℕ, ◌≤◌, List, length, slice_get, Some, None}
use Rattle.rbg_base.specs.Move.{IsMoveLength}
use Rattle.rbg_questions.specs.declared.question_error.QuestionError.{QuestionError}
use Rattle.rbg_questions.specs.declared.question_error.QuestionError.TheVariants.{Illegal}
use Rattle.rbg_questions.specs.Places.{IsStopped}
use Rattle.rbg_c.specs.States.{AbstractState}

-- Why the move at an index isn't made.
--   not_asked: the moves were not asked for.
--   too_few: there are no more moves than that.
--   stopped_there: it is this move, and it is stopped for what the keeper's moves after it meet.
pub data IsUnmadeAt (state : AbstractState) (index : ℕ) : QuestionError → Type 0 where
  not_asked : state.found ≡ None → IsUnmadeAt state index Illegal
  too_few : {moves : List (List (ℕ × ℕ))} → state.found ≡ Some moves → length moves ≤ index → IsUnmadeAt state index Illegal
  stopped_there : {moves : List (List (ℕ × ℕ))} {pairs : List (ℕ × ℕ)} {refusal : QuestionError} →
      state.found ≡ Some moves →
      slice_get moves index ≡ Some pairs →
      IsStopped state.game state.place pairs refusal →
      IsUnmadeAt state index refusal

-- Why the move of some pairs isn't made.
--   no_length: they are none, or more than 200.
--   refused: the move is refused for this reason.
pub data IsNoMove (Why : QuestionError → Type 0) (pairs : List (ℕ × ℕ)) : QuestionError → Type 0 where
  no_length : ¬ IsMoveLength (length pairs) → IsNoMove Why pairs Illegal
  refused : {refusal : QuestionError} → Why refusal → IsNoMove Why pairs refusal
