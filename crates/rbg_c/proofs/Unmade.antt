-- Moves of pairs that aren't made.
use Rattle.std.proofs.Common.{◌≡◌, ℕ, List, Result, Ok, Err, IfErr, subst}
use Rattle.rbg_questions.specs.declared.question_error.QuestionError.{QuestionError}
use Rattle.rbg_c.specs.Stepping.{IsNoMove, refused}

pub no_move_of : (result : Result (Unit {0}) QuestionError) (Why : List (ℕ × ℕ) → QuestionError → Type 0) (pairs found : List (ℕ × ℕ)) → found ≡ pairs → IfErr result (Why found) → IfErr result (IsNoMove (Why pairs) pairs)
no_move_of (Ok x) Why pairs found same why = tt
no_move_of (Err e) Why pairs found same why = refused (subst (λ (ps : List (ℕ × ℕ)). Why ps e) same why)
