-- What is written of the shape of a game.
use Rattle.std.specs.Prelude.{◌≡◌, ℕ, ◌++◌, List}
use Rattle.std.specs.List.{flat_map}
use Rattle.rbg_rules.specs.Meaning.{AbstractAction, AbstractGame, Expression}
use Rattle.rbg_questions.specs.Answers.{answer_text, shape}
use Rattle.rbg_questions.specs.Shapes.{AreActions, action_line}

-- The lines of the actions of the rules stand after the bytes that were there.
pub record WritesActions (rules : Expression) (before after : List ℕ) : Type 0 where
  pub actions : List AbstractAction
  pub are : AreActions rules actions
  pub told : after ≡ before ++ flat_map action_line actions

-- The lines of the shape of the game stand after the bytes that were there.
pub record WritesShape (game : AbstractGame) (before after : List ℕ) : Type 0 where
  pub actions : List AbstractAction
  pub are : AreActions game.rules actions
  pub told : after ≡ before ++ answer_text (shape game actions)
