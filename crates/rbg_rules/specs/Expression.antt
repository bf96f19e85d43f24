-- The rules of a game as mathematics: a regular expression over actions (Regular Boardgames, AAAI 2019). Players,
-- pieces, variables and directions are numbers. Each action carries its position, so the same action at two places is
-- two letters.
use Rattle.std.specs.Prelude.{ℕ, List, fold}
use Rattle.rbg_base.specs.declared.relation.Relation.{Relation}

-- Arithmetic over whole numbers, variables and counts of pieces. Operators of equal rank group from the left, so each
-- has two operands.
pub data AbstractArithmetic : Type 0 where
  number : ℕ → AbstractArithmetic
  variable : ℕ → AbstractArithmetic
  piece_count : ℕ → AbstractArithmetic
  negated : AbstractArithmetic → AbstractArithmetic
  sum difference product quotient : AbstractArithmetic → AbstractArithmetic → AbstractArithmetic

mutual
  -- An action, one constructor for each kind. A positive or a negative pattern holds its inner expression.
  pub data AbstractAction : Type 0 where
    shift : (direction : ℕ) → AbstractAction
    on : (pieces : List ℕ) → AbstractAction
    off : (piece : ℕ) → AbstractAction
    assignment : (variable : ℕ) → AbstractArithmetic → AbstractAction
    comparison : AbstractArithmetic → Relation → AbstractArithmetic → AbstractAction
    switch : (player : ℕ) → AbstractAction
    positive negative : Expression → AbstractAction

  -- An expression: an action at its position, the empty sequence, a sequence, the empty sum, a sum, a star.
  pub data Expression : Type 0 where
    act : (position : ℕ) → AbstractAction → Expression
    skip : Expression
    sequence : Expression → Expression → Expression
    fail : Expression
    choice : Expression → Expression → Expression
    star : Expression → Expression

-- A sequence of any number of parts, and a sum of any number of parts.
abbrev pub sequence_of : List Expression → Expression
sequence_of parts = fold sequence skip parts

abbrev pub choice_of : List Expression → Expression
choice_of parts = fold choice fail parts
