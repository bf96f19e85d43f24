-- Rules and moves with other numbers for the actions.
use Rattle.std.specs.Prelude.{ℕ, List, map, slice_index_or}
use Rattle.rbg_rules.specs.Meaning.{AbstractAction, shift, on, off, assignment, comparison, switch, positive, negative, Expression, act, skip, sequence, fail, choice, star}

abbrev mutual
  -- The expression, if each position p becomes `number p`.
  pub renumbered : (number : ℕ → ℕ) → Expression → Expression
  renumbered number (act p a) = act (number p) (renumbered_action number a)
  renumbered number skip = skip
  renumbered number (sequence x y) = sequence (renumbered number x) (renumbered number y)
  renumbered number fail = fail
  renumbered number (choice x y) = choice (renumbered number x) (renumbered number y)
  renumbered number (star x) = star (renumbered number x)

  -- The same of an action: only patterns have positions inside.
  pub renumbered_action : (number : ℕ → ℕ) → AbstractAction → AbstractAction
  renumbered_action number (shift d) = shift d
  renumbered_action number (on xs) = on xs
  renumbered_action number (off x) = off x
  renumbered_action number (assignment v e) = assignment v e
  renumbered_action number (comparison e r f) = comparison e r f
  renumbered_action number (switch n) = switch n
  renumbered_action number (positive x) = positive (renumbered number x)
  renumbered_action number (negative x) = negative (renumbered number x)

-- The pairs of a move, if each position p becomes `number p`.
abbrev pub renumbered_pairs : (number : ℕ → ℕ) → List (ℕ × ℕ) → List (ℕ × ℕ)
renumbered_pairs number ps = map (λ (q : ℕ × ℕ). (q.0, number q.1)) ps

-- The number of a position by a list that begins with the number of position 0. A position that the list hasn't keeps
-- its own.
abbrev pub number_in : (numbers : List ℕ) → ℕ → ℕ
number_in numbers p = slice_index_or numbers p p
