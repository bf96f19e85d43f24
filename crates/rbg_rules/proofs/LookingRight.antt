-- The parts of `->white {? right [w]} right {e} [w] ->black`.
use Rattle.std.proofs.Common.{ℕ, List, [], ◌∷◌, refl, inl, inr}
use Rattle.rbg_rules.specs.Meaning.{AbstractAction, shift, on, off, positive, switch, act, Expression, sequence_of, HasAction, IsNumbered}
use Rattle.rbg_rules.specs.ExampleGames.{looking_right}

abbrev pub inner : List (ℕ × AbstractAction)
inner = (3, shift 3) ∷ (4, off 1) ∷ []

abbrev pub right_off : Expression
right_off = sequence_of (act 3 (shift 3) ∷ act 4 (off 1) ∷ [])

abbrev pub actions : List (ℕ × AbstractAction)
actions = (1, switch 1) ∷ (2, positive right_off) ∷ (5, shift 3) ∷ (6, on (0 ∷ [])) ∷ (7, off 1) ∷ (8, switch 2) ∷ []

pub numbered : IsNumbered looking_right.rules
numbered = record { in_order = refl }

pub looks : HasAction looking_right.rules 2 (positive right_off)
looks = inl (inl (inl (inl (inr (inl (refl, refl))))))
