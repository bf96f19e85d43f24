-- The rest of the rules after an action.
use Rattle.std.specs.Prelude.{◌≡◌, ℕ, ◌⊎◌, List, [], ◌∷◌, ◌++◌}
use Rattle.rbg_rules.specs.Meaning.{Expression, act, skip, sequence, fail, choice, star}

-- The parts, one after the other, are the rest of the expression after its own action at the position: what is left of
-- each sequence around it, and each star around it again.
abbrev pub IsRest : Expression → (position : ℕ) → (rest : List Expression) → Type 0
IsRest (act q a) p rest = (p ≡ q) × (rest ≡ [])
IsRest skip p rest = ⊥
IsRest (sequence x y) p rest =
    ((left : List Expression) × IsRest x p left × (rest ≡ left ++ y ∷ []))
    ⊎ IsRest y p rest
IsRest fail p rest = ⊥
IsRest (choice x y) p rest = IsRest x p rest ⊎ IsRest y p rest
IsRest (star x) p rest = (left : List Expression) × IsRest x p left × (rest ≡ left ++ star x ∷ [])
