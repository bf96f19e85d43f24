-- Where the words of an expression begin, read off the expression.
use Rattle.std.specs.Prelude.{ℕ, List, [], ◌∷◌, ◌++◌, Bool, true, false, ◌&&◌, ◌||◌, if◌then◌else◌}
use Rattle.rbg_rules.specs.Meaning.{Expression, act, skip, sequence, fail, choice, star}

-- whether the empty list is a word
abbrev pub may_be_empty : Expression → Bool
may_be_empty (act p a) = false
may_be_empty skip = true
may_be_empty (sequence x y) = may_be_empty x && may_be_empty y
may_be_empty fail = false
may_be_empty (choice x y) = may_be_empty x || may_be_empty y
may_be_empty (star x) = true

-- the list, if the expression before it may be empty
abbrev pub past : Expression → List ℕ → List ℕ
past x k = if may_be_empty x then k else []

-- the positions with which words begin, in order of text
abbrev pub firsts : Expression → List ℕ
firsts (act p a) = p ∷ []
firsts skip = []
firsts (sequence x y) = firsts x ++ past x (firsts y)
firsts fail = []
firsts (choice x y) = firsts x ++ firsts y
firsts (star x) = firsts x
