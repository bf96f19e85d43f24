-- The language of an expression, as lists of positions.
use Rattle.std.specs.Prelude.{◌≡◌, ℕ, ◌⊎◌, List, [], ◌∷◌, ◌++◌}
use Rattle.rbg_rules.specs.Expression.{Expression, act, skip, sequence, fail, choice, star}
use Rattle.rbg_rules.specs.Positions.{Level, IsLevel}

-- The list is some pieces joined, each of which is in the language: none, or one and then further ones.
pub data Repeats (Language : List ℕ → Type 0) : List ℕ → Type 0 where
  done : Repeats Language []
  again : {u v : List ℕ} → Language u → Repeats Language v → Repeats Language (u ++ v)

-- w is a word of the expression (paper: the language of the rules). An action has the word of its one position. A
-- sequence joins a word of each part. A sum has the words of its parts. A star joins any finite list of words. What
-- is inside a pattern makes no word outside.
abbrev pub Word : Expression → List ℕ → Type 0
Word (act p a) w = w ≡ p ∷ []
Word skip w = w ≡ []
Word (sequence x y) w = (u : List ℕ) × (v : List ℕ) × Word x u × Word y v × (w ≡ u ++ v)
Word fail w = ⊥
Word (choice x y) w = Word x w ⊎ Word y w
Word (star x) w = Repeats (Word x) w

-- w is a word of the expression of a level of the rules.
pub record WordOf (rules : Expression) (level : Level) (w : List ℕ) : Type 0 where
  pub expression : Expression
  pub is_level : IsLevel rules level expression
  pub is_word : Word expression w

-- A point in the rules: the beginning of a level, or the point after the action at a position.
pub data Start : Type 0 where
  beginning : Level → Start
  after : (position : ℕ) → Start

-- m follows there (paper: how a move continues after the last action): at the beginning of a level it begins a word of
-- that level; after position i it follows directly after an i in a word of the level to which i belongs.
abbrev pub Follows : Expression → Start → List ℕ → Type 0
Follows rules (beginning level) m = (z : List ℕ) × WordOf rules level (m ++ z)
Follows rules (after i) m = (level : Level) × (u : List ℕ) × (z : List ℕ) × WordOf rules level (u ++ i ∷ (m ++ z))

-- m is all that follows there in a word: a whole word of a level, or what follows position i to the end of a word. A
-- word may end at position i if `Ends rules (after i) []`.
abbrev pub Ends : Expression → Start → List ℕ → Type 0
Ends rules (beginning level) m = WordOf rules level m
Ends rules (after i) m = (level : Level) × (u : List ℕ) × WordOf rules level (u ++ i ∷ m)
