-- Where a position is in a joined list, and in a word of an expression.
use Rattle.std.proofs.Common.{◌≡◌, ℕ, List, [], ◌∷◌, ◌++◌, refl, ap, inl}
use Rattle.rbg_rules.specs.Expression.{Expression}
use Rattle.rbg_rules.specs.Positions.{positions_of}
use Rattle.rbg_rules.specs.Words.{Word}
use Rattle.rbg_rules.proofs.PositionLemmas.{Among, Among_right, has_position}
use Rattle.rbg_rules.proofs.PatternLemmas.{own_is_action, word_own}

-- A position of a joined list is in its first part or in its second.
pub data Cut (a b u : List ℕ) (j : ℕ) (v : List ℕ) : Type 0 where
  in_first : (rest : List ℕ) → a ≡ u ++ j ∷ rest → v ≡ rest ++ b → Cut a b u j v
  in_second : (front : List ℕ) → u ≡ a ++ front → b ≡ front ++ j ∷ v → Cut a b u j v

pub cut_at : (a b u : List ℕ) (j : ℕ) (v : List ℕ) → a ++ b ≡ u ++ j ∷ v → Cut a b u j v
cut_at [] b u j v e = in_second u refl e
cut_at (x ∷ a) b [] j v e =
    let head : x ≡ j = cc in
    let tail : v ≡ a ++ b = cc in
    in_first a (ap (λ (y : ℕ). y ∷ a) head) tail
cut_at (x ∷ a) b (y ∷ u) j v e =
    let head : x ≡ y = cc in
    let tail : a ++ b ≡ u ++ j ∷ v = cc in
    further head (cut_at a b u j v tail)
  where
    further : x ≡ y → Cut a b u j v → Cut (x ∷ a) b (y ∷ u) j v
    further head (in_first rest is later) = in_first rest (cc (head, is)) later
    further head (in_second front is later) = in_second front (cc (head, is)) later

-- A list of one position has nothing round it, and a list with a position in it is not empty.
pub single : (u : List ℕ) (j : ℕ) (v : List ℕ) (q : ℕ) → u ++ j ∷ v ≡ q ∷ [] → (u ≡ []) × (v ≡ []) × (j ≡ q)
single [] j v q e = (refl, cc, cc)
single (x ∷ []) j v q e = absurd (cc e)
single (x ∷ y ∷ u) j v q e = absurd (cc e)

pub not_empty : (u : List ℕ) (j : ℕ) (v : List ℕ) → ¬ (u ++ j ∷ v ≡ [])
not_empty [] j v e = cc
not_empty (x ∷ u) j v e = cc

-- A position in a word of an expression is among the expression's positions.
pub word_position : (x : Expression) (u : List ℕ) (j : ℕ) (v : List ℕ) → Word x (u ++ j ∷ v) → Among j (positions_of x)
word_position x u j v word =
    let (a, own) = word_own x (u ++ j ∷ v) word j (Among_right j u (j ∷ v) (inl refl)) in
    has_position x j a (own_is_action x j a own)
