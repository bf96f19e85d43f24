-- What numbering gives: one action is at each position, and only a word's own positions are in it.
use Rattle.rbg_base.proofs.Common.{◌≡◌, ℕ, zero, suc, ◌+◌, ◌≤◌, List, [], ◌∷◌, ◌++◌, length, sym, ◌∙◌, subst, ◌⊎◌, inl, inr, arith, range_with_len}
use Rattle.rbg_rules.specs.Expression.{AbstractAction, positive, negative, Expression, act, skip, sequence, fail, choice, star}
use Rattle.rbg_rules.specs.Positions.{HasAction, HasInside, positions_of, positions_inside, IsNumbered}

-- x is among the list, and no member of a list occurs again in it
abbrev pub Among : ℕ → List ℕ → Type 0
Among x [] = ⊥
Among x (y ∷ ys) = (x ≡ y) ⊎ Among x ys

abbrev pub AllDifferent : List ℕ → Type 0
AllDifferent [] = Unit {0}
AllDifferent (x ∷ xs) = (¬ Among x xs) × AllDifferent xs

pub Among_left : (x : ℕ) (xs ys : List ℕ) → Among x xs → Among x (xs ++ ys)
Among_left x [] ys h = absurd h
Among_left x (y ∷ xs) ys (inl e) = inl e
Among_left x (y ∷ xs) ys (inr h) = inr (Among_left x xs ys h)

pub Among_right : (x : ℕ) (xs ys : List ℕ) → Among x ys → Among x (xs ++ ys)
Among_right x [] ys h = h
Among_right x (y ∷ xs) ys h = inr (Among_right x xs ys h)

pub Among_cases : (x : ℕ) (xs ys : List ℕ) → Among x (xs ++ ys) → Among x xs ⊎ Among x ys
Among_cases x [] ys h = inr h
Among_cases x (y ∷ xs) ys (inl e) = inl (inl e)
Among_cases x (y ∷ xs) ys (inr h) = elim (Among_cases x xs ys h) [ inl l ↦ inl (inr l) | inr r ↦ inr r ]

pub AllDifferent_left : (xs ys : List ℕ) → AllDifferent (xs ++ ys) → AllDifferent xs
AllDifferent_left [] ys d = tt
AllDifferent_left (x ∷ xs) ys (first, d) = ((λ h. first (Among_left x xs ys h)), AllDifferent_left xs ys d)

pub AllDifferent_right : (xs ys : List ℕ) → AllDifferent (xs ++ ys) → AllDifferent ys
AllDifferent_right [] ys d = d
AllDifferent_right (x ∷ xs) ys (first, d) = AllDifferent_right xs ys d

pub AllDifferent_apart : (xs ys : List ℕ) → AllDifferent (xs ++ ys) → (x : ℕ) → Among x xs → ¬ Among x ys
AllDifferent_apart [] ys d x h k = absurd h
AllDifferent_apart (y ∷ xs) ys (first, d) x (inl e) k = first (subst (λ (z : ℕ). Among z (xs ++ ys)) e (Among_right x xs ys k))
AllDifferent_apart (y ∷ xs) ys (first, d) x (inr h) k = AllDifferent_apart xs ys d x h k

pub Among-range_with_len : (first many x : ℕ) → Among x (range_with_len first many) → first ≤ x
Among-range_with_len first zero x h = absurd h
Among-range_with_len first (suc many) x (inl e) = omega arith
Among-range_with_len first (suc many) x (inr h) = let later : first + 1 ≤ x = Among-range_with_len (first + 1) many x h in omega arith

pub AllDifferent-range_with_len : (first many : ℕ) → AllDifferent (range_with_len first many)
AllDifferent-range_with_len first zero = tt
AllDifferent-range_with_len first (suc many) =
    ((λ h. let later : first + 1 ≤ first = Among-range_with_len (first + 1) many first h in absurd (omega arith)), AllDifferent-range_with_len (first + 1) many)

pub numbered_once : (x : Expression) → IsNumbered x → AllDifferent (positions_of x)
numbered_once x numbered = subst AllDifferent (sym numbered.in_order) (AllDifferent-range_with_len 1 (length (positions_of x)))

-- The position of each action that an expression has is among its positions.
mutual
  pub has_position : (x : Expression) (p : ℕ) (a : AbstractAction) → HasAction x p a → Among p (positions_of x)
  has_position (act q b) p a (inl (e, _)) = inl e
  has_position (act q b) p a (inr h) = inr (inside_position b p a h)
  has_position skip p a h = absurd h
  has_position (sequence x y) p a (inl h) = Among_left p (positions_of x) (positions_of y) (has_position x p a h)
  has_position (sequence x y) p a (inr h) = Among_right p (positions_of x) (positions_of y) (has_position y p a h)
  has_position fail p a h = absurd h
  has_position (choice x y) p a (inl h) = Among_left p (positions_of x) (positions_of y) (has_position x p a h)
  has_position (choice x y) p a (inr h) = Among_right p (positions_of x) (positions_of y) (has_position y p a h)
  has_position (star x) p a h = has_position x p a h

  pub inside_position : (b : AbstractAction) (p : ℕ) (a : AbstractAction) → HasInside b p a → Among p (positions_inside b)
  inside_position (positive x) p a h = has_position x p a h
  inside_position (negative x) p a h = has_position x p a h
  inside_position _ p a h = absurd h

-- Of two parts that share no position, both actions are in the same part.
one_of_two : (x y : Expression) → AllDifferent (positions_of x ++ positions_of y) → (p : ℕ) (a b : AbstractAction) → (HasAction x p a → HasAction x p b → a ≡ b) → (HasAction y p a → HasAction y p b → a ≡ b) → HasAction x p a ⊎ HasAction y p a → HasAction x p b ⊎ HasAction y p b → a ≡ b
one_of_two x y d p a b in_x in_y (inl h) (inl k) = in_x h k
one_of_two x y d p a b in_x in_y (inl h) (inr k) = absurd (AllDifferent_apart (positions_of x) (positions_of y) d p (has_position x p a h) (has_position y p b k))
one_of_two x y d p a b in_x in_y (inr h) (inl k) = absurd (AllDifferent_apart (positions_of x) (positions_of y) d p (has_position x p b k) (has_position y p a h))
one_of_two x y d p a b in_x in_y (inr h) (inr k) = in_y h k

-- If no position occurs twice, one action is at each position.
mutual
  pub one_action : (x : Expression) → AllDifferent (positions_of x) → (p : ℕ) (a b : AbstractAction) → HasAction x p a → HasAction x p b → a ≡ b
  one_action (act q c) d p a b (inl (_, e)) (inl (_, f)) = e ∙ sym f
  one_action (act q c) (first, d) p a b (inl (e, _)) (inr k) = absurd (first (subst (λ (z : ℕ). Among z (positions_inside c)) e (inside_position c p b k)))
  one_action (act q c) (first, d) p a b (inr h) (inl (e, _)) = absurd (first (subst (λ (z : ℕ). Among z (positions_inside c)) e (inside_position c p a h)))
  one_action (act q c) (first, d) p a b (inr h) (inr k) = one_inside c d p a b h k
  one_action skip d p a b h k = absurd h
  one_action (sequence x y) d p a b h k = one_of_two x y d p a b (one_action x (AllDifferent_left (positions_of x) (positions_of y) d) p a b) (one_action y (AllDifferent_right (positions_of x) (positions_of y) d) p a b) h k
  one_action fail d p a b h k = absurd h
  one_action (choice x y) d p a b h k = one_of_two x y d p a b (one_action x (AllDifferent_left (positions_of x) (positions_of y) d) p a b) (one_action y (AllDifferent_right (positions_of x) (positions_of y) d) p a b) h k
  one_action (star x) d p a b h k = one_action x d p a b h k

  pub one_inside : (c : AbstractAction) → AllDifferent (positions_inside c) → (p : ℕ) (a b : AbstractAction) → HasInside c p a → HasInside c p b → a ≡ b
  one_inside (positive x) d p a b h k = one_action x d p a b h k
  one_inside (negative x) d p a b h k = one_action x d p a b h k
  one_inside _ d p a b h k = absurd h

pub one_action_at : (x : Expression) → IsNumbered x → (p : ℕ) (a b : AbstractAction) → HasAction x p a → HasAction x p b → a ≡ b
one_action_at x numbered p a b h k = one_action x (numbered_once x numbered) p a b h k
