-- An action belongs directly to one level.
use Rattle.std.proofs.Common.{◌≡◌, ℕ, zero, suc, List, [], ◌∷◌, length, refl, sym, ap, ◌∙◌, subst, inl, inr, ◌⊎◌, get_or, arith, ◌<◌}
use Rattle.rbg_rules.specs.Expression.{AbstractAction, shift, on, off, assignment, comparison, switch, positive, negative, Expression, act, skip, sequence, fail, choice, star}
use Rattle.rbg_rules.specs.Positions.{HasAction, HasInside, HasOwnAction, positions_of, positions_inside, IsPatternOf, Level, outermost, inside, IsLevel}
use Rattle.rbg_rules.specs.Laws.{OneLevelLaw, SomeLevelLaw, OwnWordLaw}
use Rattle.rbg_rules.proofs.PositionLemmas.{Among, AllDifferent, AllDifferent_left, AllDifferent_right, AllDifferent_apart, has_position, inside_position, numbered_once, one_action_at}
use Rattle.rbg_rules.proofs.PatternLemmas.{own_is_action, inside_is_within, stays_inside, word_own}

-- An own action of an expression is in no pattern of it.
own_not_inside : (x : Expression) → AllDifferent (positions_of x) → (i : ℕ) (c : AbstractAction) → HasOwnAction x i c → (p : ℕ) (b : AbstractAction) → HasAction x p b → (a : AbstractAction) → ¬ HasInside b i a
own_not_inside (act q d) (first, different) i c (here, _) p b h a k = first (subst (λ (j : ℕ). Among j (positions_inside d)) here (inside_position d i a (within h)))
  where
    within : HasAction (act q d) p b → HasInside d i a
    within (inl (_, same)) = subst (λ (e : AbstractAction). HasInside e i a) same k
    within (inr deep) = stays_inside d p b deep i a k
own_not_inside skip different i c here p b h a k = absurd here
own_not_inside (sequence x y) different i c (inl here) p b (inl h) a k = own_not_inside x (AllDifferent_left (positions_of x) (positions_of y) different) i c here p b h a k
own_not_inside (sequence x y) different i c (inl here) p b (inr h) a k = AllDifferent_apart (positions_of x) (positions_of y) different i (has_position x i c (own_is_action x i c here)) (has_position y i a (inside_is_within y p b h i a k))
own_not_inside (sequence x y) different i c (inr here) p b (inl h) a k = AllDifferent_apart (positions_of x) (positions_of y) different i (has_position x i a (inside_is_within x p b h i a k)) (has_position y i c (own_is_action y i c here))
own_not_inside (sequence x y) different i c (inr here) p b (inr h) a k = own_not_inside y (AllDifferent_right (positions_of x) (positions_of y) different) i c here p b h a k
own_not_inside fail different i c here p b h a k = absurd here
own_not_inside (choice x y) different i c (inl here) p b (inl h) a k = own_not_inside x (AllDifferent_left (positions_of x) (positions_of y) different) i c here p b h a k
own_not_inside (choice x y) different i c (inl here) p b (inr h) a k = AllDifferent_apart (positions_of x) (positions_of y) different i (has_position x i c (own_is_action x i c here)) (has_position y i a (inside_is_within y p b h i a k))
own_not_inside (choice x y) different i c (inr here) p b (inl h) a k = AllDifferent_apart (positions_of x) (positions_of y) different i (has_position x i a (inside_is_within x p b h i a k)) (has_position y i c (own_is_action y i c here))
own_not_inside (choice x y) different i c (inr here) p b (inr h) a k = own_not_inside y (AllDifferent_right (positions_of x) (positions_of y) different) i c here p b h a k
own_not_inside (star x) different i c here p b h a k = own_not_inside x different i c here p b h a k

-- The pattern b has the action a at i directly in its inside.
HoldsDirectly : AbstractAction → ℕ → AbstractAction → Type 0
HoldsDirectly (positive x) i a = HasOwnAction x i a
HoldsDirectly (negative x) i a = HasOwnAction x i a
HoldsDirectly (shift d) i a = ⊥
HoldsDirectly (on xs) i a = ⊥
HoldsDirectly (off x) i a = ⊥
HoldsDirectly (assignment v e) i a = ⊥
HoldsDirectly (comparison e r f) i a = ⊥
HoldsDirectly (switch n) i a = ⊥

held_inside : (b : AbstractAction) (i : ℕ) (a : AbstractAction) → HoldsDirectly b i a → HasInside b i a
unfolding HoldsDirectly
held_inside (positive x) i a h = own_is_action x i a h
held_inside (negative x) i a h = own_is_action x i a h
held_inside _ i a h = absurd h

-- .. so no pattern within it has the same in its inside.
held_once : (b : AbstractAction) → AllDifferent (positions_inside b) → (i : ℕ) (a : AbstractAction) → HoldsDirectly b i a → (p : ℕ) (b' : AbstractAction) → HasInside b p b' → (a' : AbstractAction) → ¬ HasInside b' i a'
unfolding HoldsDirectly
held_once (positive x) different i a held p b' h a' k = own_not_inside x different i a held p b' h a' k
held_once (negative x) different i a held p b' h a' k = own_not_inside x different i a held p b' h a' k
held_once _ different i a held p b' h a' k = absurd held

-- No two patterns have it directly in their insides.
module _ (i : ℕ) where
  position_held : (x : Expression) (p : ℕ) (b a : AbstractAction) → HasAction x p b → HoldsDirectly b i a → Among i (positions_of x)
  position_held x p b a h held = has_position x i a (inside_is_within x p b h i a (held_inside b i a held))

  mutual
    one_holder : (x : Expression) → AllDifferent (positions_of x) → (p p' : ℕ) (b b' a a' : AbstractAction) → HasAction x p b → HoldsDirectly b i a → HasAction x p' b' → HoldsDirectly b' i a' → p ≡ p'
    one_holder (act q d) different p p' b b' a a' (inl (here, _)) held (inl (here', _)) held' = here ∙ sym here'
    one_holder (act q d) (_, different) p p' b b' a a' (inl (here, same)) held (inr deep) held' = absurd (held_once d different i a (subst (λ (e : AbstractAction). HoldsDirectly e i a) same held) p' b' deep a' (held_inside b' i a' held'))
    one_holder (act q d) (_, different) p p' b b' a a' (inr deep) held (inl (here, same)) held' = absurd (held_once d different i a' (subst (λ (e : AbstractAction). HoldsDirectly e i a') same held') p b deep a (held_inside b i a held))
    one_holder (act q d) (_, different) p p' b b' a a' (inr deep) held (inr deep') held' = one_holder_inside d different p p' b b' a a' deep held deep' held'
    one_holder skip different p p' b b' a a' h held h' held' = absurd h
    one_holder (sequence x y) different p p' b b' a a' (inl h) held (inl h') held' = one_holder x (AllDifferent_left (positions_of x) (positions_of y) different) p p' b b' a a' h held h' held'
    one_holder (sequence x y) different p p' b b' a a' (inl h) held (inr h') held' = absurd (AllDifferent_apart (positions_of x) (positions_of y) different i (position_held x p b a h held) (position_held y p' b' a' h' held'))
    one_holder (sequence x y) different p p' b b' a a' (inr h) held (inl h') held' = absurd (AllDifferent_apart (positions_of x) (positions_of y) different i (position_held x p' b' a' h' held') (position_held y p b a h held))
    one_holder (sequence x y) different p p' b b' a a' (inr h) held (inr h') held' = one_holder y (AllDifferent_right (positions_of x) (positions_of y) different) p p' b b' a a' h held h' held'
    one_holder fail different p p' b b' a a' h held h' held' = absurd h
    one_holder (choice x y) different p p' b b' a a' (inl h) held (inl h') held' = one_holder x (AllDifferent_left (positions_of x) (positions_of y) different) p p' b b' a a' h held h' held'
    one_holder (choice x y) different p p' b b' a a' (inl h) held (inr h') held' = absurd (AllDifferent_apart (positions_of x) (positions_of y) different i (position_held x p b a h held) (position_held y p' b' a' h' held'))
    one_holder (choice x y) different p p' b b' a a' (inr h) held (inl h') held' = absurd (AllDifferent_apart (positions_of x) (positions_of y) different i (position_held x p' b' a' h' held') (position_held y p b a h held))
    one_holder (choice x y) different p p' b b' a a' (inr h) held (inr h') held' = one_holder y (AllDifferent_right (positions_of x) (positions_of y) different) p p' b b' a a' h held h' held'
    one_holder (star x) different p p' b b' a a' h held h' held' = one_holder x different p p' b b' a a' h held h' held'

    one_holder_inside : (d : AbstractAction) → AllDifferent (positions_inside d) → (p p' : ℕ) (b b' a a' : AbstractAction) → HasInside d p b → HoldsDirectly b i a → HasInside d p' b' → HoldsDirectly b' i a' → p ≡ p'
    one_holder_inside (positive x) different p p' b b' a a' h held h' held' = one_holder x different p p' b b' a a' h held h' held'
    one_holder_inside (negative x) different p p' b b' a a' h held h' held' = one_holder x different p p' b b' a a' h held h' held'
    one_holder_inside _ different p p' b b' a a' h held h' held' = absurd h

-- A level that is inside a pattern, as that pattern and what it holds.
pattern_of : (rules : Expression) (p : ℕ) (x : Expression) → IsLevel rules (inside p) x → (b : AbstractAction) × IsPatternOf b x × HasAction rules p b
pattern_of rules p x (inl h) = (positive x, inl refl, h)
pattern_of rules p x (inr h) = (negative x, inr refl, h)

holds_own : (b : AbstractAction) (x : Expression) → IsPatternOf b x → (i : ℕ) (a : AbstractAction) → HasOwnAction x i a → HoldsDirectly b i a
unfolding HoldsDirectly
holds_own b x (inl e) i a own = subst (λ (c : AbstractAction). HoldsDirectly c i a) (sym e) own
holds_own b x (inr e) i a own = subst (λ (c : AbstractAction). HoldsDirectly c i a) (sym e) own

same_inside : (b : AbstractAction) (x x' : Expression) → IsPatternOf b x → IsPatternOf b x' → x ≡ x'
same_inside b x x' (inl e) (inl f) = cc
same_inside b x x' (inl e) (inr f) = cc
same_inside b x x' (inr e) (inl f) = cc
same_inside b x x' (inr e) (inr f) = cc

pub one_level_law : OneLevelLaw
one_level_law rules numbered outermost outermost x x' is is' i a a' own own' = (refl, is ∙ sym is')
one_level_law rules numbered outermost (inside p) x x' is is' i a a' own own' =
    let (b, is_pattern, has) = pattern_of rules p x' is' in
    absurd (own_not_inside rules (numbered_once rules numbered) i a (subst (λ (y : Expression). HasOwnAction y i a) is own) p b has a' (held_inside b i a' (holds_own b x' is_pattern i a' own')))
one_level_law rules numbered (inside p) outermost x x' is is' i a a' own own' =
    let (b, is_pattern, has) = pattern_of rules p x is in
    absurd (own_not_inside rules (numbered_once rules numbered) i a' (subst (λ (y : Expression). HasOwnAction y i a') is' own') p b has a (held_inside b i a (holds_own b x is_pattern i a own)))
one_level_law rules numbered (inside p) (inside p') x x' is is' i a a' own own' =
    let (b, is_pattern, has) = pattern_of rules p x is in
    let (b', is_pattern', has') = pattern_of rules p' x' is' in
    let same : p ≡ p' = one_holder i rules (numbered_once rules numbered) p p' b b' a a' has (holds_own b x is_pattern i a own) has' (holds_own b' x' is_pattern' i a' own') in
    let same_action : b' ≡ b = one_action_at rules numbered p b' b (subst (λ (q : ℕ). HasAction rules q b') (sym same) has') has in
    (ap inside same, same_inside b x x' is_pattern (subst (λ (c : AbstractAction). IsPatternOf c x') same_action is_pattern'))

-- A list's element at an index is among the list.
pub among_at : (xs : List ℕ) (k x : ℕ) → k < length xs → get_or xs k x ≡ x → Among x xs
among_at [] k x below e = absurd (omega arith)
among_at (y ∷ xs) zero x below e = inl (sym e)
among_at (y ∷ xs) (suc k) x below e = inr (among_at xs k x (omega arith) e)

pub own_word_law : OwnWordLaw
own_word_law x w word i (k, below, e) = word_own x w word i (among_at w k i below e)

-- A pattern for which P holds at some position has a at i directly in its inside.
abbrev Held : (ℕ → AbstractAction → Type 0) → ℕ → AbstractAction → Type 0
Held P i a = (p : ℕ) × (y : Expression) × (P p (positive y) ⊎ P p (negative y)) × HasOwnAction y i a

either_up : {A B C D : Type 0} → (A → C) → (B → D) → A ⊎ B → C ⊎ D
either_up f g (inl x) = inl (f x)
either_up f g (inr y) = inr (g y)

held_up : (P Q : ℕ → AbstractAction → Type 0) → ((p : ℕ) (b : AbstractAction) → P p b → Q p b) → (i : ℕ) (a : AbstractAction) → Held P i a → Held Q i a
held_up P Q up i a held = (held.0, held.1, either_up (up held.0 (positive held.1)) (up held.0 (negative held.1)) held.2, held.3)

held_by : (q : ℕ) (b : AbstractAction) (y : Expression) (i : ℕ) (a : AbstractAction) → HasAction (act q b) q (positive y) ⊎ HasAction (act q b) q (negative y) → ((p : ℕ) (c : AbstractAction) → HasAction y p c → HasAction (act q b) p c) → HasOwnAction y i a ⊎ Held (HasAction y) i a → Held (HasAction (act q b)) i a
held_by q b y i a stands up (inl own) = (q, y, stands, own)
held_by q b y i a stands up (inr held) = held_up (HasAction y) (HasAction (act q b)) up i a held

-- Each action of an expression is its own, or is directly in the inside of a pattern of it.
mutual
  own_or_held : (x : Expression) (i : ℕ) (a : AbstractAction) → HasAction x i a → HasOwnAction x i a ⊎ Held (HasAction x) i a
  own_or_held (act q b) i a (inl here) = inl here
  own_or_held (act q b) i a (inr deep) = inr (held_in q b i a deep)
  own_or_held skip i a h = absurd h
  own_or_held (sequence x y) i a (inl h) = either_up (λ own. inl own) (held_up (HasAction x) (HasAction (sequence x y)) (λ p b k. inl k) i a) (own_or_held x i a h)
  own_or_held (sequence x y) i a (inr h) = either_up (λ own. inr own) (held_up (HasAction y) (HasAction (sequence x y)) (λ p b k. inr k) i a) (own_or_held y i a h)
  own_or_held fail i a h = absurd h
  own_or_held (choice x y) i a (inl h) = either_up (λ own. inl own) (held_up (HasAction x) (HasAction (choice x y)) (λ p b k. inl k) i a) (own_or_held x i a h)
  own_or_held (choice x y) i a (inr h) = either_up (λ own. inr own) (held_up (HasAction y) (HasAction (choice x y)) (λ p b k. inr k) i a) (own_or_held y i a h)
  own_or_held (star x) i a h = own_or_held x i a h

  held_in : (q : ℕ) (b : AbstractAction) (i : ℕ) (a : AbstractAction) → HasInside b i a → Held (HasAction (act q b)) i a
  held_in q (positive y) i a k = held_by q (positive y) y i a (inl (inl (refl, refl))) (λ p c h. inr h) (own_or_held y i a k)
  held_in q (negative y) i a k = held_by q (negative y) y i a (inr (inl (refl, refl))) (λ p c h. inr h) (own_or_held y i a k)
  held_in q _ i a k = absurd k

pub some_level_law : SomeLevelLaw
some_level_law rules i a h = level_of (own_or_held rules i a h)
  where
    level_of : HasOwnAction rules i a ⊎ Held (HasAction rules) i a → (level : Level) × (x : Expression) × IsLevel rules level x × HasOwnAction x i a
    level_of (inl own) = (outermost, rules, refl, own)
    level_of (inr held) = (inside held.0, held.1, held.2, held.3)
