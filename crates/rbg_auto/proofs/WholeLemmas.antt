-- Rules that are laid whole have the steps of their words.
use Rattle.rbg_base.proofs.Common.{◌≡◌, ℕ, List, [], ◌∷◌, ◌++◌, length, refl, sym, ap, ◌∙◌, subst, inl, inr, ◌⊎◌, Bool, true, false, arith, cases_lt}
use Rattle.rbg_rules.specs.Meaning.{AbstractAction, shift, on, off, assignment, comparison, switch, positive, negative, Expression, act, skip, sequence, fail, choice, star, HasAction, HasInside, HasOwnAction, positions_of, positions_inside, IsNumbered, Level, outermost, inside, IsLevel, HasNoEmptySum, HasNoEmptySumInside, WordOf, Start, beginning, after, Follows, Ends}
use Rattle.rbg_rules.proofs.PositionLemmas.{Among, Among_right, Among_cases}
use Rattle.rbg_rules.proofs.PatternLemmas.{word_own}
use Rattle.rbg_rules.proofs.LevelLemmas.{some_level_law}
use Rattle.rbg_auto.specs.Steps.{AreAllThatFollow, AreStepsOf}
use Rattle.rbg_auto.specs.internal.Orders.{Ascends}
use Rattle.rbg_auto.specs.internal.Firsts.{may_be_empty, firsts}
use Rattle.rbg_auto.specs.internal.Laying.{Laid, nothing, IsLaid, IsLaidInside, first_at, empty_at, IsWhole}
use Rattle.rbg_auto.proofs.OrderLemmas.{Ascends_left, Ascends_right, Ascends-range_with_len, Contains-from_among, among_from_Contains, IsStrictlyIncreasing-from_ascends}
use Rattle.rbg_auto.proofs.FirstLemmas.{empty_word, may_be_empty_by, begins_among, among_begins, Ascends-firsts}
use Rattle.rbg_auto.proofs.StepLemmas.{IsRight, right}

decide : (x : ℕ) (xs : List ℕ) → Among x xs ⊎ (¬ Among x xs)
decide x [] = inr (λ h. absurd h)
decide x (y ∷ xs) = elim (decide x xs) [
  | inl h ↦ inl (inr h)
  | inr none ↦ elim (cases_lt x y) [
    | inl less ↦ inr (λ h. elim h [ inl same ↦ absurd (omega (arith, less, same)) | inr later ↦ none later ])
    | inr least ↦ elim (cases_lt y x) [
      | inl more ↦ inr (λ h. elim h [ inl same ↦ absurd (omega (arith, more, same)) | inr later ↦ none later ])
      | inr most ↦ inl (inl (omega (arith, least, most)))
    ]
  ]
]

-- An action is at each position.
mutual
  some_action : (x : Expression) (p : ℕ) → Among p (positions_of x) → (a : AbstractAction) × HasAction x p a
  some_action (act q b) p (inl e) = (b, inl (e, refl))
  some_action (act q b) p (inr h) = let found = some_inside b p h in (found.0, inr found.1)
  some_action skip p h = absurd h
  some_action (sequence x y) p h = elim (Among_cases p (positions_of x) (positions_of y) h) [
    | inl left ↦ let found = some_action x p left in (found.0, inl found.1)
    | inr right ↦ let found = some_action y p right in (found.0, inr found.1)
  ]
  some_action fail p h = absurd h
  some_action (choice x y) p h = elim (Among_cases p (positions_of x) (positions_of y) h) [
    | inl left ↦ let found = some_action x p left in (found.0, inl found.1)
    | inr right ↦ let found = some_action y p right in (found.0, inr found.1)
  ]
  some_action (star x) p h = some_action x p h

  some_inside : (b : AbstractAction) (p : ℕ) → Among p (positions_inside b) → (a : AbstractAction) × HasInside b p a
  some_inside (positive x) p h = some_action x p h
  some_inside (negative x) p h = some_action x p h
  some_inside _ p h = absurd h

-- An action is laid, and what is inside it is lawful.
record IsActionLaid (at : ℕ → Laid) (p : ℕ) (b : AbstractAction) : Type 0 where
  within : IsLaidInside at p b
  none : HasNoEmptySumInside b
  order : Ascends (positions_inside b)

module _ (at : ℕ → Laid) where
  mutual
    action_laid : (x : Expression) → HasNoEmptySum x → Ascends (positions_of x) → (k : List ℕ) (end : Bool) → IsLaid at x k end → (p : ℕ) (b : AbstractAction) → HasAction x p b → IsActionLaid at p b
    action_laid (act q c) none (_, order) k end (_, _, within) p b (inl (here, same)) =
        subst (λ (a : AbstractAction). IsActionLaid at p a) (sym same) (subst (λ (n : ℕ). IsActionLaid at n c) (sym here) (record { within = within; none = none; order = order }))
    action_laid (act q c) none (_, order) k end (_, _, within) p b (inr deep) = inside_laid q c none order within p b deep
    action_laid skip none order k end laid p b h = absurd h
    action_laid (sequence x y) none order k end (m, may_end, _, in_x, in_y) p b (inl h) = action_laid x none.0 (Ascends_left (positions_of x) (positions_of y) order) m may_end in_x p b h
    action_laid (sequence x y) none order k end (m, may_end, _, in_x, in_y) p b (inr h) = action_laid y none.1 (Ascends_right (positions_of x) (positions_of y) order) k end in_y p b h
    action_laid fail none order k end laid p b h = absurd h
    action_laid (choice x y) none order k end (in_x, in_y) p b (inl h) = elim none.0 [
      | inl failed ↦ absurd (subst (λ (z : Expression). HasAction z p b) failed h)
      | inr kept ↦ action_laid x kept (Ascends_left (positions_of x) (positions_of y) order) k end in_x p b h
    ]
    action_laid (choice x y) none order k end (in_x, in_y) p b (inr h) = action_laid y none.1 (Ascends_right (positions_of x) (positions_of y) order) k end in_y p b h
    action_laid (star x) none order k end (m, _, in_x) p b h = action_laid x none order m end in_x p b h

    inside_laid : (q : ℕ) (c : AbstractAction) → HasNoEmptySumInside c → Ascends (positions_inside c) → IsLaidInside at q c → (p : ℕ) (b : AbstractAction) → HasInside c p b → IsActionLaid at p b
    inside_laid q (positive x) none order (_, _, laid) p b h = action_laid x none order [] true laid p b h
    inside_laid q (negative x) none order (_, _, laid) p b h = action_laid x none order [] true laid p b h
    inside_laid q _ none order within p b h = absurd h

-- The expression of a level is laid, and its words begin as `first` and `may` have it.
record IsLevelLaid (at : ℕ → Laid) (x : Expression) (first : List ℕ) (may : Bool) : Type 0 where
  begins : first ≡ firsts x
  empty : may ≡ may_be_empty x
  none : HasNoEmptySum x
  order : Ascends (positions_of x)
  laid : IsLaid at x [] true

pub numbered_ascends : (x : Expression) → IsNumbered x → Ascends (positions_of x)
numbered_ascends x numbered = subst Ascends (sym numbered.in_order) (Ascends-range_with_len 1 (length (positions_of x)))

module _ (rules : Expression) (numbered : IsNumbered rules) (none : HasNoEmptySum rules) (first : List ℕ) (may : Bool) (at : ℕ → Laid) (whole : IsWhole rules first may at) where
  laid_at : (p : ℕ) (b : AbstractAction) → HasAction rules p b → IsActionLaid at p b
  laid_at p b h = action_laid at rules none (numbered_ascends rules numbered) [] true whole.laid p b h

  level_laid : (level : Level) (x : Expression) → IsLevel rules level x → IsLevelLaid at x (first_at first at level) (empty_at may at level)
  level_laid outermost x is =
      subst (λ (y : Expression). IsLevelLaid at y first may) (sym is)
      (record { begins = whole.begins; empty = whole.empty; none = none; order = numbered_ascends rules numbered; laid = whole.laid })
  level_laid (inside p) x (inl h) =
      let one = laid_at p (positive x) h in
      let within : IsLaidInside at p (positive x) = one.within in
      record { begins = within.0; empty = within.1; none = one.none; order = one.order; laid = within.2 }
  level_laid (inside p) x (inr h) =
      let one = laid_at p (negative x) h in
      let within : IsLaidInside at p (negative x) = one.within in
      record { begins = within.0; empty = within.1; none = one.none; order = one.order; laid = within.2 }

  -- If something is laid at a position, the position belongs to a level, and what is laid is right.
  right_in : (level : Level) (x : Expression) → IsLevel rules level x → (i : ℕ) (a : AbstractAction) → HasOwnAction x i a → IsRight (at i) x [] true i
  right_in level x is i a own =
      let there = level_laid level x is in
      right at x there.none there.order [] tt true there.laid i a own

  right_word : (level : Level) (u : List ℕ) (i : ℕ) (v : List ℕ) → (word : WordOf rules level (u ++ i ∷ v)) → IsRight (at i) word.expression [] true i
  right_word level u i v word =
      let (a, own) = word_own word.expression (u ++ i ∷ v) word.is_word i (Among_right i u (i ∷ v) (inl refl)) in
      right_in level word.expression word.is_level i a own

  record RightSomewhere (i : ℕ) : Type 0 where
    level : Level
    expression : Expression
    is_level : IsLevel rules level expression
    is_right : IsRight (at i) expression [] true i

  right_somewhere : (i : ℕ) → RightSomewhere i ⊎ (at i ≡ nothing)
  right_somewhere i = elim (decide i (positions_of rules)) [
    | inl there ↦
        let (a, stands) = some_action rules i there in
        let (level, x, is, own) = some_level_law rules i a stands in
        inl (record { level = level; expression = x; is_level = is; is_right = right_in level x is i a own })
    | inr none_there ↦ inr (whole.others i none_there)
  ]

  next_exact_to : (i j : ℕ) → Among j (at i).next → Follows rules (after i) (j ∷ [])
  next_exact_to i j h = elim (right_somewhere i) [
    | inl some ↦ elim (some.is_right.to j h) [
      | inl (u, v, word) ↦ (some.level, u, v, record { expression = some.expression; is_level = some.is_level; is_word = word })
      | inr (_, none_after) ↦ absurd none_after
    ]
    | inr nowhere ↦ absurd (subst (λ (l : Laid). Among j l.next) nowhere h)
  ]

  next_exact_from : (i j : ℕ) → Follows rules (after i) (j ∷ []) → Among j (at i).next
  next_exact_from i j (level, u, z, word) = (right_word level u i (j ∷ z) word).from j (inl (u, z, word.is_word))

  next_order : (i : ℕ) → Ascends (at i).next
  next_order i = elim (right_somewhere i) [
    | inl some ↦ some.is_right.order
    | inr nowhere ↦ subst (λ (l : Laid). Ascends l.next) (sym nowhere) tt
  ]

  ends_to : (i : ℕ) → (at i).may_end ≡ true → Ends rules (after i) []
  ends_to i e = elim (right_somewhere i) [
    | inl some ↦ let ((u, word), _) = some.is_right.ends e in (some.level, u, record { expression = some.expression; is_level = some.is_level; is_word = word })
    | inr nowhere ↦ absurd (not_both (sym (ap (λ (l : Laid). l.may_end) nowhere) ∙ e))
  ]
    where
      not_both : false ≡ true → ⊥
      not_both e = cc

  ends_from : (i : ℕ) → Ends rules (after i) [] → (at i).may_end ≡ true
  ends_from i (level, u, word) = (right_word level u i [] word).ended (u, word.is_word) refl

  -- A level that is not laid has nothing laid.
  inside_somewhere : (p : ℕ) → ((b : AbstractAction) × HasAction rules p b) ⊎ (at p ≡ nothing)
  inside_somewhere p = elim (decide p (positions_of rules)) [
    | inl there ↦ inl (some_action rules p there)
    | inr none_there ↦ inr (whole.others p none_there)
  ]

  first_in : (level : Level) (x : Expression) → IsLevel rules level x → (j : ℕ) → Among j (first_at first at level) → Follows rules (beginning level) (j ∷ [])
  first_in level x is j h =
      let there = level_laid level x is in
      let (z, word) = among_begins x there.none j (subst (Among j) there.begins h) in
      (z, record { expression = x; is_level = is; is_word = word })

  first_by : (p j : ℕ) (b : AbstractAction) → HasAction rules p b → Among j (at p).first → IsLaidInside at p b → Follows rules (beginning (inside p)) (j ∷ [])
  first_by p j (positive x) stands h within = first_in (inside p) x (inl stands) j h
  first_by p j (negative x) stands h within = first_in (inside p) x (inr stands) j h
  first_by p j (shift d) stands h within = absurd (subst (Among j) within.0 h)
  first_by p j (on xs) stands h within = absurd (subst (Among j) within.0 h)
  first_by p j (off x) stands h within = absurd (subst (Among j) within.0 h)
  first_by p j (assignment v e) stands h within = absurd (subst (Among j) within.0 h)
  first_by p j (comparison e r f) stands h within = absurd (subst (Among j) within.0 h)
  first_by p j (switch n) stands h within = absurd (subst (Among j) within.0 h)

  first_exact_to : (level : Level) (j : ℕ) → Among j (first_at first at level) → Follows rules (beginning level) (j ∷ [])
  first_exact_to outermost j h = first_in outermost rules refl j h
  first_exact_to (inside p) j h = elim (inside_somewhere p) [
    | inl some ↦ first_by p j some.0 some.1 h (laid_at p some.0 some.1).within
    | inr nowhere ↦ absurd (subst (λ (l : Laid). Among j l.first) nowhere h)
  ]

  first_exact_from : (level : Level) (j : ℕ) → Follows rules (beginning level) (j ∷ []) → Among j (first_at first at level)
  first_exact_from level j (z, word) =
      let there = level_laid level word.expression word.is_level in
      subst (Among j) (sym there.begins) (begins_among word.expression j (z, word.is_word))

  first_order_by : (p : ℕ) (b : AbstractAction) → HasAction rules p b → IsLaidInside at p b → Ascends (at p).first
  first_order_by p (positive x) stands within = let there = level_laid (inside p) x (inl stands) in subst Ascends (sym there.begins) (Ascends-firsts x there.order)
  first_order_by p (negative x) stands within = let there = level_laid (inside p) x (inr stands) in subst Ascends (sym there.begins) (Ascends-firsts x there.order)
  first_order_by p (shift d) stands within = subst Ascends (sym within.0) tt
  first_order_by p (on xs) stands within = subst Ascends (sym within.0) tt
  first_order_by p (off x) stands within = subst Ascends (sym within.0) tt
  first_order_by p (assignment v e) stands within = subst Ascends (sym within.0) tt
  first_order_by p (comparison e r f) stands within = subst Ascends (sym within.0) tt
  first_order_by p (switch n) stands within = subst Ascends (sym within.0) tt

  first_order : (level : Level) → Ascends (first_at first at level)
  first_order outermost = subst Ascends (sym whole.begins) (Ascends-firsts rules (numbered_ascends rules numbered))
  first_order (inside p) = elim (inside_somewhere p) [
    | inl some ↦ first_order_by p some.0 some.1 (laid_at p some.0 some.1).within
    | inr nowhere ↦ subst (λ (l : Laid). Ascends l.first) (sym nowhere) tt
  ]

  empty_in : (level : Level) (x : Expression) → IsLevel rules level x → empty_at may at level ≡ true → Ends rules (beginning level) []
  empty_in level x is e = record { expression = x; is_level = is; is_word = empty_word x (sym (level_laid level x is).empty ∙ e) }

  false_is_true : (b : Bool) → b ≡ false → b ≡ true → ⊥
  false_is_true b is_false is_true = cc (is_false, is_true)

  empty_by : (p : ℕ) (b : AbstractAction) → HasAction rules p b → (at p).may_be_empty ≡ true → IsLaidInside at p b → Ends rules (beginning (inside p)) []
  empty_by p (positive x) stands e within = empty_in (inside p) x (inl stands) e
  empty_by p (negative x) stands e within = empty_in (inside p) x (inr stands) e
  empty_by p (shift d) stands e within = absurd (false_is_true (at p).may_be_empty within.1 e)
  empty_by p (on xs) stands e within = absurd (false_is_true (at p).may_be_empty within.1 e)
  empty_by p (off x) stands e within = absurd (false_is_true (at p).may_be_empty within.1 e)
  empty_by p (assignment v f) stands e within = absurd (false_is_true (at p).may_be_empty within.1 e)
  empty_by p (comparison f r g) stands e within = absurd (false_is_true (at p).may_be_empty within.1 e)
  empty_by p (switch n) stands e within = absurd (false_is_true (at p).may_be_empty within.1 e)

  empty_to : (level : Level) → empty_at may at level ≡ true → Ends rules (beginning level) []
  empty_to outermost e = empty_in outermost rules refl e
  empty_to (inside p) e = elim (inside_somewhere p) [
    | inl some ↦ empty_by p some.0 some.1 e (laid_at p some.0 some.1).within
    | inr nowhere ↦ absurd (false_is_true (at p).may_be_empty (ap (λ (l : Laid). l.may_be_empty) nowhere) e)
  ]

  empty_from : (level : Level) → Ends rules (beginning level) [] → empty_at may at level ≡ true
  empty_from level word = (level_laid level word.expression word.is_level).empty ∙ may_be_empty_by word.expression word.is_word

  follow : (from : Start) (positions : List ℕ) → Ascends positions → ((j : ℕ) → Among j positions → Follows rules from (j ∷ [])) → ((j : ℕ) → Follows rules from (j ∷ []) → Among j positions) → AreAllThatFollow rules from positions
  follow from positions order to back = record {
    order = IsStrictlyIncreasing-from_ascends positions order;
    exact = λ j. ((λ h. to j (among_from_Contains positions j h)), (λ h. Contains-from_among positions j (back j h)));
  }

  -- Rules that are laid whole have the steps of their words.
  pub whole_steps : AreStepsOf rules (first_at first at) (λ i. (at i).next) (λ i. (at i).may_end) (empty_at may at)
  whole_steps = record {
    first_of = λ level. follow (beginning level) (first_at first at level) (first_order level) (first_exact_to level) (first_exact_from level);
    next_of = λ i. follow (after i) (at i).next (next_order i) (next_exact_to i) (next_exact_from i);
    ends = λ i. (ends_to i, ends_from i);
    empty = λ level. (empty_to level, empty_from level);
  }
