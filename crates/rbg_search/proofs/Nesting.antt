-- How deep patterns nest where a search goes on.
use Rattle.std.proofs.Common.{◌≡◌, ℕ, suc, ◌-◌, ◌≤◌, List, [], ◌∷◌, ◌++◌, refl, sym, ◌∙◌, subst, inl, inr, arith, append_assoc}
use Rattle.rbg_rules.specs.Meaning.{AbstractAction, shift, on, off, assignment, comparison, switch, positive, negative, Expression, act, skip, sequence, fail, choice, star, HasAction, HasInside, HasOwnAction, IsNumbered, Level, outermost, inside, IsLevel, Start, beginning, after, Follows, NestsWithin, InsideNestsWithin}
use Rattle.rbg_rules.proofs.PositionLemmas.{Among, Among_right, one_action_at}
use Rattle.rbg_rules.proofs.PatternLemmas.{own_is_action, word_own}
use Rattle.rbg_rules.proofs.LevelLemmas.{one_level_law}
use Rattle.rbg_search.specs.Nesting.{StandsIn, NestsFrom}
use Rattle.rbg_shifts.proofs.ShiftLemmas.{level_stands}

below_more : (n m k : ℕ) → n ≤ m → n ≡ suc k → (m ≡ suc (m - 1)) × (k ≤ m - 1)
below_more n m k under is = (omega (arith, under, is), omega (arith, under, is))

mutual
  nests_more : (n m : ℕ) → n ≤ m → (x : Expression) → NestsWithin n x → NestsWithin m x
  nests_more n m under (act p a) h = inside_more n m under a h
  nests_more n m under skip h = tt
  nests_more n m under (sequence x y) (h, k) = (nests_more n m under x h, nests_more n m under y k)
  nests_more n m under fail h = tt
  nests_more n m under (choice x y) (h, k) = (nests_more n m under x h, nests_more n m under y k)
  nests_more n m under (star x) h = nests_more n m under x h

  inside_more : (n m : ℕ) → n ≤ m → (a : AbstractAction) → InsideNestsWithin n a → InsideNestsWithin m a
  inside_more n m under (positive x) (k, is, h) = let less = below_more n m k under is in (m - 1, less.0, nests_more k (m - 1) less.1 x h)
  inside_more n m under (negative x) (k, is, h) = let less = below_more n m k under is in (m - 1, less.0, nests_more k (m - 1) less.1 x h)
  inside_more n m under (shift d) h = tt
  inside_more n m under (on xs) h = tt
  inside_more n m under (off x) h = tt
  inside_more n m under (assignment v e) h = tt
  inside_more n m under (comparison e r f) h = tt
  inside_more n m under (switch p) h = tt

at_most : (n k : ℕ) → n ≡ suc k → k ≤ n
at_most n k is = omega (arith, is)

-- What stands anywhere in an expression nests as deep at most as the expression.
mutual
  stands_nests : (n : ℕ) (x : Expression) → NestsWithin n x → (p : ℕ) (b : AbstractAction) → HasAction x p b → InsideNestsWithin n b
  stands_nests n (act q a) h p b (inl (here, same)) = subst (InsideNestsWithin n) (sym same) h
  stands_nests n (act q a) h p b (inr deep) = inside_stands_nests n a h p b deep
  stands_nests n skip h p b stands = absurd stands
  stands_nests n (sequence x y) (h, k) p b (inl stands) = stands_nests n x h p b stands
  stands_nests n (sequence x y) (h, k) p b (inr stands) = stands_nests n y k p b stands
  stands_nests n fail h p b stands = absurd stands
  stands_nests n (choice x y) (h, k) p b (inl stands) = stands_nests n x h p b stands
  stands_nests n (choice x y) (h, k) p b (inr stands) = stands_nests n y k p b stands
  stands_nests n (star x) h p b stands = stands_nests n x h p b stands

  inside_stands_nests : (n : ℕ) (a : AbstractAction) → InsideNestsWithin n a → (p : ℕ) (b : AbstractAction) → HasInside a p b → InsideNestsWithin n b
  inside_stands_nests n (positive x) (k, is, h) p b stands = inside_more k n (at_most n k is) b (stands_nests k x h p b stands)
  inside_stands_nests n (negative x) (k, is, h) p b stands = inside_more k n (at_most n k is) b (stands_nests k x h p b stands)
  inside_stands_nests n (shift d) h p b stands = absurd stands
  inside_stands_nests n (on xs) h p b stands = absurd stands
  inside_stands_nests n (off x) h p b stands = absurd stands
  inside_stands_nests n (assignment v e) h p b stands = absurd stands
  inside_stands_nests n (comparison e r f) h p b stands = absurd stands
  inside_stands_nests n (switch q) h p b stands = absurd stands

-- An own pattern of an expression nests one less deep.
own_nests : (n : ℕ) (x : Expression) → NestsWithin n x → (p : ℕ) (b : AbstractAction) → HasOwnAction x p b → InsideNestsWithin n b
own_nests n x h p b own = stands_nests n x h p b (own_is_action x p b own)

inside_level : (n : ℕ) (rules : Expression) → NestsWithin n rules → (p : ℕ) (x : Expression) → IsLevel rules (inside p) x → NestsWithin n x
inside_level n rules h p x (inl stands) = let (k, is, nests) = stands_nests n rules h p (positive x) stands in nests_more k n (at_most n k is) x nests
inside_level n rules h p x (inr stands) = let (k, is, nests) = stands_nests n rules h p (negative x) stands in nests_more k n (at_most n k is) x nests

-- Wherever one stands in the rules, patterns nest no deeper than in the rules.
pub nests_anywhere : (n : ℕ) (rules : Expression) → NestsWithin n rules → (f : Start) → NestsFrom rules n f
nests_anywhere n rules h f = record { within = within }
  where
    within : (level : Level) (x : Expression) → IsLevel rules level x → StandsIn f level x → NestsWithin n x
    within outermost x is stands = subst (NestsWithin n) (sym is) h
    within (inside p) x is stands = inside_level n rules h p x is

-- The level in which a word goes on from where one stands to a position.
pub record GoesOn (rules : Expression) (f : Start) (p : ℕ) : Type 0 where
  pub level : Level
  pub expression : Expression
  pub is_level : IsLevel rules level expression
  pub stands : StandsIn f level expression
  pub action : AbstractAction
  pub own : HasOwnAction expression p action

among_last : (m : List ℕ) (p : ℕ) (z : List ℕ) → Among p ((m ++ p ∷ []) ++ z)
among_last m p z = subst (Among p) (sym (append_assoc m (p ∷ []) z)) (Among_right p m (p ∷ z) (inl refl))

pub goes_on : (rules : Expression) (f : Start) (m : List ℕ) (p : ℕ) → Follows rules f (m ++ p ∷ []) → GoesOn rules f p
goes_on rules (beginning level) m p (z, word) =
    let (a, own) = word_own word.expression ((m ++ p ∷ []) ++ z) word.is_word p (among_last m p z) in
    record { level = level; expression = word.expression; is_level = word.is_level; stands = refl; action = a; own = own }
goes_on rules (after i) m p (level, u, z, word) =
    let (a, own) = word_own word.expression (u ++ i ∷ ((m ++ p ∷ []) ++ z)) word.is_word p (Among_right p u (i ∷ ((m ++ p ∷ []) ++ z)) (inr (among_last m p z))) in
    let here = word_own word.expression (u ++ i ∷ ((m ++ p ∷ []) ++ z)) word.is_word i (Among_right i u (i ∷ ((m ++ p ∷ []) ++ z)) (inl refl)) in
    record { level = level; expression = word.expression; is_level = word.is_level; stands = here; action = a; own = own }

-- After a position that comes next patterns nest no deeper.
pub nests_onward : (rules : Expression) → IsNumbered rules → (n : ℕ) (f : Start) → NestsFrom rules n f → (m : List ℕ) (p : ℕ) → Follows rules f (m ++ p ∷ []) → NestsFrom rules n (after p)
nests_onward rules numbered n f nests m p follows = record { within = within }
  where
    on : GoesOn rules f p
    on = goes_on rules f m p follows

    within : (level : Level) (x : Expression) → IsLevel rules level x → StandsIn (after p) level x → NestsWithin n x
    within level x is (a, own) =
        let same = one_level_law rules numbered on.level level on.expression x on.is_level is p on.action a on.own own in
        subst (NestsWithin n) same.1 (nests.within on.level on.expression on.is_level on.stands)

suc_same : (i j : ℕ) → suc i ≡ suc j → i ≡ j
suc_same i j e = omega (arith, e)

-- In a pattern that comes next patterns nest one less deep.
pub nests_inside : (rules : Expression) → IsNumbered rules → (n : ℕ) (f : Start) → NestsFrom rules n f → (m : List ℕ) (p : ℕ) → Follows rules f (m ++ p ∷ []) → (x : Expression) → IsLevel rules (inside p) x → (k : ℕ) × (n ≡ suc k) × NestsFrom rules k (beginning (inside p))
nests_inside rules numbered n f nests m p follows x is = by_sign is
  where
    on : GoesOn rules f p
    on = goes_on rules f m p follows

    here : InsideNestsWithin n on.action
    here = own_nests n on.expression (nests.within on.level on.expression on.is_level on.stands) p on.action on.own

    stands : HasAction rules p on.action
    stands = level_stands rules on.level on.expression on.is_level p on.action (own_is_action on.expression p on.action on.own)

    from : (b : AbstractAction) → HasAction rules p b → InsideNestsWithin n b
    from b has = subst (InsideNestsWithin n) (one_action_at rules numbered p on.action b stands has) here

    for_each : (k : ℕ) → n ≡ suc k → (level : Level) (y : Expression) → IsLevel rules level y → StandsIn (beginning (inside p)) level y → NestsWithin k y
    for_each k is level y is_level e = by_level (subst (λ (l : Level). IsLevel rules l y) e is_level)
      where
        by_level : IsLevel rules (inside p) y → NestsWithin k y
        by_level (inl has) = let (j, is', h) = from (positive y) has in subst (λ (i : ℕ). NestsWithin i y) (suc_same j k (sym is' ∙ is)) h
        by_level (inr has) = let (j, is', h) = from (negative y) has in subst (λ (i : ℕ). NestsWithin i y) (suc_same j k (sym is' ∙ is)) h

    by_sign : IsLevel rules (inside p) x → (k : ℕ) × (n ≡ suc k) × NestsFrom rules k (beginning (inside p))
    by_sign (inl has) = let (k, is', h) = from (positive x) has in (k, is', record { within = for_each k is' })
    by_sign (inr has) = let (k, is', h) = from (negative x) has in (k, is', record { within = for_each k is' })
