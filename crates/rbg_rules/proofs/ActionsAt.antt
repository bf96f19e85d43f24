-- What is at the positions of small rules, found by computing it.
use Rattle.rbg_base.proofs.Common.{◌≡◌, ℕ, List, [], ◌∷◌, ◌++◌, refl, sym, ap, ◌∙◌, inl, inr, ◌==◌, Bool, true, false, ◌&&◌, ◌||◌, list_any, All-cons, All-nil}
use Rattle.std.proofs.lemmas.Bool.{or_parts, eq-eqb}
use Rattle.std.proofs.Math.Bool.{not}
use Rattle.rbg_rules.specs.Meaning.{AbstractAction, switch, positive, negative, Expression, act, skip, sequence, fail, choice, star, HasAction, HasInside, IsSwitchAt, IsPatternAt, HasNoSwitch, is_modifier, is_pattern, Word, AbstractGame, AbstractState, Applies}
use Rattle.rbg_rules.proofs.PositionLemmas.{Among, Among_cases}
use Rattle.rbg_rules.proofs.PatternLemmas.{word_own, own_is_action}

abbrev mutual
  -- whether some action of the expression, also inside a pattern, passes the test
  pub has_such : (ℕ → AbstractAction → Bool) → Expression → Bool
  has_such test (act q a) = test q a || has_inside test a
  has_such test skip = false
  has_such test (sequence x y) = has_such test x || has_such test y
  has_such test fail = false
  has_such test (choice x y) = has_such test x || has_such test y
  has_such test (star x) = has_such test x

  pub has_inside : (ℕ → AbstractAction → Bool) → AbstractAction → Bool
  has_inside test (positive x) = has_such test x
  has_inside test (negative x) = has_such test x
  has_inside test _ = false

mutual
  pub none_such : (test : ℕ → AbstractAction → Bool) (x : Expression) → has_such test x ≡ false → (p : ℕ) (a : AbstractAction) → HasAction x p a → test p a ≡ false
  none_such test (act q b) none p a (inl (e, f)) = rw (e, f) (or_parts (test q b) (has_inside test b) none).0
  none_such test (act q b) none p a (inr h) = none_inside test b (or_parts (test q b) (has_inside test b) none).1 p a h
  none_such test skip none p a h = absurd h
  none_such test (sequence x y) none p a (inl h) = none_such test x (or_parts (has_such test x) (has_such test y) none).0 p a h
  none_such test (sequence x y) none p a (inr h) = none_such test y (or_parts (has_such test x) (has_such test y) none).1 p a h
  none_such test fail none p a h = absurd h
  none_such test (choice x y) none p a (inl h) = none_such test x (or_parts (has_such test x) (has_such test y) none).0 p a h
  none_such test (choice x y) none p a (inr h) = none_such test y (or_parts (has_such test x) (has_such test y) none).1 p a h
  none_such test (star x) none p a h = none_such test x none p a h

  none_inside : (test : ℕ → AbstractAction → Bool) (b : AbstractAction) → has_inside test b ≡ false → (p : ℕ) (a : AbstractAction) → HasInside b p a → test p a ≡ false
  none_inside test (positive x) none p a h = none_such test x none p a h
  none_inside test (negative x) none p a h = none_such test x none p a h
  none_inside test _ none p a h = absurd h

pub true_not_false : true ≡ false → ⊥
true_not_false e = cc

-- whether an action that passes the test is at the position
abbrev pub has_at : (AbstractAction → Bool) → Expression → ℕ → Bool
has_at test x p = has_such (λ q a. (q == p) && test a) x

pub none_at : (test : AbstractAction → Bool) (x : Expression) (p : ℕ) → has_at test x p ≡ false → (a : AbstractAction) → HasAction x p a → test a ≡ false
none_at test x p none a here = sym (ap (λ (b : Bool). b && test a) (eq-eqb p p refl)) ∙ none_such (λ q b. (q == p) && test b) x none p a here

abbrev pub is_switch : AbstractAction → Bool
is_switch (switch n) = true
is_switch _ = false

pub no_switch_at : (rules : Expression) (p : ℕ) → has_at is_switch rules p ≡ false → ¬ IsSwitchAt rules p
no_switch_at rules p none switches = true_not_false (none_at is_switch rules p none (switch switches.player) switches.stands)

pub no_switches : (rules : Expression) (w : List ℕ) → list_any (has_at is_switch rules) w ≡ false → HasNoSwitch rules w
no_switches rules [] none = All-nil (λ p. ¬ IsSwitchAt rules p)
no_switches rules (p ∷ w) none =
    let parts = or_parts (has_at is_switch rules p) (list_any (has_at is_switch rules) w) none in
    All-cons (λ q. ¬ IsSwitchAt rules q) p w (no_switch_at rules p parts.0) (no_switches rules w parts.1)

-- If no action is a pattern, there is no pattern.
pub no_pattern_at : (rules : Expression) (p : ℕ) → ((a : AbstractAction) → HasAction rules p a → is_pattern a ≡ false) → ¬ IsPatternAt rules p
no_pattern_at rules p plain pattern = elim pattern.stands [
  | inl h ↦ true_not_false (plain (positive pattern.inside_it) h)
  | inr h ↦ true_not_false (plain (negative pattern.inside_it) h)
]

-- only modifiers are at the position
abbrev pub ModifiesAt : Expression → ℕ → Type 0
ModifiesAt rules p = has_at (λ a. not (is_modifier a)) rules p ≡ false

-- An action that applies at a position with modifiers alone is a modifier, and one that applies at a position without
-- modifiers is none.
pub not_quiet : {game : AbstractGame} {p : ℕ} {s t : AbstractState} → ModifiesAt game.rules p → (applied : Applies game p s t) → ¬ (is_modifier applied.action ≡ false)
not_quiet {game} {p} modifier applied quiet = true_not_false (ap not (sym quiet) ∙ none_at (λ a. not (is_modifier a)) game.rules p modifier applied.action applied.stands)

pub not_modifier : {game : AbstractGame} {p : ℕ} {s t : AbstractState} → has_at is_modifier game.rules p ≡ false → (applied : Applies game p s t) → ¬ (is_modifier applied.action ≡ true)
not_modifier {game} {p} none applied modifies = true_not_false (sym modifies ∙ none_at is_modifier game.rules p none applied.action applied.stands)

-- What no element of a list passes, nothing among them passes; and so it is with the positions of a word.
pub of_list : (test : ℕ → Bool) (w : List ℕ) → list_any test w ≡ false → (p : ℕ) → Among p w → test p ≡ false
of_list test [] none p h = absurd h
of_list test (q ∷ w) none p (inl e) = rw e (or_parts (test q) (list_any test w) none).0
of_list test (q ∷ w) none p (inr h) = of_list test w (or_parts (test q) (list_any test w) none).1 p h

pub of_word : (test : ℕ → Bool) (x : Expression) → has_such (λ q a. test q) x ≡ false → (w : List ℕ) → Word x w → (p : ℕ) → Among p w → test p ≡ false
of_word test x none w word p h = let (a, own) = word_own x w word p h in none_such (λ q b. test q) x none p a (own_is_action x p a own)

-- .. and with a word and then a list
pub of_both : (test : ℕ → Bool) (x : Expression) (u w : List ℕ) → has_such (λ q a. test q) x ≡ false → list_any test w ≡ false → Word x u → (p : ℕ) → Among p (u ++ w) → test p ≡ false
of_both test x u w none none_beyond word p h = elim (Among_cases p u w h) [
  | inl left ↦ of_word test x none u word p left
  | inr right ↦ of_list test w none_beyond p right
]
