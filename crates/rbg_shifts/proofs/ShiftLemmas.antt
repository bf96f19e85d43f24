-- Which positions are shifts, and where they lead.
use Rattle.rbg_base.proofs.Common.{◌≡◌, ℕ, ◌+◌, ◌<◌, ◌≤◌, List, [], ◌∷◌, ◌++◌, length, get_or, zero, suc, refl, sym, ap, ◌∙◌, subst, inl, inr, arith, ◌↔◌, Option, Some, None, IfSome, IfNone, All, Contains, IsTrue, true, false, range_with_len, is_some, All-weaker, All-contains_itself}
use Rattle.std.proofs.lemmas.List.{get_or_push, get_or_append_left, length-append}
use Rattle.std.proofs.Math.ListN.{get_or-eq_default}
use Rattle.rbg_board.specs.Graph.{next}
use Rattle.rbg_rules.specs.declared.rule.Action.{Action}
use Rattle.rbg_rules.specs.declared.rule.Action.TheVariants.{Shift, On, Off, Assign, Compare, Switch, Positive, Negative}
use Rattle.rbg_rules.specs.Meaning.{AbstractAction, shift, on, off, assignment, comparison, switch, positive, negative, Expression, HasAction, positions_of, IsNumbered, Level, outermost, inside, IsLevel, WordOf, Start, beginning, after, Follows, AbstractGame, IsActionAt, arithmetic_of}
use Rattle.rbg_rules.proofs.PositionLemmas.{Among, Among_right, has_position, one_action_at}
use Rattle.rbg_rules.proofs.PatternLemmas.{own_is_action, inside_is_within, word_own}
use Rattle.rbg_auto.specs.Steps.{AreAllThatFollow}
use Rattle.rbg_shifts.proofs.Common.{IsShiftAt, AreDirections, AreDirectionsUpTo, Comes, by_shift, by_other, IsUpToLast}
use Rattle.rbg_shifts.proofs.Cases.{no_some}

-- An action of a level is in the rules.
pub level_stands : (rules : Expression) (level : Level) (x : Expression) → IsLevel rules level x → (p : ℕ) (a : AbstractAction) → HasAction x p a → HasAction rules p a
level_stands rules outermost x same p a h = subst (λ (y : Expression). HasAction y p a) same h
level_stands rules (inside q) x (inl stands) p a h = inside_is_within rules q (positive x) stands p a h
level_stands rules (inside q) x (inr stands) p a h = inside_is_within rules q (negative x) stands p a h

word_stands : (rules : Expression) (level : Level) (w : List ℕ) → WordOf rules level w → (p : ℕ) → Among p w → (a : AbstractAction) × HasAction rules p a
word_stands rules level w word p h =
    let (a, own) = word_own word.expression w word.is_word p h in
    (a, level_stands rules level word.expression word.is_level p a (own_is_action word.expression p a own))

-- What follows is in the rules.
pub follower_stands : (rules : Expression) (f : Start) (p : ℕ) → Follows rules f (p ∷ []) → (a : AbstractAction) × HasAction rules p a
follower_stands rules (beginning level) p (z, word) = word_stands rules level (p ∷ z) word p (inl refl)
follower_stands rules (after i) p (level, u, z, word) = word_stands rules level (u ++ i ∷ p ∷ z) word p (Among_right p u (i ∷ p ∷ z) (inr (inl refl)))

among_range : (first many p : ℕ) → Among p (range_with_len first many) → (first ≤ p) × (p < first + many)
among_range first zero p h = absurd h
among_range first (suc many) p (inl e) = (omega (arith, e), omega (arith, e))
among_range first (suc many) p (inr h) = let more : (first + 1 ≤ p) × (p < first + 1 + many) = among_range (first + 1) many p h in (omega (arith, more.0), omega (arith, more.1))

pub action_within : (rules : Expression) → IsNumbered rules → (p : ℕ) (a : AbstractAction) → HasAction rules p a → (0 < p) × IsUpToLast rules p
action_within rules numbered p a h =
    let many = length (positions_of rules) in
    let here : Among p (range_with_len 1 many) = subst (Among p) numbered.in_order (has_position rules p a h) in
    let range = among_range 1 many p here in
    (omega (arith, range.0), omega (arith, range.1))

pub shift_within : (rules : Expression) → IsNumbered rules → (p : ℕ) → IsShiftAt rules p → p < length (positions_of rules) + 1
shift_within rules numbered p is = let small = (action_within rules numbered p (shift is.direction) is.stands).1 in omega (arith, small)

pub follower_within : (rules : Expression) → IsNumbered rules → (f : Start) (p : ℕ) → Follows rules f (p ∷ []) → IsUpToLast rules p
follower_within rules numbered f p follows =
    let stands = follower_stands rules f p follows in
    (action_within rules numbered p stands.0 stands.1).1

pub followers_within : (rules : Expression) → IsNumbered rules → (f : Start) (ps : List ℕ) → AreAllThatFollow rules f ps → All (IsUpToLast rules) ps
followers_within rules numbered f ps follow =
    All-weaker (Contains ps) (IsUpToLast rules) (λ p h. follower_within rules numbered f p ((follow.exact p).0 h)) ps (All-contains_itself ps)

-- The action at the position of a shift is that shift.
shift_is : (rules : Expression) → IsNumbered rules → (p d : ℕ) → HasAction rules p (shift d) → (action : Action) → IsActionAt rules p action → action ≡ Shift d
shift_is rules numbered p d h (Shift e) stands = ap Shift (same (one_action_at rules numbered p (shift e) (shift d) stands h))
  where
    same : {e d : ℕ} → shift e ≡ shift d → e ≡ d
    same is = cc
shift_is rules numbered p d h (On pieces) stands = absurd (no (one_action_at rules numbered p (on pieces.items) (shift d) stands h))
  where
    no : {xs : List ℕ} {d : ℕ} → on xs ≡ shift d → ⊥
    no is = cc
shift_is rules numbered p d h (Off x) stands = absurd (no (one_action_at rules numbered p (off x) (shift d) stands h))
  where
    no : {x d : ℕ} → off x ≡ shift d → ⊥
    no is = cc
shift_is rules numbered p d h (Assign v e) stands = absurd (no (one_action_at rules numbered p (assignment v (arithmetic_of e)) (shift d) stands h))
  where
    no : assignment v (arithmetic_of e) ≡ shift d → ⊥
    no is = cc
shift_is rules numbered p d h (Compare e r f) stands = absurd (no (one_action_at rules numbered p (comparison (arithmetic_of e) r (arithmetic_of f)) (shift d) stands h))
  where
    no : comparison (arithmetic_of e) r (arithmetic_of f) ≡ shift d → ⊥
    no is = cc
shift_is rules numbered p d h (Switch n) stands = absurd (no (one_action_at rules numbered p (switch n) (shift d) stands h))
  where
    no : {n d : ℕ} → switch n ≡ shift d → ⊥
    no is = cc
shift_is rules numbered p d h Positive (x, stands) = absurd (no (one_action_at rules numbered p (positive x) (shift d) stands h))
  where
    no : {x : Expression} {d : ℕ} → positive x ≡ shift d → ⊥
    no is = cc
shift_is rules numbered p d h Negative (x, stands) = absurd (no (one_action_at rules numbered p (negative x) (shift d) stands h))
  where
    no : {x : Expression} {d : ℕ} → negative x ≡ shift d → ⊥
    no is = cc

-- No direction yet: only position 0 was looked at.
abbrev pub nothing : List (Option ℕ)
nothing = None ∷ []

none_at : (p : ℕ) → get_or nothing p None ≡ None
none_at zero = refl
none_at (suc p) = refl

pub no_directions : (rules : Expression) → IsNumbered rules → AreDirectionsUpTo rules 0 nothing
no_directions rules numbered = record { size = refl; shifts = λ p d is. absurd (no_some (sym (none_at p) ∙ is)); all = λ p d small h. absurd (let from_one = (action_within rules numbered p (shift d) h).0 in omega (arith, small, from_one)) }

-- A place in a list with one item more is in the list, or that of the item, or after it.
data Place (n : ℕ) : ℕ → Type 0 where
  before : {p : ℕ} → p < n → Place n p
  here : {p : ℕ} → p ≡ n → Place n p
  beyond : {p : ℕ} → n + 1 ≤ p → Place n p

place : (n p : ℕ) → Place n p
place zero zero = here refl
place zero (suc p) = beyond (omega arith)
place (suc n) zero = before (omega arith)
place (suc n) (suc p) = up (place n p)
  where
    up : Place n p → Place (suc n) (suc p)
    up (before e) = before (omega (arith, e))
    up (here e) = here (ap suc e)
    up (beyond e) = beyond (omega (arith, e))

-- One position more.
pub one_direction : (rules : Expression) → IsNumbered rules → (last : ℕ) (directions : List (Option ℕ)) (action : Action) (direction : Option ℕ) → AreDirectionsUpTo rules last directions → IsActionAt rules (last + 1) action → IfSome direction (λ d. action ≡ Shift d) → ((d : ℕ) → action ≡ Shift d → direction ≡ Some d) → AreDirectionsUpTo rules (last + 1) (directions ++ direction ∷ [])
one_direction rules numbered last directions action direction are stands only each = record {
  size = length-append directions (direction ∷ []) ∙ ap (λ (n : ℕ). n + 1) are.size;
  shifts = λ p d is. shifts p d (place (last + 1) p) is;
  all = λ p d small h. all p d (place (last + 1) p) small h;
}
  where
    more : List (Option ℕ)
    more = directions ++ direction ∷ []

    long : length more ≡ last + 2
    long = let one = length-append directions (direction ∷ []) in let size = are.size in omega (arith, one, size)

    new : (p : ℕ) → p ≡ last + 1 → get_or more p None ≡ direction
    new p e = get_or_push directions direction None p (are.size ∙ sym e)

    old : (p : ℕ) → p < last + 1 → get_or more p None ≡ get_or directions p None
    old p below = let size = are.size in get_or_append_left directions (direction ∷ []) None p (omega (arith, below, size))

    shift_here : (d : ℕ) (o : Option ℕ) → IfSome o (λ e. action ≡ Shift e) → o ≡ Some d → action ≡ Shift d
    shift_here d o h is = subst (λ (x : Option ℕ). IfSome x (λ e. action ≡ Shift e)) is h

    stands_at : (p d : ℕ) → p ≡ last + 1 → action ≡ Shift d → HasAction rules p (shift d)
    stands_at p d e is = subst (λ (q : ℕ). HasAction rules q (shift d)) (sym e) (subst (IsActionAt rules (last + 1)) is stands)

    shifts : (p d : ℕ) → Place (last + 1) p → get_or more p None ≡ Some d → HasAction rules p (shift d)
    shifts p d (before below) is = are.shifts p d (sym (old p below) ∙ is)
    shifts p d (here e) is = stands_at p d e (shift_here d direction only (sym (new p e) ∙ is))
    shifts p d (beyond far) is = absurd (no_some (sym (get_or-eq_default more None (omega (arith, far, long))) ∙ is))

    all : (p d : ℕ) → Place (last + 1) p → p ≤ last + 1 → HasAction rules p (shift d) → get_or more p None ≡ Some d
    all p d (before below) small h = old p below ∙ are.all p d (omega (arith, below)) h
    all p d (here e) small h = new p e ∙ each d (shift_is rules numbered (last + 1) d (subst (λ (q : ℕ). HasAction rules q (shift d)) e h) action stands)
    all p d (beyond far) small h = absurd (omega (arith, far, small))

-- Where a shift leads, and where a position without a direction leads.
pub comes_by : (game : AbstractGame) → IsNumbered game.rules → (v p d : ℕ) → HasAction game.rules p (shift d) → (to : Option ℕ) → to ≡ next game.board v d → (u : ℕ) → (to ≡ Some u) ↔ Comes game v p u
comes_by game numbered v p d stands to leads u = (λ e. by_shift d stands (sym leads ∙ e), back u)
  where
    same : {e d : ℕ} → shift e ≡ shift d → e ≡ d
    same e = cc

    back : (w : ℕ) → Comes game v p w → to ≡ Some w
    back w (by_shift e h step) = leads ∙ ap (next game.board v) (same (one_action_at game.rules numbered p (shift d) (shift e) stands h)) ∙ step
    back w (by_other plain) = absurd (plain (record { direction = d; stands = stands }))

pub plain_at : (rules : Expression) → (directions : List (Option ℕ)) → IsNumbered rules → AreDirections rules directions → (p : ℕ) → get_or directions p None ≡ None → ¬ IsShiftAt rules p
plain_at rules directions numbered are p none is = no_some (sym none ∙ are.all p is.direction (action_within rules numbered p (shift is.direction) is.stands).1 is.stands)

pub comes_nowhere : (game : AbstractGame) → IsNumbered game.rules → (directions : List (Option ℕ)) → AreDirections game.rules directions → (v p : ℕ) → get_or directions p None ≡ None → (u : ℕ) → (Some v ≡ Some u) ↔ Comes game v p u
comes_nowhere game numbered directions are v p none u = (λ e. subst (λ (x : ℕ). Comes game v p x) (inside_some e) (by_other plain), back u)
  where
    inside_some : {a b : ℕ} → Some a ≡ Some b → a ≡ b
    inside_some e = cc

    plain : ¬ IsShiftAt game.rules p
    plain = plain_at game.rules directions numbered are p none

    back : (w : ℕ) → Comes game v p w → Some v ≡ Some w
    back w (by_shift d h step) = absurd (plain (record { direction = d; stands = h }))
    back w (by_other other) = refl

-- A position has a direction exactly if it is a shift.
pub shift_by : (rules : Expression) → IsNumbered rules → (directions : List (Option ℕ)) → AreDirections rules directions → (p : ℕ) (o : Option ℕ) → get_or directions p None ≡ o → IsTrue (is_some o) ↔ IsShiftAt rules p
shift_by rules numbered directions are p (Some d) is = (λ t. record { direction = d; stands = are.shifts p d is }, λ t. refl)
shift_by rules numbered directions are p None is = (λ t. absurd (false_not_true t), λ t. absurd (plain_at rules directions numbered are p is t))
  where
    false_not_true : false ≡ true → ⊥
    false_not_true e = cc

-- What is at a position that has a direction, and that no shift is at one without.
pub some_stands : (rules : Expression) (directions : List (Option ℕ)) → AreDirections rules directions → (p : ℕ) (o : Option ℕ) → get_or directions p None ≡ o → IfSome o (λ d. HasAction rules p (shift d))
some_stands rules directions are p (Some d) is = are.shifts p d is
some_stands rules directions are p None is = record {}

pub none_stands : (rules : Expression) → IsNumbered rules → (directions : List (Option ℕ)) → AreDirections rules directions → (p : ℕ) (o : Option ℕ) → get_or directions p None ≡ o → IfNone o (¬ IsShiftAt rules p)
none_stands rules numbered directions are p (Some d) is = record {}
none_stands rules numbered directions are p None is = plain_at rules directions numbered are p is
