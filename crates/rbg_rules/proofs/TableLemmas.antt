-- The table has the action at each position of the rules.
use Rattle.rbg_base.proofs.Common.{◌≡◌, ℕ, zero, suc, ◌+◌, ◌-◌, ◌<◌, ◌≤◌, List, [], ◌∷◌, length, map, fold, get_or, refl, sym, ap, ◌∙◌, subst, inl, inr, Bool, true, false, Option, Some, None, arith, IsTrue, ◌↔◌, if◌then◌else◌, leb_tells, range_with_len}
use Rattle.rbg_rules.proofs.Common.{Action, Shift, On, Off, Assign, Compare, Switch, Positive, Negative, Rule, Rule-F, ind-Rule, map-Rule}
use Rattle.rbg_rules.specs.Expression.{AbstractAction, shift, on, off, assignment, comparison, switch, positive, negative, Expression, act, skip, sequence, fail, choice, star}
use Rattle.rbg_rules.specs.Positions.{HasAction, HasInside, positions_of, positions_inside, IsNumbered, is_pattern, IsPatternAt}
use Rattle.rbg_rules.specs.Translation.{arithmetic_of, action_of, shows_pattern, action_at, act_of, pattern_of, expression_of}
use Rattle.rbg_rules.specs.Table.{IsActionAt}
use Rattle.rbg_rules.proofs.TreeLemmas.{layer_of, rolled, trees, action_there}
use Rattle.rbg_rules.proofs.PositionLemmas.{Among, Among_cases, one_action_at}

-- The table has the action at a position, for a pattern with some inside.
pub record IsEntry (actions : List Action) (p : ℕ) (a : AbstractAction) : Type 0 where
  pub action : Action
  pub at : action_at actions p ≡ Some action
  pub inside : Expression
  pub shows : a ≡ action_of action inside

-- Each action of the tree is in the table.
abbrev IsFound : List Action → Rule → Type 0
IsFound actions r = (p : ℕ) (a : AbstractAction) → HasAction (expression_of actions r) p a → IsEntry actions p a

-- What is inside an action is in its inside.
stands_within : (i : Action) (x : Expression) (p : ℕ) (a : AbstractAction) → HasInside (action_of i x) p a → HasAction x p a
stands_within (Shift d) x p a h = absurd h
stands_within (On pieces) x p a h = absurd h
stands_within (Off piece) x p a h = absurd h
stands_within (Assign v e) x p a h = absurd h
stands_within (Compare e r f) x p a h = absurd h
stands_within (Switch n) x p a h = absurd h
stands_within Positive x p a h = h
stands_within Negative x p a h = h

entry_here : (actions : List Action) (q : ℕ) (i : Action) (x : Expression) → action_at actions q ≡ Some i → ((p : ℕ) (a : AbstractAction) → HasAction x p a → IsEntry actions p a) → (p : ℕ) (a : AbstractAction) → HasAction (act q (action_of i x)) p a → IsEntry actions p a
entry_here actions q i x at inside_found p a (inl (here, shows)) = record { action = i; at = ap (action_at actions) here ∙ at; inside = x; shows = shows }
entry_here actions q i x at inside_found p a (inr h) = inside_found p a (stands_within i x p a h)

entry_of_act : (actions : List Action) (q : ℕ) (e : Option Action) → action_at actions q ≡ e → (p : ℕ) (a : AbstractAction) → HasAction (act_of q e) p a → IsEntry actions p a
entry_of_act actions q None at p a h = absurd h
entry_of_act actions q (Some i) at p a h = by_kind (shows_pattern i) h
  where
    by_kind : (b : Bool) → HasAction (if b then fail else act q (action_of i skip)) p a → IsEntry actions p a
    by_kind true h = absurd h
    by_kind false h = entry_here actions q i skip at (λ p a h. absurd h) p a h

entry_of_pattern : (actions : List Action) (q : ℕ) (x : Expression) → ((p : ℕ) (a : AbstractAction) → HasAction x p a → IsEntry actions p a) → (e : Option Action) → action_at actions q ≡ e → (p : ℕ) (a : AbstractAction) → HasAction (pattern_of q e x) p a → IsEntry actions p a
entry_of_pattern actions q x inside_found None at p a h = absurd h
entry_of_pattern actions q x inside_found (Some i) at p a h = by_kind (shows_pattern i) h
  where
    by_kind : (b : Bool) → HasAction (if b then act q (action_of i x) else fail) p a → IsEntry actions p a
    by_kind true h = entry_here actions q i x at inside_found p a h
    by_kind false h = absurd h

found_in_sequence : (actions : List Action) (p : ℕ) (a : AbstractAction) (first : Expression) → (HasAction first p a → IsEntry actions p a) → (rs : List ((r : Rule) × IsFound actions r)) → HasAction (fold sequence first (map (expression_of actions) (trees rs))) p a → IsEntry actions p a
found_in_sequence actions p a first found [] h = found h
found_in_sequence actions p a first found (r ∷ rs) h =
    found_in_sequence actions p a (sequence first (expression_of actions r.0)) (λ k. elim k [ inl l ↦ found l | inr l ↦ r.1 p a l ]) rs h

found_in_choice : (actions : List Action) (p : ℕ) (a : AbstractAction) (first : Expression) → (HasAction first p a → IsEntry actions p a) → (rs : List ((r : Rule) × IsFound actions r)) → HasAction (fold choice first (map (expression_of actions) (trees rs))) p a → IsEntry actions p a
found_in_choice actions p a first found [] h = found h
found_in_choice actions p a first found (r ∷ rs) h =
    found_in_choice actions p a (choice first (expression_of actions r.0)) (λ k. elim k [ inl l ↦ found l | inr l ↦ r.1 p a l ]) rs h

found_in_layer : (actions : List Action) (y : Rule-F ((r : Rule) × IsFound actions r)) (p : ℕ) (a : AbstractAction) → HasAction (layer_of actions (map-Rule ((r : Rule) × IsFound actions r) Rule (λ r. r.0) y)) p a → IsEntry actions p a
found_in_layer actions (Rule-F.Act q) p a h = entry_of_act actions q (action_at actions q) refl p a h
found_in_layer actions (Rule-F.Pattern q inside) p a h = entry_of_pattern actions q (expression_of actions inside.value.0) inside.value.1 (action_at actions q) refl p a h
found_in_layer actions (Rule-F.Then parts) p a h = found_in_sequence actions p a skip (λ k. absurd k) parts.items h
found_in_layer actions (Rule-F.Or parts) p a h = found_in_choice actions p a fail (λ k. absurd k) parts.items h
found_in_layer actions (Rule-F.Star part) p a h = part.value.1 p a h

pub found : (actions : List Action) (r : Rule) (p : ℕ) (a : AbstractAction) → HasAction (expression_of actions r) p a → IsEntry actions p a
found actions = ind-Rule (IsFound actions) (λ x y is p a h.
    let here : HasAction (layer_of actions x) p a = subst (λ (e : Expression). HasAction e p a) (rolled actions x) h in
    found_in_layer actions y p a (subst (λ (z : Rule-F Rule). HasAction (layer_of actions z) p a) (sym is) here))

-- An action is at each position of an expression.
mutual
  some_action : (x : Expression) (p : ℕ) → Among p (positions_of x) → (a : AbstractAction) × HasAction x p a
  some_action (act q b) p (inl e) = (b, inl (e, refl))
  some_action (act q b) p (inr h) = let (a, k) = some_inside b p h in (a, inr k)
  some_action skip p h = absurd h
  some_action (sequence x y) p h = elim (Among_cases p (positions_of x) (positions_of y) h) [
    | inl l ↦ let (a, k) = some_action x p l in (a, inl k)
    | inr l ↦ let (a, k) = some_action y p l in (a, inr k)
  ]
  some_action fail p h = absurd h
  some_action (choice x y) p h = elim (Among_cases p (positions_of x) (positions_of y) h) [
    | inl l ↦ let (a, k) = some_action x p l in (a, inl k)
    | inr l ↦ let (a, k) = some_action y p l in (a, inr k)
  ]
  some_action (star x) p h = some_action x p h

  some_inside : (b : AbstractAction) (p : ℕ) → Among p (positions_inside b) → (a : AbstractAction) × HasInside b p a
  some_inside (positive x) p h = some_action x p h
  some_inside (negative x) p h = some_action x p h
  some_inside (shift d) p h = absurd h
  some_inside (on xs) p h = absurd h
  some_inside (off x) p h = absurd h
  some_inside (assignment v e) p h = absurd h
  some_inside (comparison e r f) p h = absurd h
  some_inside (switch n) p h = absurd h

Among_range : (first many p : ℕ) → first ≤ p → p < first + many → Among p (range_with_len first many)
Among_range first zero p low high = absurd (omega arith)
Among_range first (suc many) p low high = elim (leb_tells p first) [
  | inl (_, e) ↦ inl (omega arith)
  | inr (_, later) ↦ inr (Among_range (first + 1) many p (omega arith) (omega arith))
]

pub numbered_action : (x : Expression) → IsNumbered x → (p : ℕ) → 0 < p → p ≤ length (positions_of x) → (a : AbstractAction) × HasAction x p a
numbered_action x numbered p from_one there =
    some_action x p (subst (Among p) (sym numbered.in_order) (Among_range 1 (length (positions_of x)) p (omega arith) (omega arith)))

stands_shown : (rules : Expression) (p : ℕ) (a : AbstractAction) (i : Action) (x : Expression) → HasAction rules p a → a ≡ action_of i x → IsActionAt rules p i
stands_shown rules p a (Shift d) x here shows = subst (HasAction rules p) shows here
stands_shown rules p a (On pieces) x here shows = subst (HasAction rules p) shows here
stands_shown rules p a (Off piece) x here shows = subst (HasAction rules p) shows here
stands_shown rules p a (Assign v e) x here shows = subst (HasAction rules p) shows here
stands_shown rules p a (Compare e r f) x here shows = subst (HasAction rules p) shows here
stands_shown rules p a (Switch n) x here shows = subst (HasAction rules p) shows here
stands_shown rules p a Positive x here shows = (x, subst (HasAction rules p) shows here)
stands_shown rules p a Negative x here shows = (x, subst (HasAction rules p) shows here)

-- What is shown of the rules inside a game is so of those that are seen of it.
pub of_seen : (P : Expression → Type 0) {inside seen : Expression} {p : ℕ} → inside ≡ seen → p ≤ length (positions_of seen) → (p ≤ length (positions_of inside) → P inside) → P seen
of_seen P {inside} {seen} {p} same there shows = subst P same (shows (subst (λ (x : Expression). p ≤ length (positions_of x)) (sym same) there))

-- The table has the action at a position.
pub stands_at : (actions : List Action) (r : Rule) → IsNumbered (expression_of actions r) → length actions ≡ length (positions_of (expression_of actions r)) → (p : ℕ) (d : Action) → 0 < p → p ≤ length (positions_of (expression_of actions r)) → IsActionAt (expression_of actions r) p (get_or actions (p - 1) d)
stands_at actions r numbered size p d from_one there =
    let (a, here) = numbered_action (expression_of actions r) numbered p from_one there in
    let entry : IsEntry actions p a = found actions r p a here in
    let same : Some entry.action ≡ Some (get_or actions (p - 1) d) = sym entry.at ∙ action_there actions p d from_one (omega (arith, size)) in
    let action : entry.action ≡ get_or actions (p - 1) d = cc in
    subst (IsActionAt (expression_of actions r) p) action (stands_shown (expression_of actions r) p a entry.action entry.inside here entry.shows)

-- The action of a position is a pattern exactly if a pattern is at that position.
pub plain_stands : (rules : Expression) → IsNumbered rules → (p : ℕ) (a : AbstractAction) → is_pattern a ≡ false → HasAction rules p a → ¬ IsPatternAt rules p
plain_stands rules numbered p a plain here pattern = elim pattern.stands [
  | inl h ↦ let same : a ≡ positive pattern.inside_it = one_action_at rules numbered p a (positive pattern.inside_it) here h in not_both (sym plain ∙ ap is_pattern same)
  | inr h ↦ let same : a ≡ negative pattern.inside_it = one_action_at rules numbered p a (negative pattern.inside_it) here h in not_both (sym plain ∙ ap is_pattern same)
]
  where
    not_both : false ≡ true → ⊥
    not_both e = cc

pub pattern_stands : (rules : Expression) → IsNumbered rules → (p : ℕ) (i : Action) → IsActionAt rules p i → IsTrue (shows_pattern i) ↔ IsPatternAt rules p
pattern_stands rules numbered p (Shift d) here = ((λ e. absurd cc), (λ h. absurd (plain_stands rules numbered p (shift d) refl here h)))
pattern_stands rules numbered p (On pieces) here = ((λ e. absurd cc), (λ h. absurd (plain_stands rules numbered p (on pieces.items) refl here h)))
pattern_stands rules numbered p (Off x) here = ((λ e. absurd cc), (λ h. absurd (plain_stands rules numbered p (off x) refl here h)))
pattern_stands rules numbered p (Assign v e) here = ((λ e. absurd cc), (λ h. absurd (plain_stands rules numbered p (assignment v (arithmetic_of e)) refl here h)))
pattern_stands rules numbered p (Compare e r f) here = ((λ e. absurd cc), (λ h. absurd (plain_stands rules numbered p (comparison (arithmetic_of e) r (arithmetic_of f)) refl here h)))
pattern_stands rules numbered p (Switch n) here = ((λ e. absurd cc), (λ h. absurd (plain_stands rules numbered p (switch n) refl here h)))
pattern_stands rules numbered p Positive (x, here) = ((λ _. record { inside_it = x; stands = inl here }), (λ _. refl))
pattern_stands rules numbered p Negative (x, here) = ((λ _. record { inside_it = x; stands = inr here }), (λ _. refl))

-- The same of an entry of the table.
pub pattern_at : (actions : List Action) (r : Rule) → IsNumbered (expression_of actions r) → length actions ≡ length (positions_of (expression_of actions r)) → (p : ℕ) (d : Action) → 0 < p → p ≤ length (positions_of (expression_of actions r)) → IsTrue (shows_pattern (get_or actions (p - 1) d)) ↔ IsPatternAt (expression_of actions r) p
pattern_at actions r numbered size p d from_one there =
    pattern_stands (expression_of actions r) numbered p (get_or actions (p - 1) d) (stands_at actions r numbered size p d from_one there)
