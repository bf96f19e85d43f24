-- Trees of rules with a table of actions: what a position means, and that more actions change nothing.
use Rattle.rbg_base.proofs.Common.{◌≡◌, ℕ, zero, suc, ◌-◌, ◌<◌, ◌≤◌, List, [], ◌∷◌, ◌++◌, length, map, fold, get_or, refl, sym, ap, ◌∙◌, subst, ◌⊎◌, inl, inr, Bool, true, false, Option, Some, None, arith, Box, Vec, slice_get, if◌then◌else◌, All, Global, slice_get-get_or, slice_get_within, All-cons, le-max_left, le-max_right, max-le}
use Rattle.rbg_rules.proofs.Common.{Action, Positive, Negative, Rule, Rule-F, roll-Rule, out-Rule, Act, outs-Act, Pattern, outs-Pattern, Then, outs-Then, Or, outs-Or, Star, outs-Star, fold_out-Rule, fold-roll-Rule, ind-Rule, map-Rule}
use Rattle.rbg_rules.specs.Expression.{Expression, act, skip, sequence, fail, choice, star, sequence_of, choice_of}
use Rattle.rbg_rules.specs.Translation.{action_of, shows_pattern, action_at, act_of, pattern_of, rule_step, expression_of}
use Rattle.rbg_rules.specs.Games.{HasNoEmptySum, HasNoEmptySumInside}
use Rattle.rbg_rules.specs.Table.{greatest, last_step, last_position, IsWithin}
use Rattle.rbg_rules.proofs.Bridge.{expression_of-Act, expression_of-Pattern}

-- One layer of a tree, as an expression.
abbrev pub layer_of : List Action → Rule-F Rule → Expression
layer_of actions x = rule_step actions (map-Rule Rule Expression (expression_of actions) x)

pub rolled : (actions : List Action) (x : Rule-F Rule) → expression_of actions (roll-Rule x) ≡ layer_of actions x
unfolding expression_of
rolled actions x = fold-roll-Rule Expression (rule_step actions) x

-- A tree with a fact of it, and the tree of each.
abbrev pub trees : {P : Rule → Type 0} → List ((r : Rule) × P r) → List Rule
trees rs = map (λ r. r.0) rs

pub action_there : (actions : List Action) (p : ℕ) (d : Action) → 0 < p → p ≤ length actions → action_at actions p ≡ Some (get_or actions (p - 1) d)
action_there actions zero d from_one there = absurd (omega arith)
action_there actions (suc k) d from_one there =
    let same : suc k - 1 ≡ k = omega arith in
    rw same (slice_get-get_or actions k d (omega arith))

-- The action at a position of the tree, if the table has one of the right kind.
pub act_is : (actions : List Action) (p : ℕ) (a : Action) → action_at actions p ≡ Some a → shows_pattern a ≡ false → expression_of actions (Act p) ≡ act p (action_of a skip)
act_is actions p a at plain = expression_of-Act actions p ∙ ap (act_of p) at ∙ ap (λ (b : Bool). if b then fail else act p (action_of a skip)) plain

pub pattern_is : (actions : List Action) (p : ℕ) (inside : Box Rule Global) (a : Action) → action_at actions p ≡ Some a → shows_pattern a ≡ true → expression_of actions (Pattern p inside) ≡ act p (action_of a (expression_of actions inside.value))
pattern_is actions p inside a at pattern =
    expression_of-Pattern actions p inside ∙ ap (λ (e : Option Action). pattern_of p e (expression_of actions inside.value)) at ∙ ap (λ (b : Bool). if b then act p (action_of a (expression_of actions inside.value)) else fail) pattern

-- A position of a tree in which no sum is empty is that of an action of the right kind.
pub record IsPlainAt (actions : List Action) (p : ℕ) (d : Action) : Type 0 where
  pub from_one : 0 < p
  pub there : p ≤ length actions
  pub kind : shows_pattern (get_or actions (p - 1) d) ≡ false
  pub act_of_it : expression_of actions (Act p) ≡ act p (action_of (get_or actions (p - 1) d) skip)

pub record IsPatternIn (actions : List Action) (p : ℕ) (inside : Box Rule Global) (d : Action) : Type 0 where
  pub from_one : 0 < p
  pub there : p ≤ length actions
  pub kind : shows_pattern (get_or actions (p - 1) d) ≡ true
  pub act_of_it : expression_of actions (Pattern p inside) ≡ act p (action_of (get_or actions (p - 1) d) (expression_of actions inside.value))
  pub inside_it : HasNoEmptySum (expression_of actions inside.value)

is_there : (actions : List Action) (p : ℕ) (a d : Action) → action_at actions p ≡ Some a → (0 < p) × (p ≤ length actions) × (a ≡ get_or actions (p - 1) d)
is_there actions zero a d at = absurd (cc at)
is_there actions (suc k) a d at =
    let below : k < length actions = slice_get_within actions k a at in
    let same : Some a ≡ Some (get_or actions (suc k - 1) d) = sym at ∙ action_there actions (suc k) d (omega arith) (omega (arith, below)) in
    (omega arith, omega (arith, below), cc same)

plain_kind : (p : ℕ) (e : Option Action) → HasNoEmptySum (act_of p e) → (a : Action) × (e ≡ Some a) × (shows_pattern a ≡ false)
plain_kind p None none = absurd none
plain_kind p (Some a) none = by_kind (shows_pattern a) refl none
  where
    by_kind : (b : Bool) → shows_pattern a ≡ b → HasNoEmptySum (if b then fail else act p (action_of a skip)) → (i : Action) × (Some a ≡ Some i) × (shows_pattern i ≡ false)
    by_kind true kind none = absurd none
    by_kind false kind none = (a, refl, kind)

pub plain_at : (actions : List Action) (p : ℕ) (d : Action) → HasNoEmptySum (expression_of actions (Act p)) → IsPlainAt actions p d
plain_at actions p d none =
    let (a, at, kind) = plain_kind p (action_at actions p) (subst HasNoEmptySum (expression_of-Act actions p) none) in
    let (from_one, there, same) = is_there actions p a d at in
    record {
      from_one = from_one;
      there = there;
      kind = sym (ap shows_pattern same) ∙ kind;
      act_of_it = act_is actions p a at kind ∙ ap (λ (i : Action). act p (action_of i skip)) same;
    }

within_pattern : (i : Action) (x : Expression) → shows_pattern i ≡ true → HasNoEmptySumInside (action_of i x) → HasNoEmptySum x
within_pattern Positive x kind none = none
within_pattern Negative x kind none = none
within_pattern _ x kind none = absurd cc

pattern_kind : (p : ℕ) (x : Expression) (e : Option Action) → HasNoEmptySum (pattern_of p e x) → (a : Action) × (e ≡ Some a) × (shows_pattern a ≡ true) × HasNoEmptySum x
pattern_kind p x None none = absurd none
pattern_kind p x (Some a) none = by_kind (shows_pattern a) refl none
  where
    by_kind : (b : Bool) → shows_pattern a ≡ b → HasNoEmptySum (if b then act p (action_of a x) else fail) → (i : Action) × (Some a ≡ Some i) × (shows_pattern i ≡ true) × HasNoEmptySum x
    by_kind true kind none = (a, refl, kind, within_pattern a x kind none)
    by_kind false kind none = absurd none

pub pattern_in : (actions : List Action) (p : ℕ) (inside : Box Rule Global) (d : Action) → HasNoEmptySum (expression_of actions (Pattern p inside)) → IsPatternIn actions p inside d
pattern_in actions p inside d none =
    let (a, at, kind, within) = pattern_kind p (expression_of actions inside.value) (action_at actions p) (subst HasNoEmptySum (expression_of-Pattern actions p inside) none) in
    let (from_one, there, same) = is_there actions p a d at in
    record {
      from_one = from_one;
      there = there;
      kind = sym (ap shows_pattern same) ∙ kind;
      act_of_it = pattern_is actions p inside a at kind ∙ ap (λ (i : Action). act p (action_of i (expression_of actions inside.value))) same;
      inside_it = within;
    }

-- No sum is empty in the parts of a sequence and of a sum either.
sequence_parts : (first : Expression) (parts : List Expression) → HasNoEmptySum (fold sequence first parts) → HasNoEmptySum first × All HasNoEmptySum parts
sequence_parts first [] none = (none, (λ k d h. absurd (omega arith)))
sequence_parts first (x ∷ parts) none =
    let (two, all) = sequence_parts (sequence first x) parts none in
    (two.0, All-cons HasNoEmptySum x parts two.1 all)

no_choice_is_fail : (x y : Expression) → ¬ (choice x y ≡ fail)
no_choice_is_fail x y e = cc

first_choice : (first x : Expression) (parts : List Expression) → HasNoEmptySum (fold choice (choice first x) parts) → ((first ≡ fail) ⊎ HasNoEmptySum first) × HasNoEmptySum x
first_choice first x [] none = none
first_choice first x (y ∷ parts) none =
    let kept = first_choice (choice first x) y parts none in
    elim kept.0 [ inl none_first ↦ absurd (no_choice_is_fail first x none_first) | inr two ↦ two ]

choice_parts : (first : Expression) (parts : List Expression) → HasNoEmptySum (fold choice first parts) → All HasNoEmptySum parts
choice_parts first [] none = λ k d h. absurd (omega arith)
choice_parts first (x ∷ parts) none =
    let kept = first_choice first x parts none in
    All-cons HasNoEmptySum x parts kept.1 (choice_parts (choice first x) parts none)

pub none_in_sequence : (parts : List Expression) → HasNoEmptySum (sequence_of parts) → All HasNoEmptySum parts
none_in_sequence parts none = (sequence_parts skip parts none).1

pub none_in_choice : (parts : List Expression) → HasNoEmptySum (choice_of parts) → All HasNoEmptySum parts
none_in_choice parts none = choice_parts fail parts none

-- The maximum position of a tree, by its parts.
last_layer : (r : Rule) (x : Rule-F Rule) → out-Rule r ≡ x → last_position r ≡ last_step (map-Rule Rule ℕ last_position x)
unfolding last_position
last_layer r x is = fold_out-Rule ℕ last_step r ∙ ap (λ (y : Rule-F Rule). last_step (map-Rule Rule ℕ last_position y)) is

rolled_last : (x : Rule-F Rule) → last_position (roll-Rule x) ≡ last_step (map-Rule Rule ℕ last_position x)
unfolding last_position
rolled_last x = fold-roll-Rule ℕ last_step x

greatest_within : (n : ℕ) (parts : List Rule) → All (IsWithin n) parts → greatest (map last_position parts) ≤ n
greatest_within n [] all = omega arith
greatest_within n (part ∷ parts) all =
    max-le (all 0 part (omega arith)).last (greatest_within n parts (λ k d h. all (suc k) d (omega arith)))

-- A tree is within some positions if its parts are.
pub within_Act : (n p : ℕ) → p ≤ n → IsWithin n (Act p)
within_Act n p within = record { last = rw (last_layer (Act p) (Rule-F.Act p) (outs-Act p)) within }

pub within_Pattern : (n p : ℕ) (inside : Box Rule Global) → p ≤ n → IsWithin n inside.value → IsWithin n (Pattern p inside)
within_Pattern n p inside within inside_within = record { last = rw (last_layer (Pattern p inside) (Rule-F.Pattern p inside) (outs-Pattern p inside)) (max-le within inside_within.last) }

pub within_Then : (n : ℕ) (parts : Vec Rule Global) → All (IsWithin n) parts.items → IsWithin n (Then parts)
within_Then n parts all = record { last = rw (last_layer (Then parts) (Rule-F.Then parts) (outs-Then parts)) (greatest_within n parts.items all) }

pub within_Or : (n : ℕ) (parts : Vec Rule Global) → All (IsWithin n) parts.items → IsWithin n (Or parts)
within_Or n parts all = record { last = rw (last_layer (Or parts) (Rule-F.Or parts) (outs-Or parts)) (greatest_within n parts.items all) }

pub within_Star : (n : ℕ) (part : Box Rule Global) → IsWithin n part.value → IsWithin n (Star part)
within_Star n part within = record { last = rw (last_layer (Star part) (Rule-F.Star part) (outs-Star part)) within.last }

pub within_more : (n m : ℕ) (r : Rule) → n ≤ m → IsWithin n r → IsWithin m r
within_more n m r more within = record { last = omega (arith, within.last) }

pub all_within_more : (n m : ℕ) (parts : List Rule) → n ≤ m → All (IsWithin n) parts → All (IsWithin m) parts
all_within_more n m parts more all = λ k d h. within_more n m (get_or parts k d) more (all k d h)

-- More actions at the end of the table change nothing of a tree that is within it.
same_entry : (actions more : List Action) (p : ℕ) → p ≤ length actions → action_at (actions ++ more) p ≡ action_at actions p
same_entry actions more zero within = refl
same_entry actions more (suc k) within = there actions k (omega arith)
  where
    there : (actions : List Action) (k : ℕ) → k < length actions → slice_get (actions ++ more) k ≡ slice_get actions k
    there [] k below = absurd (omega arith)
    there (a ∷ actions) zero below = refl
    there (a ∷ actions) (suc k) below = there actions k (omega arith)

abbrev IsSame : (actions more : List Action) → Rule → Type 0
IsSame actions more r = last_position r ≤ length actions → expression_of (actions ++ more) r ≡ expression_of actions r

same_parts : (actions more : List Action) (rs : List ((r : Rule) × IsSame actions more r)) → greatest (map last_position (trees rs)) ≤ length actions → map (expression_of (actions ++ more)) (trees rs) ≡ map (expression_of actions) (trees rs)
same_parts actions more [] within = refl
same_parts actions more (r ∷ rs) within =
    let first : last_position r.0 ≤ length actions = omega (arith, le-max_left (last_position r.0) (greatest (map last_position (trees rs)))) in
    let rest : greatest (map last_position (trees rs)) ≤ length actions = omega (arith, le-max_right (last_position r.0) (greatest (map last_position (trees rs)))) in
    cc (r.1 first, same_parts actions more rs rest)

same_layer : (actions more : List Action) (y : Rule-F ((r : Rule) × IsSame actions more r)) → last_step (map-Rule Rule ℕ last_position (map-Rule ((r : Rule) × IsSame actions more r) Rule (λ r. r.0) y)) ≤ length actions → layer_of (actions ++ more) (map-Rule ((r : Rule) × IsSame actions more r) Rule (λ r. r.0) y) ≡ layer_of actions (map-Rule ((r : Rule) × IsSame actions more r) Rule (λ r. r.0) y)
same_layer actions more (Rule-F.Act p) within = ap (act_of p) (same_entry actions more p within)
same_layer actions more (Rule-F.Pattern p inside) within =
    let here : p ≤ length actions = omega (arith, le-max_left p (last_position inside.value.0)) in
    let below : last_position inside.value.0 ≤ length actions = omega (arith, le-max_right p (last_position inside.value.0)) in
    cc (same_entry actions more p here, inside.value.1 below)
same_layer actions more (Rule-F.Then parts) within = ap sequence_of (same_parts actions more parts.items within)
same_layer actions more (Rule-F.Or parts) within = ap choice_of (same_parts actions more parts.items within)
same_layer actions more (Rule-F.Star part) within = ap star (part.value.1 within)

same_tree : (actions more : List Action) (r : Rule) → IsSame actions more r
same_tree actions more = ind-Rule (IsSame actions more) (λ x y is within.
    let here : last_step (map-Rule Rule ℕ last_position x) ≤ length actions = subst (λ (n : ℕ). n ≤ length actions) (rolled_last x) within in
    let there = same_layer actions more y (subst (λ (z : Rule-F Rule). last_step (map-Rule Rule ℕ last_position z) ≤ length actions) (sym is) here) in
    let same : layer_of (actions ++ more) x ≡ layer_of actions x = subst (λ (z : Rule-F Rule). layer_of (actions ++ more) z ≡ layer_of actions z) is there in
    rolled (actions ++ more) x ∙ same ∙ sym (rolled actions x))

pub same_with_more : (actions more : List Action) (r : Rule) → IsWithin (length actions) r → expression_of (actions ++ more) r ≡ expression_of actions r
same_with_more actions more r within = same_tree actions more r within.last

pub all_same_with_more : (actions more : List Action) (parts : List Rule) → All (IsWithin (length actions)) parts → map (expression_of (actions ++ more)) parts ≡ map (expression_of actions) parts
all_same_with_more actions more [] all = refl
all_same_with_more actions more (part ∷ parts) all =
    cc (same_with_more actions more part (all 0 part (omega arith)), all_same_with_more actions more parts (λ k d h. all (suc k) d (omega arith)))
