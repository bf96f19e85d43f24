-- What parts of the rules add to the table of actions, put together.
use Rattle.rbg_base.proofs.Common.{◌≡◌, ℕ, zero, suc, ◌+◌, ◌-◌, ◌<◌, ◌≤◌, List, [], ◌∷◌, ◌++◌, Vec, true, length, map, take, fold, get_or, refl, sym, ap, ◌∙◌, subst, append_assoc, append-nil, arith, Some, Box, slice_get, Global, range_with_len, All-nil, All-push}
use Rattle.std.proofs.lemmas.List.{length-append, map-append}
use Rattle.rbg_grammar.specs.Tree.{SpeltRule, SpeltRules, no_rules, more_rules, rules_after, SpeltAction}
use Rattle.rbg_rules.specs.Meaning.{Expression, act, skip, sequence, fail, choice, star, most_positions, positions_of, IsWithin, expression_of, action_of, action_at, shows_pattern}
use Rattle.rbg_rules.specs.declared.rule.Action.{Action}
use Rattle.rbg_rules.specs.declared.rule.Action.TheVariants.{Positive, Negative}
use Rattle.rbg_rules.specs.declared.rule.Rule.{Rule}
use Rattle.rbg_rules.specs.declared.rule.Rule.TheVariants.{Pattern, Then, Or, Star}
use Rattle.rbg_rules.proofs.Bridge.{expression_of-Then, expression_of-Or, expression_of-Star}
use Rattle.rbg_rules.proofs.TreeLemmas.{pattern_is, within_Pattern, within_Then, within_Or, within_Star, all_within_more, all_same_with_more}
use Rattle.rbg_game.proofs.NumberingCommon.{Names, RuleIs, PartsAre, actions_in, actions_in_all, actions_of, IsSpeltPattern, positive_pattern, negative_pattern, OpensPattern, IsLawful, actions_in_list, Numbers, AddsRule, AreNumbered, AddsParts}
use Rattle.rbg_base.proofs.CallerLemmas.{slice_get-append_left}
use Rattle.rbg_game.proofs.Lists.{slice_get-last}

-- Numbers in a row.

range_joined : (a m n : ℕ) → range_with_len a m ++ range_with_len (a + m) n ≡ range_with_len a (m + n)
range_joined a zero n =
    let e : a + 0 ≡ a = omega arith in
    let f : 0 + n ≡ n = omega arith in
    ap (λ k. range_with_len k n) e ∙ ap (range_with_len a) (sym f)
range_joined a (suc m) n =
    let e : a + suc m ≡ (a + 1) + m = omega arith in
    let f : suc m + n ≡ suc (m + n) = omega arith in
    ap (λ k. a ∷ (range_with_len (a + 1) m ++ range_with_len k n)) e ∙ ap (λ l. a ∷ l) (range_joined (a + 1) m n) ∙ ap (range_with_len a) (sym f)

positions_joined : (before m n : ℕ) (xs ys : List ℕ) → xs ≡ range_with_len (before + 1) m → ys ≡ range_with_len (before + m + 1) n → xs ++ ys ≡ range_with_len (before + 1) (m + n)
positions_joined before m n xs ys first second =
    let e : before + m + 1 ≡ (before + 1) + m = omega arith in
    ap (λ l. l ++ ys) first ∙ ap (λ l. range_with_len (before + 1) m ++ l) (second ∙ ap (λ k. range_with_len k n) e) ∙ range_joined (before + 1) m n

-- How many actions there are.

pub count_after : (first : SpeltRules) (rs : List SpeltRule) → actions_in_all (rules_after first rs) ≡ actions_in_all first + actions_in_list rs
count_after first [] = omega arith
count_after first (r ∷ rs) =
    let later = count_after (more_rules first r) rs in
    omega arith

count_more : (rs : List SpeltRule) (r : SpeltRule) → actions_in_list (rs ++ r ∷ []) ≡ actions_in_list rs + actions_in r
count_more [] r = omega arith
count_more (s ∷ rs) r = let later = count_more rs r in omega arith

pub count_within : (rs : List SpeltRule) (k : ℕ) (d : SpeltRule) → k < length rs → actions_in_list (take k rs) + actions_in (get_or rs k d) ≤ actions_in_list rs
count_within [] k d below = absurd (omega arith)
count_within (r ∷ rs) zero d below = omega arith
count_within (r ∷ rs) (suc k) d below = let later = count_within rs k d (omega arith) in omega arith

-- Parts one after the other.

numbered_more : (names : Names) (left : ℕ) (rs : List SpeltRule) (r : SpeltRule) (before : ℕ) (xs : List Expression) (x : Expression) → AreNumbered names left rs before xs → Numbers (RuleIs names r) left (before + actions_in_list rs) (actions_in r) x → AreNumbered names left (rs ++ r ∷ []) before (xs ++ x ∷ [])
numbered_more names left [] r before [] x all here =
    let e : before + 0 ≡ before = omega arith in
    (subst (λ n. Numbers (RuleIs names r) left n (actions_in r) x) e here, tt)
numbered_more names left [] r before (y ∷ xs) x all here = absurd all
numbered_more names left (s ∷ rs) r before [] x all here = absurd all
numbered_more names left (s ∷ rs) r before (y ∷ xs) x all here =
    let e : before + (actions_in s + actions_in_list rs) ≡ before + actions_in s + actions_in_list rs = omega arith in
    (all.0, numbered_more names left rs r (before + actions_in s) xs x all.1 (subst (λ n. Numbers (RuleIs names r) left n (actions_in r) x) e here))

-- nothing added yet
pub no_parts : (names : Names) (left : ℕ) (old : List Action) → length old ≤ most_positions → AddsParts names left [] old old []
no_parts names left old few =
    record {
      made = [];
      added = sym (append-nil old);
      count = omega arith;
      few = few;
      within = All-nil (IsWithin (length old));
      numbers = tt;
    }

-- one part more
pub parts_more : (names : Names) (left : ℕ) (rs : List SpeltRule) (r : SpeltRule) (old mid new : List Action) (xs : List Rule) (x : Rule) → AddsParts names left rs old mid xs → AddsRule names left r mid new x → AddsParts names left (rs ++ r ∷ []) old new (xs ++ x ∷ [])
parts_more names left rs r old mid new xs x h k =
    let total = count_more rs r in
    let same : map (expression_of new) xs ≡ map (expression_of mid) xs =
    subst (λ l. map (expression_of l) xs ≡ map (expression_of mid) xs) (sym k.added) (all_same_with_more mid k.made xs h.within) in
    let before : Numbers (RuleIs names r) left (length old + actions_in_list rs) (actions_in r) (expression_of new x) =
    subst (λ n. Numbers (RuleIs names r) left n (actions_in r) (expression_of new x)) h.count k.numbers in
    record {
      made = h.made ++ k.made;
      added = k.added ∙ ap (λ l. l ++ k.made) h.added ∙ append_assoc old h.made k.made;
      count = omega (arith, h.count, k.count);
      few = k.few;
      within = All-push (IsWithin (length new)) xs x (all_within_more (length mid) (length new) xs (omega (arith, k.count)) h.within) k.within;
      numbers =
          subst (λ l. AreNumbered names left (rs ++ r ∷ []) (length old) l) (sym (map-append (expression_of new) xs (x ∷ []) ∙ ap (λ l. l ++ expression_of new x ∷ []) same))
          (numbered_more names left rs r (length old) (map (expression_of mid) xs) (expression_of new x) h.numbers before);
    }

-- Sequences and sums of parts.
module _ (names : Names) (left : ℕ) (make : Expression → Expression → Expression) (Is : SpeltRules → Expression → Type 0)
    (more : (first : SpeltRules) (r : SpeltRule) (y z : Expression) → Is first y → RuleIs names r z → Is (more_rules first r) (make y z))
    (positions : (y z : Expression) → positions_of (make y z) ≡ positions_of y ++ positions_of z)
    (lawful : (y z : Expression) → IsLawful left y → IsLawful left z → IsLawful left (make y z)) where
  put_together : (first : SpeltRules) (rs : List SpeltRule) (before so_far : ℕ) (y : Expression) (xs : List Expression) → Numbers (Is first) left before so_far y → AreNumbered names left rs (before + so_far) xs → Numbers (Is (rules_after first rs)) left before (so_far + actions_in_list rs) (fold make y xs)
  put_together first [] before so_far y [] h all =
      let e : so_far + 0 ≡ so_far = omega arith in
      subst (λ n. Numbers (Is first) left before n y) (sym e) h
  put_together first [] before so_far y (x ∷ xs) h all = absurd all
  put_together first (r ∷ rs) before so_far y [] h all = absurd all
  put_together first (r ∷ rs) before so_far y (x ∷ xs) h all =
      let both : Numbers (Is (more_rules first r)) left before (so_far + actions_in r) (make y x) = record {
        means = more first r y x h.means all.0.means;
        positions = positions y x ∙ positions_joined before so_far (actions_in r) (positions_of y) (positions_of x) h.positions all.0.positions;
        lawful = lawful y x h.lawful all.0.lawful;
      } in
      let e : before + so_far + actions_in r ≡ before + (so_far + actions_in r) = omega arith in
      let f : so_far + actions_in r + actions_in_list rs ≡ so_far + (actions_in r + actions_in_list rs) = omega arith in
      subst (λ n. Numbers (Is (rules_after (more_rules first r) rs)) left before n (fold make (make y x) xs)) f
      (put_together (more_rules first r) rs before (so_far + actions_in r) (make y x) xs both (subst (λ n. AreNumbered names left rs n xs) e all.1))

  joined : (rs : List SpeltRule) (before : ℕ) (y : Expression) (xs : List Expression) → Numbers (Is no_rules) left before 0 y → AreNumbered names left rs before xs → Numbers (Is (rules_after no_rules rs)) left before (actions_in_all (rules_after no_rules rs)) (fold make y xs)
  joined rs before y xs none all =
      let e : before ≡ before + 0 = omega arith in
      let count = count_after no_rules rs in
      let f : 0 + actions_in_list rs ≡ actions_in_all (rules_after no_rules rs) = omega arith in
      subst (λ n. Numbers (Is (rules_after no_rules rs)) left before n (fold make y xs)) f (put_together no_rules rs before 0 y xs none (subst (λ n. AreNumbered names left rs n xs) e all))

  -- the parts, if the tree of the whole is made from `none`, the value of no parts
  parts_added : (none : Expression) → ((before : ℕ) → Numbers (Is no_rules) left before 0 none) → (rs : List SpeltRule) (old new : List Action) (xs : List Rule) → AddsParts names left rs old new xs → (r : SpeltRule) (x : Rule)
      → actions_in r ≡ actions_in_all (rules_after no_rules rs) → IsWithin (length new) x → expression_of new x ≡ fold make none (map (expression_of new) xs) → ((e : Expression) → Is (rules_after no_rules rs) e → RuleIs names r e) → AddsRule names left r old new x
  parts_added none begun rs old new xs h r x size within tree means =
      let total = count_after no_rules rs in
      let numbers = joined rs (length old) none (map (expression_of new) xs) (begun (length old)) h.numbers in
      record {
        made = h.made;
        added = h.added;
        count = omega (arith, h.count, size);
        few = h.few;
        within = within;
        numbers = record {
          means = subst (RuleIs names r) (sym tree) (means (fold make none (map (expression_of new) xs)) numbers.means);
          positions = ap positions_of tree ∙ numbers.positions ∙ ap (range_with_len (length old + 1)) (sym size);
          lawful = subst (IsLawful left) (sym tree) numbers.lawful;
        };
      }

pub sequence_added : (names : Names) (left : ℕ) (rs : List SpeltRule) (old new : List Action) (xs : Vec Rule Global) → AddsParts names left rs old new xs.items → AddsRule names left (SpeltRule.sequence (rules_after no_rules rs)) old new (Then xs)
sequence_added names left rs old new xs h =
    parts_added names left sequence (PartsAre names sequence skip) (λ first r y z is_first is_rule. (y, z, is_first, is_rule, refl)) (λ y z. refl) (λ y z one two. (one, two)) skip (λ before. record { means = refl; positions = refl; lawful = tt })
    rs old new xs.items h (SpeltRule.sequence (rules_after no_rules rs)) (Then xs) refl (within_Then (length new) xs h.within) (expression_of-Then new xs) (λ e is. is)

pub choice_added : (names : Names) (left : ℕ) (rs : List SpeltRule) (old new : List Action) (xs : Vec Rule Global) → AddsParts names left rs old new xs.items → AddsRule names left (SpeltRule.choice (rules_after no_rules rs)) old new (Or xs)
choice_added names left rs old new xs h =
    parts_added names left choice (PartsAre names choice fail) (λ first r y z is_first is_rule. (y, z, is_first, is_rule, refl)) (λ y z. refl) (λ y z one two. (one, two)) fail (λ before. record { means = refl; positions = refl; lawful = tt })
    rs old new xs.items h (SpeltRule.choice (rules_after no_rules rs)) (Or xs) refl (within_Or (length new) xs h.within) (expression_of-Or new xs) (λ e is. is)

pub star_added : (names : Names) (left : ℕ) (r : SpeltRule) (old new : List Action) (x : Rule) (box : Box Rule Global) → box.value ≡ x → AddsRule names left r old new x → AddsRule names left (SpeltRule.star r) old new (Star box)
star_added names left r old new x box holds h =
    let is : expression_of new (Star box) ≡ star (expression_of new x) = expression_of-Star new box ∙ ap (λ y. star (expression_of new y)) holds in
    record {
      made = h.made;
      added = h.added;
      count = h.count;
      few = h.few;
      within = within_Star (length new) box (subst (IsWithin (length new)) (sym holds) h.within);
      numbers = subst (λ y. Numbers (RuleIs names (SpeltRule.star r)) left (length old) (actions_in r) y) (sym is) (record { means = (expression_of new x, h.numbers.means, refl); positions = h.numbers.positions; lawful = h.numbers.lawful });
    }

-- Patterns.

-- The action of the code is the pattern that is spelt.
pub data Opens : SpeltAction → ℕ → SpeltRule → Action → Type 0 where
  opens_positive : {at : ℕ} {r : SpeltRule}
      → Opens (SpeltAction.positive at r) at r Positive
  opens_negative : {at : ℕ} {r : SpeltRule}
      → Opens (SpeltAction.negative at r) at r Negative

pattern_numbered : (names : Names) (left below before : ℕ) (s : SpeltAction) (at : ℕ) (inside : SpeltRule) (pattern : Action) (x : Expression) → Opens s at inside pattern → left ≡ suc below → Numbers (RuleIs names inside) below (before + 1) (actions_in inside) x
    → Numbers (RuleIs names (SpeltRule.act s)) left before (actions_of s) (act (before + 1) (action_of pattern x))
pattern_numbered names left below before _ at inside _ x opens_positive few h =
    record { means = (before + 1, action_of Positive x, (x, h.means, refl), refl); positions = ap (λ l. (before + 1) ∷ l) h.positions; lawful = (below, few, h.lawful) }
pattern_numbered names left below before _ at inside _ x opens_negative few h =
    record { means = (before + 1, action_of Negative x, (x, h.means, refl), refl); positions = ap (λ l. (before + 1) ∷ l) h.positions; lawful = (below, few, h.lawful) }

pattern_counts : (s : SpeltAction) (at : ℕ) (inside : SpeltRule) (pattern : Action) → Opens s at inside pattern → actions_of s ≡ suc (actions_in inside)
pattern_counts _ at inside _ opens_positive = refl
pattern_counts _ at inside _ opens_negative = refl

pattern_shows : (s : SpeltAction) (at : ℕ) (inside : SpeltRule) (pattern : Action) → Opens s at inside pattern → shows_pattern pattern ≡ true
pattern_shows _ at inside _ opens_positive = refl
pattern_shows _ at inside _ opens_negative = refl

pub spelt_pattern_of : (s : SpeltAction) (at : ℕ) (inside : SpeltRule) (pattern : Action) → Opens s at inside pattern → IsSpeltPattern s at inside
spelt_pattern_of _ at inside _ opens_positive = positive_pattern
spelt_pattern_of _ at inside _ opens_negative = negative_pattern

pub pattern_added : (names : Names) (left : ℕ) (s : SpeltAction) (at : ℕ) (inside : SpeltRule) (pattern : Action) (old mid new : List Action) (p : ℕ) (x : Rule) (box : Box Rule Global) → Opens s at inside pattern → OpensPattern left pattern old mid p → AddsRule names (left - 1) inside mid new x → box.value ≡ x → AddsRule names left (SpeltRule.act s) old new (Pattern p box)
pattern_added names left s at inside pattern old mid new p x box opens h k holds =
    let long : length mid ≡ length old + 1 = omega (arith, ap length h.added, length-append old (pattern ∷ [])) in
    let place : p ≡ length old + 1 = h.position ∙ long in
    let few : left ≡ suc (left - 1) = omega (arith, h.some_left) in
    let counts = pattern_counts s at inside pattern opens in
    let in_mid : slice_get mid (length old) ≡ Some pattern = subst (λ l. slice_get l (length old) ≡ Some pattern) (sym h.added) (slice_get-last old pattern) in
    let in_new : slice_get new (length old) ≡ Some pattern = subst (λ l. slice_get l (length old) ≡ Some pattern) (sym k.added) (slice_get-append_left mid k.made (length old) pattern in_mid) in
    let next : length old + 1 ≡ suc (length old) = omega arith in
    let there : action_at new p ≡ Some pattern = subst (λ n. action_at new n ≡ Some pattern) (sym (place ∙ next)) in_new in
    let is : expression_of new (Pattern p box) ≡ act (length old + 1) (action_of pattern (expression_of new x)) =
    pattern_is new p box pattern there (pattern_shows s at inside pattern opens) ∙ ap (λ y. act p (action_of pattern (expression_of new y))) holds ∙ ap (λ n. act n (action_of pattern (expression_of new x))) place in
    let within : Numbers (RuleIs names inside) (left - 1) (length old + 1) (actions_in inside) (expression_of new x) = subst (λ n. Numbers (RuleIs names inside) (left - 1) n (actions_in inside) (expression_of new x)) long k.numbers in
    record {
      made = pattern ∷ k.made;
      added = k.added ∙ ap (λ l. l ++ k.made) h.added ∙ append_assoc old (pattern ∷ []) k.made;
      count = omega (arith, k.count);
      few = k.few;
      within = within_Pattern (length new) p box (omega (arith, k.count)) (subst (IsWithin (length new)) (sym holds) k.within);
      numbers = subst (λ y. Numbers (RuleIs names (SpeltRule.act s)) left (length old) (actions_of s) y) (sym is) (pattern_numbered names left (left - 1) (length old) s at inside pattern (expression_of new x) opens few within);
    }
