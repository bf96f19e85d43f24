-- The rules of a description are at most one expression: if names differ their numbers are determined, and so are
-- positions that are counted in order of text.
use Rattle.rbg_base.proofs.Common.{◌≡◌, ℕ, zero, suc, ◌+◌, List, [], ◌∷◌, ◌++◌, inl, inr, Some, None, length, refl, sym, ap, ◌∙◌, subst, range_with_len, same_Some}
use Rattle.rbg_grammar.specs.Tree.{SpeltExpression, SpeltOperands, no_operands, more_operands, SpeltRule, SpeltRules, no_rules, more_rules, SpeltAction}
use Rattle.rbg_rules.specs.Meaning.{AbstractArithmetic, number, variable, piece_count, negated, AbstractAction, shift, on, off, assignment, comparison, switch, positive, negative, Expression, act, skip, sequence, fail, choice, star, positions_of, positions_inside, IsNumbered, operated}
use Rattle.rbg_game.proofs.NumberingCommon.{Names, IsNumberOf, HasDifferentNames, ArithmeticIs, ChainIs, ActionIs, RuleIs, PartsAre}
use Rattle.rbg_base.proofs.CallerLemmas.{Contains-from_get}
use Rattle.rbg_game.proofs.Lists.{AllZip-once}

mutual
  arithmetic_once : (names : Names) → HasDifferentNames names → (e : SpeltExpression) (a b : AbstractArithmetic) → ArithmeticIs names e a → ArithmeticIs names e b → a ≡ b
  arithmetic_once names differ (SpeltExpression.number n) a b (v, v_is, _, e) (w, w_is, _, f) = e ∙ ap number (same_Some v w (sym v_is ∙ w_is)) ∙ sym f
  arithmetic_once names differ (SpeltExpression.name n) a b (inl (v, v_is, e)) (inl (w, w_is, f)) = e ∙ ap variable (differ.variables.one_number v w n.text v_is w_is) ∙ sym f
  arithmetic_once names differ (SpeltExpression.name n) a b (inl (v, v_is, e)) (inr (no_variable, _)) = absurd (no_variable (Contains-from_get names.variables v n.text v_is))
  arithmetic_once names differ (SpeltExpression.name n) a b (inr (no_variable, _)) (inl (w, w_is, f)) = absurd (no_variable (Contains-from_get names.variables w n.text w_is))
  arithmetic_once names differ (SpeltExpression.name n) a b (inr (_, (p, p_is, e))) (inr (_, (q, q_is, f))) = e ∙ ap piece_count (differ.pieces.one_number p q n.text p_is q_is) ∙ sym f
  arithmetic_once names differ (SpeltExpression.negated spelt) a b (x, x_is, e) (y, y_is, f) = e ∙ ap negated (arithmetic_once names differ spelt x y x_is y_is) ∙ sym f
  arithmetic_once names differ (SpeltExpression.chain operands) a b left right = chain_once names differ operands a b left right

  chain_once : (names : Names) → HasDifferentNames names → (operands : SpeltOperands) (a b : AbstractArithmetic) → ChainIs names operands a → ChainIs names operands b → a ≡ b
  chain_once names differ no_operands a b left right = absurd left
  chain_once names differ (more_operands _ _ spelt) a b (inl (_, left)) (inl (_, right)) = arithmetic_once names differ spelt a b left right
  chain_once names differ (more_operands _ _ _) a b (inl (none, _)) (inr (y, _, some, _, _)) = absurd (subst (λ os. ChainIs names os y) none some)
  chain_once names differ (more_operands _ _ _) a b (inr (x, _, some, _, _)) (inl (none, _)) = absurd (subst (λ os. ChainIs names os x) none some)
  chain_once names differ (more_operands operands operator spelt) a b (inr (x, z, x_is, z_is, e)) (inr (y, w, y_is, w_is, f)) =
      e ∙ ap (λ l. operated operator l z) (chain_once names differ operands x y x_is y_is) ∙ ap (operated operator y) (arithmetic_once names differ spelt z w z_is w_is) ∙ sym f

-- the list is n, n + 1, ..
abbrev CountsFrom : ℕ → List ℕ → Type 0
CountsFrom n [] = Unit {0}
CountsFrom n (p ∷ ps) = (p ≡ n) × CountsFrom (n + 1) ps

-- the number that comes after such a list
abbrev next_after : ℕ → List ℕ → ℕ
next_after n [] = n
next_after n (p ∷ ps) = next_after (n + 1) ps

count_counts : (n many : ℕ) → CountsFrom n (range_with_len n many)
count_counts n zero = tt
count_counts n (suc many) = (refl, count_counts (n + 1) many)

counts_left : (n : ℕ) (xs ys : List ℕ) → CountsFrom n (xs ++ ys) → CountsFrom n xs
counts_left n [] ys all = tt
counts_left n (x ∷ xs) ys all = (all.0, counts_left (n + 1) xs ys all.1)

counts_right : (n : ℕ) (xs ys : List ℕ) → CountsFrom n (xs ++ ys) → CountsFrom (next_after n xs) ys
counts_right n [] ys all = all
counts_right n (x ∷ xs) ys all = counts_right (n + 1) xs ys all.1

-- The positions of the expression, or inside the action, count from n.
abbrev IsCounted : ℕ → Expression → Type 0
IsCounted n x = CountsFrom n (positions_of x)

abbrev IsCountedInside : ℕ → AbstractAction → Type 0
IsCountedInside n b = CountsFrom n (positions_inside b)

-- An expression and a further one with the positions after it, put together.
pair_once : (make : Expression → Expression → Expression) (n : ℕ) (x x' y y' z z' : Expression) → x ≡ make y z → x' ≡ make y' z'
    → CountsFrom n (positions_of y ++ positions_of z) → CountsFrom n (positions_of y' ++ positions_of z')
    → (IsCounted n y → IsCounted n y' → y ≡ y') → ((m : ℕ) → IsCounted m z → IsCounted m z' → z ≡ z') → x ≡ x'
pair_once make n x x' y y' z z' e f counted counted' first second =
    let same : y ≡ y' = first (counts_left n (positions_of y) (positions_of z) counted) (counts_left n (positions_of y') (positions_of z') counted') in
    let after : CountsFrom (next_after n (positions_of y')) (positions_of z') = counts_right n (positions_of y') (positions_of z') counted' in
    let same_beyond : z ≡ z' = second (next_after n (positions_of y)) (counts_right n (positions_of y) (positions_of z) counted) (subst (λ v. CountsFrom (next_after n (positions_of v)) (positions_of z')) (sym same) after) in
    e ∙ ap (λ v. make v z) same ∙ ap (make y') same_beyond ∙ sym f

mutual
  action_once : (names : Names) → HasDifferentNames names → (a : SpeltAction) (n : ℕ) (b c : AbstractAction) → ActionIs names a b → ActionIs names a c → IsCountedInside n b → IsCountedInside n c → b ≡ c
  action_once names differ (SpeltAction.shift name) n b c (d, d_is, e) (d', d'_is, f) _ _ = e ∙ ap shift (differ.directions.one_number d d' name.text d_is d'_is) ∙ sym f
  action_once names differ (SpeltAction.on spelt) n b c (xs, xs_are, e) (ys, ys_are, f) _ _ =
      e ∙ ap on (AllZip-once (IsNumberOf names.pieces) (IsNumberOf names.pieces) (λ name x y x_is y_is. differ.pieces.one_number x y name.text x_is y_is) spelt xs ys xs_are ys_are) ∙ sym f
  action_once names differ (SpeltAction.off name) n b c (x, x_is, e) (y, y_is, f) _ _ = e ∙ ap off (differ.pieces.one_number x y name.text x_is y_is) ∙ sym f
  action_once names differ (SpeltAction.assign name spelt) n b c (v, x, v_is, x_is, e) (w, y, w_is, y_is, f) _ _ =
      e ∙ ap (λ u. assignment u x) (differ.variables.one_number v w name.text v_is w_is) ∙ ap (assignment w) (arithmetic_once names differ spelt x y x_is y_is) ∙ sym f
  action_once names differ (SpeltAction.compare left relation right) n b c (x, y, x_is, y_is, e) (x', y', x'_is, y'_is, f) _ _ =
      e ∙ ap (λ u. comparison u relation y) (arithmetic_once names differ left x x' x_is x'_is) ∙ ap (comparison x' relation) (arithmetic_once names differ right y y' y_is y'_is) ∙ sym f
  action_once names differ (SpeltAction.switch at None) n b c e f _ _ = e ∙ sym f
  action_once names differ (SpeltAction.switch at (Some name)) n b c (k, k_is, e) (l, l_is, f) _ _ = e ∙ ap (λ m. switch (m + 1)) (differ.players.one_number k l name.text k_is l_is) ∙ sym f
  action_once names differ (SpeltAction.positive at r) n b c (x, x_is, e) (y, y_is, f) counted counted' =
      e ∙ ap positive (rule_once names differ r n x y x_is y_is (subst (IsCountedInside n) e counted) (subst (IsCountedInside n) f counted')) ∙ sym f
  action_once names differ (SpeltAction.negative at r) n b c (x, x_is, e) (y, y_is, f) counted counted' =
      e ∙ ap negative (rule_once names differ r n x y x_is y_is (subst (IsCountedInside n) e counted) (subst (IsCountedInside n) f counted')) ∙ sym f

  rule_once : (names : Names) → HasDifferentNames names → (r : SpeltRule) (n : ℕ) (x y : Expression) → RuleIs names r x → RuleIs names r y → IsCounted n x → IsCounted n y → x ≡ y
  rule_once names differ (SpeltRule.act a) n x y (p, b, b_is, e) (q, c, c_is, f) counted counted' =
      let at_x = subst (IsCounted n) e counted in
      let at_y = subst (IsCounted n) f counted' in
      e ∙ ap (λ z. act z b) (at_x.0 ∙ sym at_y.0) ∙ ap (act q) (action_once names differ a (n + 1) b c b_is c_is at_x.1 at_y.1) ∙ sym f
  rule_once names differ (SpeltRule.sequence parts) n x y x_is y_is counted counted' = parts_once names differ sequence skip (λ m v w is. is) parts n x y x_is y_is counted counted'
  rule_once names differ (SpeltRule.choice parts) n x y x_is y_is counted counted' = parts_once names differ choice fail (λ m v w is. is) parts n x y x_is y_is counted counted'
  rule_once names differ (SpeltRule.star r) n x y (z, z_is, e) (w, w_is, f) counted counted' =
      e ∙ ap star (rule_once names differ r n z w z_is w_is (subst (IsCounted n) e counted) (subst (IsCounted n) f counted')) ∙ sym f

  parts_once : (names : Names) → HasDifferentNames names → (joined : Expression → Expression → Expression) (none : Expression)
      → ((n : ℕ) (y z : Expression) → IsCounted n (joined y z) → CountsFrom n (positions_of y ++ positions_of z))
      → (parts : SpeltRules) (n : ℕ) (x y : Expression) → PartsAre names joined none parts x → PartsAre names joined none parts y → IsCounted n x → IsCounted n y → x ≡ y
  parts_once names differ joined none both no_rules n x y e f counted counted' = e ∙ sym f
  parts_once names differ joined none both (more_rules parts r) n x y (v, w, v_is, w_is, e) (v', w', v'_is, w'_is, f) counted counted' =
      pair_once joined n x y v v' w w' e f (both n v w (subst (IsCounted n) e counted)) (both n v' w' (subst (IsCounted n) f counted'))
      (parts_once names differ joined none both parts n v v' v_is v'_is) (λ m. rule_once names differ r m w w' w_is w'_is)

numbered_counts : (x : Expression) → IsNumbered x → IsCounted 1 x
numbered_counts x numbered = subst (CountsFrom 1) (sym numbered.in_order) (count_counts 1 (length (positions_of x)))

-- A rule is at most one numbered expression.
pub numbered_rule_once : (names : Names) → HasDifferentNames names → (r : SpeltRule) (x y : Expression) → RuleIs names r x → RuleIs names r y → IsNumbered x → IsNumbered y → x ≡ y
numbered_rule_once names differ r x y x_is y_is numbered numbered' = rule_once names differ r 1 x y x_is y_is (numbered_counts x numbered) (numbered_counts y numbered')
