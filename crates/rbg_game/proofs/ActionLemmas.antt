-- Actions by numbers, and what is wrong with one.
use Rattle.rbg_base.proofs.Common.{◌≡◌, ℕ, suc, ◌+◌, ◌<◌, List, [], ◌∷◌, ◌++◌, Option, Some, None, Vec, option_map, true, false, length, map, refl, sym, ap, ◌∙◌, subst, arith, slice_get, Global, AllZip, range_with_len, and_parts}
use Rattle.std.proofs.lemmas.List.{length-append}
use Rattle.rbg_base.specs.declared.relation.Relation.{Relation}
use Rattle.rbg_grammar.proofs.Common.{is_formed_action, is_formed_expression, SpeltName, SpeltRule, SpeltAction}
use Rattle.rbg_grammar.specs.Views.{name_of, expression_of as spelt_expression_of, action_of as spelt_action_of}
use Rattle.rbg_grammar.specs.declared.expression.Expression.{Expression as SyntaxExpression}
use Rattle.rbg_grammar.specs.declared.names.Name.{Name}
use Rattle.rbg_grammar.specs.declared.rule.ParsedAction.{ParsedAction}
use Rattle.rbg_grammar.specs.declared.rule.ParsedAction as actions
use Rattle.rbg_grammar.proofs.Trees.{action_of-Shift, action_of-On, action_of-Off, action_of-Assign, action_of-Compare, action_of-Switch}
use Rattle.rbg_rules.specs.Meaning.{switch, skip, act, most_positions, most_nested_patterns, positions_of, positions_inside, action_of, action_at, shows_pattern, arithmetic_of, expression_of}
use Rattle.rbg_rules.specs.declared.arithmetic.Arithmetic.{Arithmetic}
use Rattle.rbg_rules.specs.declared.rule.Action.{Action}
use Rattle.rbg_rules.specs.declared.rule.Action.TheVariants.{Shift, On, Off, Assign, Compare, Switch, Positive, Negative}
use Rattle.rbg_rules.specs.declared.rule.Rule.TheVariants.{Act}
use Rattle.rbg_rules.proofs.TreeLemmas.{act_is, within_Act}
use Rattle.rbg_game.proofs.NumberingCommon.{GameError, SwitchInPattern, Names, IsNumberOf, ArithmeticIs, ActionIs, shifts, stands_on, puts, assigns, gives_turn, HasArithmeticFault, assigned, left_side, right_side, this, actions_of, IsLawful, AddsRule, HasFaultFrom, from_use, from_arithmetic, from_switch, from_memory}
use Rattle.rbg_game.specs.NameTables.{HasLookUpFault, not_there, no_memory as look_up_memory}
use Rattle.rbg_game.specs.internal.Actions.{is_spelt_pattern, IsPlayer, player_names, HasActionFault, of_use, of_expression, of_switch, no_memory, IsActionHere}
use Rattle.rbg_game.proofs.Lists.{slice_get-last}

-- What a spelt action of each kind is.
is_shift : (a : ParsedAction) (n : Name) → a ≡ actions.Shift n → spelt_action_of a ≡ SpeltAction.shift (name_of n)
is_shift a n is = ap spelt_action_of is ∙ action_of-Shift n

is_on : (a : ParsedAction) (v : Vec Name Global) (ns : List Name) → a ≡ actions.On v → ns ≡ v.items → spelt_action_of a ≡ SpeltAction.on (map name_of ns)
is_on a v ns is same = ap spelt_action_of is ∙ action_of-On v ∙ ap (λ (l : List Name). SpeltAction.on (map name_of l)) (sym same)

is_off : (a : ParsedAction) (n : Name) → a ≡ actions.Off n → spelt_action_of a ≡ SpeltAction.off (name_of n)
is_off a n is = ap spelt_action_of is ∙ action_of-Off n

is_assign : (a : ParsedAction) (n : Name) (e : SyntaxExpression) → a ≡ actions.Assign n e → spelt_action_of a ≡ SpeltAction.assign (name_of n) (spelt_expression_of e)
is_assign a n e is = ap spelt_action_of is ∙ action_of-Assign n e

is_compare : (a : ParsedAction) (e : SyntaxExpression) (r : Relation) (f : SyntaxExpression) → a ≡ actions.Compare e r f → spelt_action_of a ≡ SpeltAction.compare (spelt_expression_of e) r (spelt_expression_of f)
is_compare a e r f is = ap spelt_action_of is ∙ action_of-Compare e r f

is_switch : (a : ParsedAction) (at : ℕ) (player : Option Name) → a ≡ actions.Switch at player → spelt_action_of a ≡ SpeltAction.switch at (option_map name_of player)
is_switch a at player is = ap spelt_action_of is ∙ action_of-Switch at player

-- A name that isn't found, or an expression with a fault, is the action's fault.
module _ (names : Names) (left : ℕ) (a : ParsedAction) (error : GameError) where
  pub shift_fault : (n : Name) → a ≡ actions.Shift n → HasLookUpFault names.directions (name_of n ∷ []) error → HasActionFault names left (spelt_action_of a) error
  shift_fault n is h = subst (λ s. HasActionFault names left s error) (sym (is_shift a n is)) (of_use shifts h)

  pub off_fault : (n : Name) → a ≡ actions.Off n → HasLookUpFault names.pieces (name_of n ∷ []) error → HasActionFault names left (spelt_action_of a) error
  off_fault n is h = subst (λ s. HasActionFault names left s error) (sym (is_off a n is)) (of_use puts h)

  pub on_fault : (v : Vec Name Global) (ns : List Name) → a ≡ actions.On v → ns ≡ v.items → HasLookUpFault names.pieces (map name_of ns) error → HasActionFault names left (spelt_action_of a) error
  on_fault v ns is same h = subst (λ s. HasActionFault names left s error) (sym (is_on a v ns is same)) (of_use stands_on h)

  pub variable_fault : (n : Name) (e : SyntaxExpression) → a ≡ actions.Assign n e → HasLookUpFault names.variables (name_of n ∷ []) error → HasActionFault names left (spelt_action_of a) error
  variable_fault n e is h = subst (λ s. HasActionFault names left s error) (sym (is_assign a n e is)) (of_use assigns h)

  pub value_fault : (n : Name) (e : SyntaxExpression) → a ≡ actions.Assign n e → HasArithmeticFault names (spelt_expression_of e) error → HasActionFault names left (spelt_action_of a) error
  value_fault n e is h = subst (λ s. HasActionFault names left s error) (sym (is_assign a n e is)) (of_expression assigned h)

  pub left_fault : (e : SyntaxExpression) (r : Relation) (f : SyntaxExpression) → a ≡ actions.Compare e r f → HasArithmeticFault names (spelt_expression_of e) error → HasActionFault names left (spelt_action_of a) error
  left_fault e r f is h = subst (λ s. HasActionFault names left s error) (sym (is_compare a e r f is)) (of_expression left_side h)

  pub right_fault : (e : SyntaxExpression) (r : Relation) (f : SyntaxExpression) → a ≡ actions.Compare e r f → HasArithmeticFault names (spelt_expression_of f) error → HasActionFault names left (spelt_action_of a) error
  right_fault e r f is h = subst (λ s. HasActionFault names left s error) (sym (is_compare a e r f is)) (of_expression right_side h)

player_fault : (names : Names) (left at : ℕ) (player : Option SpeltName) (e : GameError) → HasLookUpFault names.players (player_names player) e → HasActionFault names left (SpeltAction.switch at player) e
player_fault names left at None _ (not_there h) = absurd (let within = h.stands.1 in omega arith)
player_fault names left at None _ look_up_memory = no_memory
player_fault names left at (Some n) e h = of_use gives_turn h

pub switch_fault : (names : Names) (left : ℕ) (a : ParsedAction) (e : GameError) (at : ℕ) (player : Option Name) → a ≡ actions.Switch at player → HasLookUpFault names.players (player_names (option_map name_of player)) e → HasActionFault names left (spelt_action_of a) e
switch_fault names left a e at player is h = subst (λ (s : SpeltAction). HasActionFault names left s e) (sym (is_switch a at player is)) (player_fault names left at (option_map name_of player) e h)

pub switch_inside : (names : Names) (left : ℕ) (a : ParsedAction) (at : ℕ) (player : Option Name) → a ≡ actions.Switch at player → left < most_nested_patterns → HasActionFault names left (spelt_action_of a) (SwitchInPattern at)
switch_inside names left a at player is few = subst (λ (s : SpeltAction). HasActionFault names left s (SwitchInPattern at)) (sym (is_switch a at player is)) (of_switch few)

-- Well-formed actions have well-formed expressions.
pub value_formed : (a : ParsedAction) (n : Name) (e : SyntaxExpression) → a ≡ actions.Assign n e → is_formed_action (spelt_action_of a) ≡ true → is_formed_expression (spelt_expression_of e) ≡ true
value_formed a n e is formed = sym (ap is_formed_action (is_assign a n e is)) ∙ formed

pub sides_formed : (a : ParsedAction) (e : SyntaxExpression) (r : Relation) (f : SyntaxExpression) → a ≡ actions.Compare e r f → is_formed_action (spelt_action_of a) ≡ true → (is_formed_expression (spelt_expression_of e) ≡ true) × (is_formed_expression (spelt_expression_of f) ≡ true)
sides_formed a e r f is formed = and_parts (is_formed_expression (spelt_expression_of e)) (is_formed_expression (spelt_expression_of f)) (sym (ap is_formed_action (is_compare a e r f is)) ∙ formed)

-- The actions by numbers.
module _ (names : Names) (left : ℕ) (a : ParsedAction) where
  pub shift_made : (n : Name) (d : ℕ) → a ≡ actions.Shift n → IsNumberOf names.directions (name_of n) d → IsActionHere names left (spelt_action_of a) (Shift d)
  shift_made n d is number = subst (λ (s : SpeltAction). IsActionHere names left s (Shift d)) (sym (is_shift a n is)) (record { is_action = (d, number, refl); no_pattern = refl; lawful = tt })

  pub off_made : (n : Name) (x : ℕ) → a ≡ actions.Off n → IsNumberOf names.pieces (name_of n) x → IsActionHere names left (spelt_action_of a) (Off x)
  off_made n x is number = subst (λ (s : SpeltAction). IsActionHere names left s (Off x)) (sym (is_off a n is)) (record { is_action = (x, number, refl); no_pattern = refl; lawful = tt })

  pub on_made : (v : Vec Name Global) (ns : List Name) (xs : Vec ℕ Global) → a ≡ actions.On v → ns ≡ v.items → AllZip (IsNumberOf names.pieces) (map name_of ns) xs.items → IsActionHere names left (spelt_action_of a) (On xs)
  on_made v ns xs is same each = subst (λ (s : SpeltAction). IsActionHere names left s (On xs)) (sym (is_on a v ns is same)) (record { is_action = (xs.items, each, refl); no_pattern = refl; lawful = tt })

  pub assign_made : (n : Name) (e : SyntaxExpression) (v : ℕ) (value : Arithmetic) → a ≡ actions.Assign n e → IsNumberOf names.variables (name_of n) v → ArithmeticIs names (spelt_expression_of e) (arithmetic_of value) → IsActionHere names left (spelt_action_of a) (Assign v value)
  assign_made n e v value is number is_value =
      subst (λ (s : SpeltAction). IsActionHere names left s (Assign v value)) (sym (is_assign a n e is)) (record { is_action = (v, arithmetic_of value, number, is_value, refl); no_pattern = refl; lawful = tt })

  pub compare_made : (e : SyntaxExpression) (r : Relation) (f : SyntaxExpression) (x y : Arithmetic) → a ≡ actions.Compare e r f → ArithmeticIs names (spelt_expression_of e) (arithmetic_of x) → ArithmeticIs names (spelt_expression_of f) (arithmetic_of y) → IsActionHere names left (spelt_action_of a) (Compare x r y)
  compare_made e r f x y is is_left is_right =
      subst (λ (s : SpeltAction). IsActionHere names left s (Compare x r y)) (sym (is_compare a e r f is)) (record { is_action = (arithmetic_of x, arithmetic_of y, is_left, is_right, refl); no_pattern = refl; lawful = tt })

player_made : (names : Names) (at : ℕ) (player : Option SpeltName) (n : ℕ) → IsPlayer names.players player n → ActionIs names (SpeltAction.switch at player) (action_of (Switch n) skip)
player_made names at None n number = ap switch number
player_made names at (Some name) n (k, number, next) = (k, number, ap switch next)

pub switch_made : (names : Names) (left : ℕ) (a : ParsedAction) (at : ℕ) (player : Option Name) (n : ℕ) → a ≡ actions.Switch at player → left ≡ most_nested_patterns → IsPlayer names.players (option_map name_of player) n → IsActionHere names left (spelt_action_of a) (Switch n)
switch_made names left a at player n is outermost number =
    subst (λ (s : SpeltAction). IsActionHere names left s (Switch n)) (sym (is_switch a at player is)) (record { is_action = player_made names at (option_map name_of player) n number; no_pattern = refl; lawful = outermost })

-- An action that is no pattern.

pub counts_one : (s : SpeltAction) → is_spelt_pattern s ≡ false → actions_of s ≡ 1
counts_one (SpeltAction.positive at r) plain = cc
counts_one (SpeltAction.negative at r) plain = cc
counts_one _ plain = refl

nothing_inside : (a : Action) → shows_pattern a ≡ false → positions_inside (action_of a skip) ≡ []
nothing_inside Positive plain = cc
nothing_inside Negative plain = cc
nothing_inside _ plain = refl

pub action_fault : (names : Names) (left before : ℕ) (s : SpeltAction) (e : GameError) → HasActionFault names left s e → HasFaultFrom names left before (SpeltRule.act s) e
action_fault names left before s _ (of_use uses (not_there h)) = from_use this uses h
action_fault names left before s _ (of_use uses look_up_memory) = from_memory
action_fault names left before s e (of_expression has h) = from_arithmetic this has h
action_fault names left before _ _ (of_switch {player = player} few) = from_switch few (record { player = player; stands = this })
action_fault names left before s _ no_memory = from_memory

-- Its position is the next one.
pub action_added : (names : Names) (left : ℕ) (s : SpeltAction) (old new : List Action) (a : Action) (p : ℕ) → is_spelt_pattern s ≡ false → IsActionHere names left s a → new ≡ old ++ a ∷ [] → p ≡ length new → length old < most_positions → AddsRule names left (SpeltRule.act s) old new (Act p)
action_added names left s old new a p plain here added at room =
    let long : length new ≡ suc (length old) = omega (arith, ap length added, length-append old (a ∷ [])) in
    let last : slice_get new (length old) ≡ Some a = subst (λ l. slice_get l (length old) ≡ Some a) (sym added) (slice_get-last old a) in
    let there : action_at new p ≡ Some a = subst (λ n. action_at new n ≡ Some a) (sym (at ∙ long)) last in
    let is : expression_of new (Act p) ≡ act p (action_of a skip) = act_is new p a there here.no_pattern in
    let one : actions_of s ≡ 1 = counts_one s plain in
    let place : p ≡ length old + 1 = omega arith in
    record {
      made = a ∷ [];
      added = added;
      count = omega arith;
      few = omega arith;
      within = within_Act (length new) p (omega arith);
      numbers = record {
        means = (p, action_of a skip, here.is_action, is);
        positions = positions_are is one place;
        lawful = subst (λ x. IsLawful left x) (sym is) here.lawful;
      };
    }
  where
    positions_are : expression_of new (Act p) ≡ act p (action_of a skip) → actions_of s ≡ 1 → p ≡ length old + 1 → positions_of (expression_of new (Act p)) ≡ range_with_len (length old + 1) (actions_of s)
    positions_are is one place =
        ap positions_of is ∙ ap (λ l. p ∷ l) (nothing_inside a here.no_pattern) ∙ ap (λ n. n ∷ []) place ∙ ap (range_with_len (length old + 1)) (sym one)
