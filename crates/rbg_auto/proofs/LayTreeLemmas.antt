-- Laying the parts of a tree of the program lays the tree, whatever keeps what is laid.
use Rattle.rbg_base.proofs.Common.{◌≡◌, ℕ, ◌+◌, ◌-◌, ◌<◌, ◌≤◌, List, [], ◌∷◌, ◌++◌, length, map, fold, take, drop, get_or, refl, sym, ap, ◌∙◌, subst, inl, inr, Bool, true, false, arith, take-append-drop, Box, Vec, Global, fold-append}
use Rattle.std.proofs.lemmas.List.{take_all, length-map}
use Rattle.rbg_rules.specs.declared.rule.Action.{Action}
use Rattle.rbg_rules.specs.declared.rule.Action.TheVariants.{Shift, On, Off, Assign, Compare, Switch, Positive, Negative}
use Rattle.rbg_rules.specs.declared.rule.Rule.{Rule}
use Rattle.rbg_rules.specs.declared.rule.Rule.TheVariants.{Act, Pattern, Then, Or, Star}
use Rattle.rbg_rules.specs.Meaning.{Expression, act, skip, sequence, fail, choice, star, sequence_of, choice_of, positions_of, positions_inside, action_of, shows_pattern, expression_of, HasNoEmptySum}
use Rattle.rbg_rules.proofs.Bridge.{expression_of-Then, expression_of-Or, expression_of-Star}
use Rattle.rbg_rules.proofs.PositionLemmas.{Among, Among_left, Among_right}
use Rattle.rbg_rules.proofs.TreeLemmas.{plain_at, pattern_in, none_in_sequence, none_in_choice}
use Rattle.rbg_auto.specs.internal.Orders.{Ascends, Joins}
use Rattle.rbg_auto.specs.internal.Firsts.{may_be_empty, past, firsts}
use Rattle.rbg_auto.specs.internal.Laying.{Laid, ComesBefore, IsLaid, IsLaidInside, IsLawful, Lays}
use Rattle.rbg_auto.specs.internal.Trees.{GivesFirsts, LaysAll, of_tree, in_sequence, in_sum, IsBefore, IsAgain}
use Rattle.rbg_auto.proofs.OrderLemmas.{Ascends_left, Ascends_right}
use Rattle.rbg_auto.proofs.TreeLemmas.{sequence_more, choice_more, item_of, trees_below}
use Rattle.rbg_auto.proofs.LayLemmas.{laid_on, Owes, owes_all, owes_fewer, owes_none, lays_choice, lays_fail, lays_star}

-- The action at a position is a pattern or not.
plain_inside : (at : ℕ → Laid) (p : ℕ) (a : Action) (x : Expression) → shows_pattern a ≡ false → (at p).first ≡ [] → (at p).may_be_empty ≡ false → IsLaidInside at p (action_of a x)
plain_inside at p (Shift d) x plain first empty = (first, empty)
plain_inside at p (On pieces) x plain first empty = (first, empty)
plain_inside at p (Off q) x plain first empty = (first, empty)
plain_inside at p (Assign v e) x plain first empty = (first, empty)
plain_inside at p (Compare e r f) x plain first empty = (first, empty)
plain_inside at p (Switch n) x plain first empty = (first, empty)
plain_inside at p Positive x plain first empty = absurd (cc plain)
plain_inside at p Negative x plain first empty = absurd (cc plain)

pattern_inside : (at : ℕ → Laid) (p : ℕ) (a : Action) (x : Expression) → shows_pattern a ≡ true → (at p).first ≡ firsts x → (at p).may_be_empty ≡ may_be_empty x → IsLaid at x [] true → IsLaidInside at p (action_of a x)
pattern_inside at p Positive x pattern first empty laid = (first, empty, laid)
pattern_inside at p Negative x pattern first empty laid = (first, empty, laid)
pattern_inside at p _ x pattern first empty laid = absurd (cc pattern)

inside_positions : (a : Action) (x : Expression) → shows_pattern a ≡ true → positions_inside (action_of a x) ≡ positions_of x
inside_positions Positive x pattern = refl
inside_positions Negative x pattern = refl
inside_positions _ x pattern = absurd (cc pattern)

-- What is laid at a position without an inside, and at that of a pattern.
abbrev pub plain_laid : List ℕ → Bool → Laid
plain_laid k end = record { next = k; may_end = end; first = []; may_be_empty = false }

abbrev pub pattern_laid : List ℕ → Bool → List ℕ → Bool → Laid
pattern_laid k end first empty = record { next = k; may_end = end; first = first; may_be_empty = empty }

-- The list, and whether it is so for the empty one, are how the words of the tree begin.
pub record BeginsTree (tree : Rule) (first : List ℕ) (empty : Bool) : Type 0 where
  pub first_of : (actions : List Action) → HasNoEmptySum (expression_of actions tree) → first ≡ firsts (expression_of actions tree)
  pub empty_of : (actions : List Action) → HasNoEmptySum (expression_of actions tree) → empty ≡ may_be_empty (expression_of actions tree)

pub begins_tree : (tree : Rule) (first : List ℕ) (empty : Bool) → GivesFirsts tree [] first empty → BeginsTree tree first empty
begins_tree tree first empty gives = record { first_of = λ actions none. (gives.gives actions none).positions; empty_of = λ actions none. (gives.gives actions none).empty_word }

module _ (size p : ℕ) (old new : ℕ → Laid) (k : List ℕ) (end : Bool) where
  pub act_laid : (p < size → new p ≡ plain_laid k end) → ((q : ℕ) → ¬ (q ≡ p) → new q ≡ old q) → LaysAll size old new (of_tree (Act p)) k end
  act_laid there others actions lawful =
      let plain = plain_at actions p Positive lawful.no_empty_sum in
      let a = get_or actions (p - 1) Positive in
      let lawful_act : IsLawful size (act p (action_of a skip)) = subst (IsLawful size) plain.act_of_it lawful in
      let here : new p ≡ plain_laid k end = there (lawful_act.below p (inl refl)) in
      let one : Lays old new (act p (action_of a skip)) k end = record {
        laid = (
          ap (λ (l : Laid). l.next) here,
          ap (λ (l : Laid). l.may_end) here,
          plain_inside new p a skip plain.kind (ap (λ (l : Laid). l.first) here) (ap (λ (l : Laid). l.may_be_empty) here),
        );
        others = λ q h. others q (λ e. h (inl e));
      } in
      subst (λ (x : Expression). Lays old new x k end) (sym plain.act_of_it) one

module _ (size p : ℕ) (inside : Box Rule Global) (old level new : ℕ → Laid) (k : List ℕ) (end : Bool) (first : List ℕ) (empty : Bool) where
  pub pattern_laid_whole : LaysAll size old level (of_tree inside.value) [] true → BeginsTree inside.value first empty → (p < size → new p ≡ pattern_laid k end first empty) → ((q : ℕ) → ¬ (q ≡ p) → new q ≡ level q) → LaysAll size old new (of_tree (Pattern p inside)) k end
  pattern_laid_whole laid_level begins there others actions lawful =
      let pattern = pattern_in actions p inside Positive lawful.no_empty_sum in
      let a = get_or actions (p - 1) Positive in
      let x = expression_of actions inside.value in
      let whole = act p (action_of a x) in
      let lawful_act : IsLawful size whole = subst (IsLawful size) pattern.act_of_it lawful in
      let same = inside_positions a x pattern.kind in
      let above : (q : ℕ) → Among q (positions_of x) → p < q = λ q h. lawful_act.order.0 q (subst (Among q) (sym same) h) in
      let lawful_inside : IsLawful size x = record {
        no_empty_sum = pattern.inside_it;
        order = subst Ascends same lawful_act.order.1;
        below = λ q h. lawful_act.below q (inr (subst (Among q) (sym same) h));
      } in
      let in_level = laid_level actions lawful_inside in
      let here : new p ≡ pattern_laid k end first empty = there (lawful_act.below p (inl refl)) in
      let laid_x : IsLaid new x [] true = laid_on level new x [] true (λ q h. others q (λ e. let less : p < q = above q h in absurd (omega (arith, less, e)))) in_level.laid in
      let one : Lays old new whole k end = record {
        laid = (
          ap (λ (l : Laid). l.next) here,
          ap (λ (l : Laid). l.may_end) here,
          pattern_inside new p a x pattern.kind (ap (λ (l : Laid). l.first) here ∙ begins.first_of actions pattern.inside_it) (ap (λ (l : Laid). l.may_be_empty) here ∙ begins.empty_of actions pattern.inside_it) laid_x,
        );
        others = λ q h. others q (λ e. h (inl e)) ∙ in_level.others q (λ in_x. h (inr (subst (Among q) (sym same) in_x)));
      } in
      subst (λ (y : Expression). Lays old new y k end) (sym pattern.act_of_it) one

-- Trees of parts.
module _ (size : ℕ) (old new : ℕ → Laid) (k : List ℕ) (end : Bool) where
  pub then_laid : (parts : Vec Rule Global) → LaysAll size old new (in_sequence parts.items) k end → LaysAll size old new (of_tree (Then parts)) k end
  then_laid parts one actions lawful =
      subst (λ (x : Expression). Lays old new x k end) (sym (expression_of-Then actions parts))
      (one actions (subst (IsLawful size) (expression_of-Then actions parts) lawful))

  pub or_laid : (parts : Vec Rule Global) → LaysAll size old new (in_sum parts.items) k end → LaysAll size old new (of_tree (Or parts)) k end
  or_laid parts one actions lawful =
      subst (λ (x : Expression). Lays old new x k end) (sym (expression_of-Or actions parts))
      (one actions (subst (IsLawful size) (expression_of-Or actions parts) lawful))

  pub star_laid : (part : Box Rule Global) (m : List ℕ) → IsAgain part.value k m → LaysAll size old new (of_tree part.value) m end → LaysAll size old new (of_tree (Star part)) k end
  star_laid part m again one actions lawful =
      let x = expression_of actions part.value in
      let lawful_star : IsLawful size (star x) = subst (IsLawful size) (expression_of-Star actions part) lawful in
      let lawful_part : IsLawful size x = record { no_empty_sum = lawful_star.no_empty_sum; order = lawful_star.order; below = lawful_star.below } in
      subst (λ (y : Expression). Lays old new y k end) (sym (expression_of-Star actions part))
      (lays_star old new x k m end (again.again actions lawful_part.no_empty_sum) (one actions lawful_part))

pub again_by : (part : Rule) (first k m : List ℕ) (empty : Bool) → GivesFirsts part [] first empty → Joins first k m → IsAgain part k m
again_by part first k m empty gives joins = record { again = λ actions none. subst (λ (f : List ℕ). Joins f k m) (gives.gives actions none).positions joins }

-- What comes before a part.
pub before_empty : (part : Rule) (first k m : List ℕ) (end : Bool) → GivesFirsts part [] first true → Joins first k m → IsBefore part k end m end
before_empty part first k m end gives joins = record { before = before }
  where
    before : (actions : List Action) → HasNoEmptySum (expression_of actions part) → ComesBefore (expression_of actions part) k end m end
    before actions none =
        let x = expression_of actions part in
        let given = gives.gives actions none in
        let is_empty : may_be_empty x ≡ true = sym given.empty_word in
        let same : past x k ≡ k = rw is_empty refl in
        record {
          positions = subst (λ (f : List ℕ). Joins f (past x k) m) given.positions (subst (λ (l : List ℕ). Joins first l m) (sym same) joins);
          ends = rw is_empty refl;
        }

pub before_stop : (part : Rule) (first k : List ℕ) (end : Bool) → GivesFirsts part [] first false → IsBefore part k end first false
before_stop part first k end gives = record { before = before }
  where
    alone : (f : List ℕ) → Joins f [] f
    alone f order _ = record { order = order; exact = λ j. ((λ h. inl h), (λ h. elim h [ inl l ↦ l | inr r ↦ absurd r ])) }

    before : (actions : List Action) → HasNoEmptySum (expression_of actions part) → ComesBefore (expression_of actions part) k end first false
    before actions none =
        let x = expression_of actions part in
        let given = gives.gives actions none in
        let is_empty : may_be_empty x ≡ false = sym given.empty_word in
        let same : past x k ≡ [] = rw is_empty refl in
        record {
          positions = subst (λ (f : List ℕ). Joins f (past x k) first) given.positions (subst (λ (l : List ℕ). Joins first l first) (sym same) (alone first));
          ends = rw is_empty refl;
        }

-- Positions of the front of a sequence or of a sum.
record IsInOrder (size : ℕ) (x : Expression) : Type 0 where
  order : Ascends (positions_of x)
  below : (q : ℕ) → Among q (positions_of x) → q < size

in_order_left : (size : ℕ) (x y z : Expression) → positions_of z ≡ positions_of x ++ positions_of y → IsInOrder size z → IsInOrder size x
in_order_left size x y z is whole = record {
  order = Ascends_left (positions_of x) (positions_of y) (subst Ascends is whole.order);
  below = λ q h. whole.below q (subst (Among q) (sym is) (Among_left q (positions_of x) (positions_of y) h));
}

in_order_right : (size : ℕ) (x y z : Expression) → positions_of z ≡ positions_of x ++ positions_of y → IsInOrder size z → IsInOrder size y
in_order_right size x y z is whole = record {
  order = Ascends_right (positions_of x) (positions_of y) (subst Ascends is whole.order);
  below = λ q h. whole.below q (subst (Among q) (sym is) (Among_right q (positions_of x) (positions_of y) h));
}

sequence_front : (size : ℕ) (x : Expression) (rest : List Expression) → IsInOrder size (fold sequence x rest) → IsInOrder size x
sequence_front size x [] whole = whole
sequence_front size x (y ∷ rest) whole = in_order_left size x y (sequence x y) refl (sequence_front size (sequence x y) rest whole)

choice_front : (size : ℕ) (x : Expression) (rest : List Expression) → IsInOrder size (fold choice x rest) → IsInOrder size x
choice_front size x [] whole = whole
choice_front size x (y ∷ rest) whole = in_order_left size x y (choice x y) refl (choice_front size (choice x y) rest whole)

in_order : (size : ℕ) (x : Expression) → IsLawful size x → IsInOrder size x
in_order size x lawful = record { order = lawful.order; below = lawful.below }

sequence_take : (size : ℕ) (xs : List Expression) (i : ℕ) → IsLawful size (sequence_of xs) → IsInOrder size (sequence_of (take i xs))
sequence_take size xs i lawful =
    sequence_front size (sequence_of (take i xs)) (drop i xs)
    (subst (IsInOrder size) (ap sequence_of (sym (take-append-drop i xs)) ∙ fold-append sequence skip (take i xs) (drop i xs)) (in_order size (sequence_of xs) lawful))

choice_take : (size : ℕ) (xs : List Expression) (i : ℕ) → IsLawful size (choice_of xs) → IsInOrder size (choice_of (take i xs))
choice_take size xs i lawful =
    choice_front size (choice_of (take i xs)) (drop i xs)
    (subst (IsInOrder size) (ap choice_of (sym (take-append-drop i xs)) ∙ fold-append choice fail (take i xs) (drop i xs)) (in_order size (choice_of xs) lawful))

-- The parts of a sum so far.
abbrev pub sum_front : List Rule → ℕ → List Action → Expression
sum_front parts i actions = choice_of (take i (map (expression_of actions) parts))

abbrev pub SumLaid : ℕ → (ℕ → Laid) → (ℕ → Laid) → List Rule → ℕ → List ℕ → Bool → Type 0
SumLaid size old now parts i k end =
    (actions : List Action) → IsLawful size (in_sum parts actions) → Lays old now (sum_front parts i actions) k end

module _ (size : ℕ) (old : ℕ → Laid) (parts : List Rule) (k : List ℕ) (end : Bool) where
  pub sum_laid_none : SumLaid size old old parts 0 k end
  sum_laid_none actions lawful = lays_fail old k end

  pub sum_laid_more : (now new : ℕ → Laid) (i : ℕ) (part : Rule) → i < length parts → part ≡ get_or parts i part → SumLaid size old now parts i k end → LaysAll size now new (of_tree part) k end → SumLaid size old new parts (i + 1) k end
  sum_laid_more now new i part below is one other actions lawful =
      let xs = map (expression_of actions) parts in
      let item = item_of actions parts i part below is in
      let within = trees_below actions parts i below in
      let x = choice_of (take i xs) in
      let y = expression_of actions part in
      let more : choice_of (take (i + 1) xs) ≡ choice x y = choice_more xs i skip within ∙ ap (λ (z : Expression). choice x z) item in
      let both : IsInOrder size (choice x y) = subst (IsInOrder size) more (choice_take size xs (i + 1) lawful) in
      let second = in_order_right size x y (choice x y) refl both in
      let lawful_part : IsLawful size y = record {
        no_empty_sum = subst HasNoEmptySum item (none_in_choice xs lawful.no_empty_sum i skip within);
        order = second.order;
        below = second.below;
      } in
      subst (λ (z : Expression). Lays old new z k end) (sym more)
      (lays_choice old now new x y k end both.order (one actions lawful) (other actions lawful_part))

  pub sum_laid_all : (now : ℕ → Laid) (i : ℕ) → length parts ≤ i → SumLaid size old now parts i k end → LaysAll size old now (in_sum parts) k end
  sum_laid_all now i all one actions lawful =
      subst (λ (xs : List Expression). Lays old now (choice_of xs) k end)
      (take_all i (map (expression_of actions) parts) (rw (length-map parts (expression_of actions)) all)) (one actions lawful)

-- The parts of a sequence that are still to be laid.
abbrev pub sequence_front_of : List Rule → ℕ → List Action → Expression
sequence_front_of parts i actions = sequence_of (take i (map (expression_of actions) parts))

abbrev pub SequenceOwed : ℕ → (ℕ → Laid) → (ℕ → Laid) → List Rule → ℕ → List ℕ → Bool → List ℕ → Bool → Type 0
SequenceOwed size old now parts i k end m may_end =
    (actions : List Action) → IsLawful size (in_sequence parts actions) →
    Owes old now (in_sequence parts actions) (sequence_front_of parts i actions) k end m may_end

module _ (size : ℕ) (old : ℕ → Laid) (parts : List Rule) (k : List ℕ) (end : Bool) where
  pub sequence_owed_all : (i : ℕ) → length parts ≤ i → SequenceOwed size old old parts i k end k end
  sequence_owed_all i all actions lawful =
      subst (λ (xs : List Expression). Owes old old (in_sequence parts actions) (sequence_of xs) k end k end)
      (sym (take_all i (map (expression_of actions) parts) (rw (length-map parts (expression_of actions)) all)))
      (owes_all old (in_sequence parts actions) k end)

  pub sequence_owed_fewer : (now new : ℕ → Laid) (i : ℕ) (part : Rule) (m : List ℕ) (may_end : Bool) (m' : List ℕ) (may_end' : Bool) → i < length parts → part ≡ get_or parts i part → SequenceOwed size old now parts (i + 1) k end m may_end → LaysAll size now new (of_tree part) m may_end → IsBefore part m may_end m' may_end' → SequenceOwed size old new parts i k end m' may_end'
  sequence_owed_fewer now new i part m may_end m' may_end' below is one other before actions lawful =
      let xs = map (expression_of actions) parts in
      let item = item_of actions parts i part below is in
      let within = trees_below actions parts i below in
      let x = sequence_of (take i xs) in
      let y = expression_of actions part in
      let more : sequence_of (take (i + 1) xs) ≡ sequence x y = sequence_more xs i skip within ∙ ap (λ (z : Expression). sequence x z) item in
      let both : IsInOrder size (sequence x y) = subst (IsInOrder size) more (sequence_take size xs (i + 1) lawful) in
      let second = in_order_right size x y (sequence x y) refl both in
      let none : HasNoEmptySum y = subst HasNoEmptySum item (none_in_sequence xs lawful.no_empty_sum i skip within) in
      let lawful_part : IsLawful size y = record { no_empty_sum = none; order = second.order; below = second.below } in
      let owed = subst (λ (z : Expression). Owes old now (sequence_of xs) z k end m may_end) more (one actions lawful) in
      owes_fewer old now new (sequence_of xs) x y k end m may_end m' may_end' both.order owed (other actions lawful_part) (before.before actions none)

  pub sequence_owed_none : (now : ℕ → Laid) (m : List ℕ) (may_end : Bool) → SequenceOwed size old now parts 0 k end m may_end → LaysAll size old now (in_sequence parts) k end
  sequence_owed_none now m may_end one actions lawful = owes_none old now (in_sequence parts actions) k end m may_end (one actions lawful)

-- The same for another number of positions.
pub resized : (m n : ℕ) (old new : ℕ → Laid) (x : List Action → Expression) (k : List ℕ) (end : Bool) → m ≡ n → LaysAll m old new x k end → LaysAll n old new x k end
resized m n old new x k end same one actions lawful = one actions (subst (λ (size : ℕ). IsLawful size (x actions)) (sym same) lawful)
