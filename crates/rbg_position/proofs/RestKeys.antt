-- Keys of rules with other numbers, and of the parts of a rest.
use Rattle.std.proofs.Common.{◌≡◌, ℕ, List, [], ◌∷◌, ◌++◌, map, fold, refl, sym, ap, ◌∙◌, subst, append-nil}
use Rattle.std.proofs.lemmas.List.{map-append}
use Rattle.rbg_rules.specs.Meaning.{AbstractArithmetic, number, variable, piece_count, negated, sum, difference, product, quotient, AbstractAction, shift, on, off, assignment, comparison, switch, positive, negative, Expression, act, skip, sequence, fail, choice, star, expression_of, sequence_of}
use Rattle.rbg_position.specs.declared.key_mark.KeyMark.{KeyMark}
use Rattle.rbg_position.specs.declared.key_mark.KeyMark.TheVariants.{Number, Variable, PieceCount, Negated, Sum, Difference, Product, Quotient, Shift, On, OnPiece, Off, Assign, Compare, Switch, Positive, Negative, Act, Skip, Then, Fail, Or, Star}
use Rattle.rbg_rules.specs.declared.rule.Action.{Action}
use Rattle.rbg_rules.specs.declared.rule.Rule.{Rule}
use Rattle.rbg_position.specs.Onward.{SameRest}
use Rattle.rbg_position.specs.Renumbering.{renumbered, renumbered_action}
use Rattle.rbg_position.specs.Rest.{IsRest}
use Rattle.rbg_position.specs.internal.Marks.{arithmetic_key, action_key, on_key, rules_key, renumbered_mark}
use Rattle.rbg_position.specs.internal.RestParts.{AppendsRest, IsKeyOfRest}
use Rattle.rbg_position.proofs.Keys.{same_key}

module _ (to : ℕ → ℕ) where
  abbrev Same : List KeyMark → Type 0
  Same key = map (renumbered_mark to) key ≡ key

  -- Keys joined, and a mark after them.
  joined : (a a' b b' : List KeyMark) → map (renumbered_mark to) a ≡ a' → map (renumbered_mark to) b ≡ b' → map (renumbered_mark to) (a ++ b) ≡ a' ++ b'
  joined a a' b b' left right = map-append (renumbered_mark to) a b ∙ ap (λ (z : List KeyMark). z ++ map (renumbered_mark to) b) left ∙ ap (λ (z : List KeyMark). a' ++ z) right

  two : (a b : List KeyMark) (m : KeyMark) → renumbered_mark to m ≡ m → Same a → Same b → Same (a ++ b ++ m ∷ [])
  two a b m same left right = joined (a ++ b) (a ++ b) (m ∷ []) (m ∷ []) (joined a a b b left right) (ap (λ (z : KeyMark). z ∷ []) same)

  -- Arithmetic has no positions.
  arithmetic_same : (e : AbstractArithmetic) → Same (arithmetic_key e)
  arithmetic_same (number n) = refl
  arithmetic_same (variable v) = refl
  arithmetic_same (piece_count p) = refl
  arithmetic_same (negated e) = joined (arithmetic_key e) (arithmetic_key e) (Negated ∷ []) (Negated ∷ []) (arithmetic_same e) refl
  arithmetic_same (sum e f) = two (arithmetic_key e) (arithmetic_key f) Sum refl (arithmetic_same e) (arithmetic_same f)
  arithmetic_same (difference e f) = two (arithmetic_key e) (arithmetic_key f) Difference refl (arithmetic_same e) (arithmetic_same f)
  arithmetic_same (product e f) = two (arithmetic_key e) (arithmetic_key f) Product refl (arithmetic_same e) (arithmetic_same f)
  arithmetic_same (quotient e f) = two (arithmetic_key e) (arithmetic_key f) Quotient refl (arithmetic_same e) (arithmetic_same f)

  pieces_same : (xs : List ℕ) → Same (map OnPiece xs)
  pieces_same [] = refl
  pieces_same (x ∷ xs) = ap (λ (z : List KeyMark). OnPiece x ∷ z) (pieces_same xs)

  mutual
    action_renumbered : (a : AbstractAction) → map (renumbered_mark to) (action_key a) ≡ action_key (renumbered_action to a)
    action_renumbered (shift d) = refl
    action_renumbered (on xs) = ap (λ (z : List KeyMark). On ∷ z) (pieces_same xs)
    action_renumbered (off x) = refl
    action_renumbered (assignment v e) = joined (arithmetic_key e) (arithmetic_key e) (Assign v ∷ []) (Assign v ∷ []) (arithmetic_same e) refl
    action_renumbered (comparison e r f) = two (arithmetic_key e) (arithmetic_key f) (Compare r) refl (arithmetic_same e) (arithmetic_same f)
    action_renumbered (switch n) = refl
    action_renumbered (positive x) = joined (rules_key x) (rules_key (renumbered to x)) (Positive ∷ []) (Positive ∷ []) (key_renumbered x) refl
    action_renumbered (negative x) = joined (rules_key x) (rules_key (renumbered to x)) (Negative ∷ []) (Negative ∷ []) (key_renumbered x) refl

    -- The key of rules with other numbers is the key with other numbers.
    key_renumbered : (x : Expression) → map (renumbered_mark to) (rules_key x) ≡ rules_key (renumbered to x)
    key_renumbered (act p a) = joined (action_key a) (action_key (renumbered_action to a)) (Act p ∷ []) (Act (to p) ∷ []) (action_renumbered a) refl
    key_renumbered skip = refl
    key_renumbered (sequence x y) =
        joined (rules_key x ++ rules_key y) (rules_key (renumbered to x) ++ rules_key (renumbered to y)) (Then ∷ []) (Then ∷ [])
        (joined (rules_key x) (rules_key (renumbered to x)) (rules_key y) (rules_key (renumbered to y)) (key_renumbered x) (key_renumbered y)) refl
    key_renumbered fail = refl
    key_renumbered (choice x y) =
        joined (rules_key x ++ rules_key y) (rules_key (renumbered to x) ++ rules_key (renumbered to y)) (Or ∷ []) (Or ∷ [])
        (joined (rules_key x) (rules_key (renumbered to x)) (rules_key y) (rules_key (renumbered to y)) (key_renumbered x) (key_renumbered y)) refl
    key_renumbered (star x) = joined (rules_key x) (rules_key (renumbered to x)) (Star ∷ []) (Star ∷ []) (key_renumbered x) refl

  -- A sequence of parts with other numbers.
  fold_renumbered : (first : Expression) (xs : List Expression) → renumbered to (fold sequence first xs) ≡ fold sequence (renumbered to first) (map (renumbered to) xs)
  fold_renumbered first [] = refl
  fold_renumbered first (x ∷ xs) = fold_renumbered (sequence first x) xs

-- the parts of a sequence, after those that are known
abbrev unfolded : Expression → List Expression → List Expression
unfolded (sequence x y) known = unfolded x (y ∷ known)
unfolded _ known = known

unfolded_fold : (first : Expression) (xs known : List Expression) → unfolded (fold sequence first xs) known ≡ unfolded first (xs ++ known)
unfolded_fold first [] known = refl
unfolded_fold first (x ∷ xs) known = unfolded_fold (sequence first x) xs known

same_parts : (xs ys : List Expression) → sequence_of xs ≡ sequence_of ys → xs ≡ ys
same_parts xs ys same =
    sym (append-nil xs) ∙ sym (unfolded_fold skip xs []) ∙ ap (λ (z : Expression). unfolded z []) same ∙ unfolded_fold skip ys [] ∙ append-nil ys

-- If the key of one sequence is that of the other one with other numbers, so are its parts.
pub renumbered_parts : (to : ℕ → ℕ) (xs ys : List Expression) → map (renumbered_mark to) (rules_key (sequence_of xs)) ≡ rules_key (sequence_of ys) → ys ≡ map (renumbered to) xs
renumbered_parts to xs ys same =
    same_parts ys (map (renumbered to) xs)
    (same_key (sequence_of ys) (sequence_of (map (renumbered to) xs))
    (sym same ∙ key_renumbered to (sequence_of xs) ∙ ap rules_key (fold_renumbered to skip xs)))

-- The parts that were gathered, and their key.
pub key_of_rest : (actions items : List Action) (tree : Rule) (p : ℕ) (start parts : List Expression) (key : List KeyMark) → actions ≡ items → start ≡ [] → AppendsRest (expression_of actions tree) p start parts
    → key ≡ rules_key (sequence_of parts) → IsKeyOfRest (expression_of items tree) p key
key_of_rest actions items tree p start parts key is none found is_key = record {
  rest = parts;
  is_rest =
      subst (λ (x : Expression). IsRest x p parts) (ap (λ (table : List Action). expression_of table tree) is)
      (subst (IsRest (expression_of actions tree) p) (sym (found.appended ∙ ap (λ (z : List Expression). z ++ found.rest) none)) found.is_rest);
  is_key = is_key;
}

-- Two rests are the same if their keys are.
pub same_rests : (x y : Expression) (p q : ℕ) (to : ℕ → ℕ) (new old renumbered_key : List KeyMark) → IsKeyOfRest x p new → IsKeyOfRest y q old → renumbered_key ≡ map (renumbered_mark to) new → renumbered_key ≡ old → SameRest x p y q to
same_rests x y p q to new old renumbered_key one other is same = record {
  rest = one.rest;
  of_new = one.is_rest;
  of_old =
      subst (IsRest y q)
      (renumbered_parts to one.rest other.rest (ap (map (renumbered_mark to)) (sym one.is_key) ∙ sym is ∙ same ∙ other.is_key)) other.is_rest;
}

-- A mark that is none of a position stays.
pub other_mark : (to : ℕ → ℕ) (mark : KeyMark) → ((p : ℕ) → mark ≡ Act p → ⊥) → mark ≡ renumbered_mark to mark
other_mark to (Act p) none = absurd (none p refl)
other_mark to _ none = refl
