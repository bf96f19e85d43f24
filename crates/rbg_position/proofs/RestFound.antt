-- How the rest of a rule is gathered from its parts.
use Rattle.rbg_base.proofs.Common.{◌≡◌, ℕ, zero, suc, ◌+◌, ◌<◌, List, [], ◌∷◌, ◌++◌, length, get_or, map, drop, fold, refl, sym, ap, ◌∙◌, subst, inl, inr, append_assoc, append-nil, arith}
use Rattle.std.proofs.Common.{◌-◌, take, ◌≤◌, Bool, true, false, if◌then◌else◌, Option, Some, Box, Bor, Global}
use Rattle.std.proofs.lemmas.List.{drop-map, get_or-map, length-map, map-append, take_all}
use Rattle.rbg_rules.specs.declared.rule.Action.{Action}
use Rattle.rbg_rules.specs.declared.rule.Rule.{Rule}
use Rattle.rbg_rules.specs.declared.rule.Rule.TheVariants.{Act, Star}
use Rattle.rbg_rules.specs.Meaning.{AbstractAction, Expression, act, act_of, action_at, action_of, expression_of, shows_pattern, skip, fail, sequence, choice, star, sequence_of, choice_of}
use Rattle.rbg_rules.proofs.Bridge.{expression_of-Act, expression_of-Star}
use Rattle.rbg_position.specs.Rest.{IsRest}
use Rattle.rbg_position.specs.internal.RestParts.{AppendsRest, parts_of}

-- Further parts of a sequence are left over.
rest_of_fold : (first : Expression) (xs : List Expression) (p : ℕ) (rest : List Expression) → IsRest first p rest → IsRest (fold sequence first xs) p (rest ++ xs)
rest_of_fold first [] p rest is = subst (IsRest first p) (sym (append-nil rest)) is
rest_of_fold first (x ∷ xs) p rest is =
    subst (IsRest (fold sequence (sequence first x) xs) p) (append_assoc rest (x ∷ []) xs)
    (rest_of_fold (sequence first x) xs p (rest ++ x ∷ []) (inl (rest, is, refl)))

-- Further parts of a sum are none of it.
rest_of_sum : (first : Expression) (xs : List Expression) (p : ℕ) (rest : List Expression) → IsRest first p rest → IsRest (fold choice first xs) p rest
rest_of_sum first [] p rest is = is
rest_of_sum first (x ∷ xs) p rest is = rest_of_sum (choice first x) xs p rest (inl is)

sequence_from : (first : Expression) (xs : List Expression) (i : ℕ) (d : Expression) → i < length xs → (p : ℕ) (rest : List Expression) → IsRest (get_or xs i d) p rest → IsRest (fold sequence first xs) p (rest ++ drop (i + 1) xs)
sequence_from first [] i d within p rest is = absurd (omega arith)
sequence_from first (x ∷ xs) zero d within p rest is = rest_of_fold (sequence first x) xs p rest (inr is)
sequence_from first (x ∷ xs) (suc i) d within p rest is =
    let same : suc (i + 1) ≡ suc i + 1 = omega arith in
    subst (λ (n : ℕ). IsRest (fold sequence (sequence first x) xs) p (rest ++ drop n (x ∷ xs))) same
    (sequence_from (sequence first x) xs i d (omega arith) p rest is)

sum_from : (first : Expression) (xs : List Expression) (i : ℕ) (d : Expression) → i < length xs → (p : ℕ) (rest : List Expression) → IsRest (get_or xs i d) p rest → IsRest (fold choice first xs) p rest
sum_from first [] i d within p rest is = absurd (omega arith)
sum_from first (x ∷ xs) zero d within p rest is = rest_of_sum (choice first x) xs p rest (inr is)
sum_from first (x ∷ xs) (suc i) d within p rest is = sum_from (choice first x) xs i d (omega arith) p rest is

pub found_in_sequence : (xs : List Expression) (i : ℕ) (d : Expression) → i < length xs → (p : ℕ) (old middle new : List Expression) → AppendsRest (get_or xs i d) p old middle → new ≡ middle ++ drop (i + 1) xs → AppendsRest (sequence_of xs) p old new
found_in_sequence xs i d within p old middle new found more = record {
  rest = found.rest ++ drop (i + 1) xs;
  is_rest = sequence_from skip xs i d within p found.rest found.is_rest;
  appended = more ∙ ap (λ (z : List Expression). z ++ drop (i + 1) xs) found.appended ∙ append_assoc old found.rest (drop (i + 1) xs);
}

pub found_in_sum : (xs : List Expression) (i : ℕ) (d : Expression) → i < length xs → (p : ℕ) (old new : List Expression) → AppendsRest (get_or xs i d) p old new → AppendsRest (choice_of xs) p old new
found_in_sum xs i d within p old new found = record {
  rest = found.rest;
  is_rest = sum_from fail xs i d within p found.rest found.is_rest;
  appended = found.appended;
}

pub found_in_star : (x : Expression) (p : ℕ) (old middle new : List Expression) → AppendsRest x p old middle → new ≡ middle ++ star x ∷ [] → AppendsRest (star x) p old new
found_in_star x p old middle new found more = record {
  rest = found.rest ++ star x ∷ [];
  is_rest = (found.rest, found.is_rest, refl);
  appended = more ∙ ap (λ (z : List Expression). z ++ star x ∷ []) found.appended ∙ append_assoc old found.rest (star x ∷ []);
}

pub found_act : (x : Expression) (p : ℕ) (a : AbstractAction) → x ≡ act p a → (old : List Expression) → AppendsRest x p old old
found_act x p a is old = record {
  rest = [];
  is_rest = subst (λ (y : Expression). IsRest y p []) (sym is) (refl, refl);
  appended = sym (append-nil old);
}

-- An action of the table that is no pattern.
pub act_here : (p : ℕ) (o : Option Action) (action : Action) → o ≡ Some action → shows_pattern action ≡ false → (a : AbstractAction) × (act_of p o ≡ act p a)
act_here p o action is plain =
    (action_of action skip, ap (act_of p) is ∙ ap (λ (b : Bool). if b then fail else act p (action_of action skip)) plain)

pub found_position : (actions : List Action) (r : Rule) (q p : ℕ) → r ≡ Act q → q ≡ p → (a : AbstractAction) × (act_of p (action_at actions p) ≡ act p a) → (old : List Expression) → AppendsRest (expression_of actions r) p old old
found_position actions r q p is same (a, here) old =
    found_act (expression_of actions r) p a
    (ap (expression_of actions) is ∙ expression_of-Act actions q ∙ ap (λ (n : ℕ). act_of n (action_at actions n)) same ∙ here) old

-- The items that are lent, with one more.
parts_more : (actions : List Action) (xs : List (Bor Rule)) (r : Bor Rule) → parts_of actions (xs ++ r ∷ []) ≡ parts_of actions xs ++ expression_of actions r.now ∷ []
parts_more actions xs r = map-append (λ (part : Bor Rule). expression_of actions part.now) xs (r ∷ [])

pub found_star : (actions : List Action) (r : Bor Rule) (part : Box Rule Global) → r.now ≡ Star part → (b : Rule) → b ≡ part.value → (p : ℕ) (old : List Expression) (middle new : List (Bor Rule))
    → AppendsRest (expression_of actions b) p old (parts_of actions middle) → new ≡ middle ++ r ∷ [] → AppendsRest (expression_of actions r.now) p old (parts_of actions new)
found_star actions r part is b same p old middle new found more =
    let inner : expression_of actions r.now ≡ star (expression_of actions b) =
    ap (expression_of actions) is ∙ expression_of-Star actions part ∙ ap (λ (x : Rule). star (expression_of actions x)) (sym same)
    in
    let appended : parts_of actions new ≡ parts_of actions middle ++ star (expression_of actions b) ∷ [] =
    ap (parts_of actions) more ∙ parts_more actions middle r ∙ ap (λ (x : Expression). parts_of actions middle ++ x ∷ []) inner
    in
    subst (λ (x : Expression). AppendsRest x p old (parts_of actions new)) (sym inner)
    (found_in_star (expression_of actions b) p old (parts_of actions middle) (parts_of actions new) found appended)

-- One of the rules of a list is one of their expressions.
item_is : (actions : List Action) (inner : List Rule) (i : ℕ) (item : Rule) → i < length inner → item ≡ get_or inner i item → expression_of actions item ≡ get_or (map (expression_of actions) inner) i (expression_of actions item)
item_is actions inner i item within is =
    ap (expression_of actions) is ∙ sym (get_or-map (expression_of actions) inner i item (expression_of actions item) within)

many : (actions : List Action) (inner : List Rule) (i : ℕ) → i < length inner → i < length (map (expression_of actions) inner)
many actions inner i within = let same = length-map inner (expression_of actions) in omega (arith, within, same)

pub found_item_of_sum : (actions : List Action) (inner : List Rule) (i : ℕ) (item : Rule) → i < length inner → item ≡ get_or inner i item → (p : ℕ) (old now new : List Expression) → now ≡ old
    → AppendsRest (expression_of actions item) p now new → AppendsRest (choice_of (map (expression_of actions) inner)) p old new
found_item_of_sum actions inner i item within is p old now new same found =
    found_in_sum (map (expression_of actions) inner) i (expression_of actions item) (many actions inner i within) p old new
    (subst (λ (x : Expression). AppendsRest x p old new) (item_is actions inner i item within is)
    (subst (λ (y : List Expression). AppendsRest (expression_of actions item) p y new) same found))

-- What is left after some items, taken whole.
pub take_rest : {A : Type 0} (n : ℕ) (xs : List A) → take (length xs - n) (drop n xs) ≡ drop n xs
take_rest zero xs = take_all (length xs - 0) xs (omega arith)
take_rest {A} (suc n) [] = take_all (length {A = A} [] - suc n) [] (let none : length {A = A} [] ≤ length {A = A} [] - suc n = omega arith in none)
take_rest (suc n) (x ∷ xs) =
    let same : length xs - n ≡ length (x ∷ xs) - suc n = omega arith in
    subst (λ (m : ℕ). take m (drop n xs) ≡ drop n xs) same (take_rest n xs)

pub found_item_of_sequence : (actions : List Action) (inner : List Rule) (i : ℕ) (item : Rule) → i < length inner → item ≡ get_or inner i item → (p : ℕ) (old now middle new : List Expression) → now ≡ old
    → AppendsRest (expression_of actions item) p now middle → (further : List Rule) → further ≡ drop (i + 1) inner → new ≡ middle ++ map (expression_of actions) further
    → AppendsRest (sequence_of (map (expression_of actions) inner)) p old new
found_item_of_sequence actions inner i item within is p old now middle new same found further is_further more =
    found_in_sequence (map (expression_of actions) inner) i (expression_of actions item) (many actions inner i within) p old middle new
    (subst (λ (x : Expression). AppendsRest x p old middle) (item_is actions inner i item within is)
    (subst (λ (y : List Expression). AppendsRest (expression_of actions item) p y middle) same found))
    (more ∙ ap (λ (z : List Rule). middle ++ map (expression_of actions) z) is_further ∙ ap (λ (z : List Expression). middle ++ z) (sym (drop-map (expression_of actions) (i + 1) inner)))
