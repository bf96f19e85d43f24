-- What is read off the trees of the program.
use Rattle.rbg_base.proofs.Common.{◌≡◌, ℕ, ◌+◌, ◌<◌, ◌≤◌, List, [], ◌∷◌, ◌++◌, length, map, fold, take, drop, get_or, refl, sym, ap, ◌∙◌, subst, Bool, true, false, append_assoc, take-append-drop, Box, Vec, All, ◌&&◌, ◌||◌, Global, fold-append, fold_push}
use Rattle.std.proofs.lemmas.List.{append-nil, take_more, take_all, get_or-map, length-map}
use Rattle.rbg_rules.specs.declared.rule.Action.{Action}
use Rattle.rbg_rules.specs.declared.rule.Action.TheVariants.{Positive}
use Rattle.rbg_rules.specs.declared.rule.Rule.{Rule}
use Rattle.rbg_rules.specs.declared.rule.Rule.TheVariants.{Act, Pattern, Then, Or, Star}
use Rattle.rbg_rules.specs.Meaning.{Expression, skip, sequence, fail, choice, sequence_of, choice_of, expression_of, HasNoEmptySum}
use Rattle.rbg_rules.proofs.Bridge.{expression_of-Then, expression_of-Or, expression_of-Star}
use Rattle.rbg_rules.proofs.TreeLemmas.{plain_at, pattern_in, none_in_sequence, none_in_choice}
use Rattle.rbg_auto.specs.internal.Firsts.{may_be_empty, past, firsts}
use Rattle.rbg_auto.specs.internal.Trees.{AppendsFirsts, GivesFirsts, GivesFirstsOfSequence, GivesFirstsOfSum}

-- The parts of a sequence and of a sum, one after the other.
pub sequence_more : (xs : List Expression) (i : ℕ) (d : Expression) → i < length xs → sequence_of (take (i + 1) xs) ≡ sequence (sequence_of (take i xs)) (get_or xs i d)
sequence_more xs i d below = ap sequence_of (take_more xs i d below) ∙ fold_push sequence skip (take i xs) (get_or xs i d)

pub choice_more : (xs : List Expression) (i : ℕ) (d : Expression) → i < length xs → choice_of (take (i + 1) xs) ≡ choice (choice_of (take i xs)) (get_or xs i d)
choice_more xs i d below = ap choice_of (take_more xs i d below) ∙ fold_push choice fail (take i xs) (get_or xs i d)

-- Once a part may not be empty, no later part begins a word.
module _ where
  both_false : (a b : Bool) → a ≡ false → (a && b) ≡ false
  both_false true b e = absurd (cc e)
  both_false false b e = refl

  past_nothing : (x : Expression) (k : List ℕ) → may_be_empty x ≡ false → past x k ≡ []
  past_nothing x k e = rw e refl

  stops : (x : Expression) (rest : List Expression) → may_be_empty x ≡ false → (firsts (fold sequence x rest) ≡ firsts x) × (may_be_empty (fold sequence x rest) ≡ false)
  stops x [] e = (refl, e)
  stops x (y ∷ rest) e =
      let more = stops (sequence x y) rest (both_false (may_be_empty x) (may_be_empty y) e) in
      (more.0 ∙ ap (λ (k : List ℕ). firsts x ++ k) (past_nothing x (firsts y) e) ∙ append-nil (firsts x), more.1)

past_all : (x : Expression) (k : List ℕ) → may_be_empty x ≡ true → past x k ≡ k
past_all x k e = rw e refl

-- One node.
pub firsts_act : (p : ℕ) (old new : List ℕ) → new ≡ old ++ p ∷ [] → GivesFirsts (Act p) old new false
firsts_act p old new is = record { gives = gives }
  where
    gives : (actions : List Action) → HasNoEmptySum (expression_of actions (Act p)) → AppendsFirsts (expression_of actions (Act p)) old new false
    gives actions none =
        let plain = plain_at actions p Positive none in
        subst (λ (x : Expression). AppendsFirsts x old new false) (sym plain.act_of_it) (record { positions = is; empty_word = refl })

pub firsts_pattern : (p : ℕ) (inside : Box Rule Global) (old new : List ℕ) → new ≡ old ++ p ∷ [] → GivesFirsts (Pattern p inside) old new false
firsts_pattern p inside old new is = record { gives = gives }
  where
    gives : (actions : List Action) → HasNoEmptySum (expression_of actions (Pattern p inside)) → AppendsFirsts (expression_of actions (Pattern p inside)) old new false
    gives actions none =
        let pattern = pattern_in actions p inside Positive none in
        subst (λ (x : Expression). AppendsFirsts x old new false) (sym pattern.act_of_it) (record { positions = is; empty_word = refl })

pub firsts_then : (parts : Vec Rule Global) (old new : List ℕ) (empty : Bool) → GivesFirstsOfSequence parts.items old new empty → GivesFirsts (Then parts) old new empty
firsts_then parts old new empty one = record { gives = λ actions none. subst (λ (x : Expression). AppendsFirsts x old new empty) (sym (expression_of-Then actions parts)) (one.gives actions (subst HasNoEmptySum (expression_of-Then actions parts) none)) }

pub firsts_or : (parts : Vec Rule Global) (old new : List ℕ) (empty : Bool) → GivesFirstsOfSum parts.items old new empty → GivesFirsts (Or parts) old new empty
firsts_or parts old new empty one = record { gives = λ actions none. subst (λ (x : Expression). AppendsFirsts x old new empty) (sym (expression_of-Or actions parts)) (one.gives actions (subst HasNoEmptySum (expression_of-Or actions parts) none)) }

pub firsts_star : (part : Box Rule Global) (old new : List ℕ) (empty : Bool) → GivesFirsts part.value old new empty → GivesFirsts (Star part) old new true
firsts_star part old new empty one = record { gives = gives }
  where
    gives : (actions : List Action) → HasNoEmptySum (expression_of actions (Star part)) → AppendsFirsts (expression_of actions (Star part)) old new true
    gives actions none =
        let inner = one.gives actions (subst HasNoEmptySum (expression_of-Star actions part) none) in
        subst (λ (x : Expression). AppendsFirsts x old new true) (sym (expression_of-Star actions part)) (record { positions = inner.positions; empty_word = refl })

-- The parts so far.
pub record SoFarInSequence (parts : List Rule) (i : ℕ) (old now : List ℕ) : Type 0 where
  pub so_far :
      (actions : List Action) → HasNoEmptySum (sequence_of (map (expression_of actions) parts)) →
      AppendsFirsts (sequence_of (take i (map (expression_of actions) parts))) old now true

pub record SoFarInSum (parts : List Rule) (i : ℕ) (old now : List ℕ) (empty : Bool) : Type 0 where
  pub so_far :
      (actions : List Action) → HasNoEmptySum (choice_of (map (expression_of actions) parts)) →
      AppendsFirsts (choice_of (take i (map (expression_of actions) parts))) old now empty

pub sequence_none : (parts : List Rule) (old : List ℕ) → SoFarInSequence parts 0 old old
sequence_none parts old = record { so_far = λ actions none. record { positions = sym (append-nil old); empty_word = refl } }

pub sum_none : (parts : List Rule) (old : List ℕ) → SoFarInSum parts 0 old old false
sum_none parts old = record { so_far = λ actions none. record { positions = sym (append-nil old); empty_word = refl } }

module _ (actions : List Action) (parts : List Rule) where
  trees : List Expression
  trees = map (expression_of actions) parts

  pub item_of : (i : ℕ) (part : Rule) → i < length parts → part ≡ get_or parts i part → get_or (map (expression_of actions) parts) i skip ≡ expression_of actions part
  item_of i part below is = get_or-map (expression_of actions) parts i part skip below ∙ ap (expression_of actions) (sym is)

  pub trees_below : (i : ℕ) → i < length parts → i < length (map (expression_of actions) parts)
  trees_below i below = rw (length-map parts (expression_of actions)) below

  pub none_of_item : (xs : List Expression) → All HasNoEmptySum xs → (i : ℕ) → i < length xs → HasNoEmptySum (get_or xs i skip)
  none_of_item xs all i below = all i skip below

-- One more part.
next_in_sequence : (x y : Expression) (old now new : List ℕ) (empty : Bool) → AppendsFirsts x old now true → AppendsFirsts y now new empty → AppendsFirsts (sequence x y) old new empty
next_in_sequence x y old now new empty one other = record {
  positions = other.positions ∙ ap (λ (k : List ℕ). k ++ firsts y) one.positions ∙ append_assoc old (firsts x) (firsts y) ∙ ap (λ (k : List ℕ). old ++ (firsts x ++ k)) (sym (past_all x (firsts y) (sym one.empty_word)));
  empty_word = other.empty_word ∙ ap (λ (b : Bool). b && may_be_empty y) one.empty_word;
}

pub sequence_next : (parts : List Rule) (i : ℕ) (part : Rule) (old now new : List ℕ) (empty : Bool) → i < length parts → part ≡ get_or parts i part → SoFarInSequence parts i old now → GivesFirsts part now new empty → (actions : List Action) → HasNoEmptySum (sequence_of (map (expression_of actions) parts)) → AppendsFirsts (sequence_of (take (i + 1) (map (expression_of actions) parts))) old new empty
sequence_next parts i part old now new empty below is so_far gives actions none =
    let xs = map (expression_of actions) parts in
    let item = item_of actions parts i part below is in
    let within = trees_below actions parts i below in
    let none_here = subst HasNoEmptySum item (none_in_sequence xs none i skip within) in
    let whole = next_in_sequence (sequence_of (take i xs)) (expression_of actions part) old now new empty (so_far.so_far actions none) (gives.gives actions none_here) in
    subst (λ (x : Expression). AppendsFirsts x old new empty) (ap (λ (y : Expression). sequence (sequence_of (take i xs)) y) (sym item) ∙ sym (sequence_more xs i skip within)) whole

pub sequence_goes_on : (parts : List Rule) (i : ℕ) (part : Rule) (old now new : List ℕ) → i < length parts → part ≡ get_or parts i part → SoFarInSequence parts i old now → GivesFirsts part now new true → SoFarInSequence parts (i + 1) old new
sequence_goes_on parts i part old now new below is so_far gives = record { so_far = sequence_next parts i part old now new true below is so_far gives }

pub sequence_stops : (parts : List Rule) (i : ℕ) (part : Rule) (old now new : List ℕ) → i < length parts → part ≡ get_or parts i part → SoFarInSequence parts i old now → GivesFirsts part now new false → GivesFirstsOfSequence parts old new false
sequence_stops parts i part old now new below is so_far gives = record { gives = stopped }
  where
    stopped : (actions : List Action) → HasNoEmptySum (sequence_of (map (expression_of actions) parts)) → AppendsFirsts (sequence_of (map (expression_of actions) parts)) old new false
    stopped actions none =
        let xs = map (expression_of actions) parts in
        let one = sequence_next parts i part old now new false below is so_far gives actions none in
        let front = sequence_of (take (i + 1) xs) in
        let more = stops front (drop (i + 1) xs) (sym one.empty_word) in
        let same : fold sequence front (drop (i + 1) xs) ≡ sequence_of xs = sym (fold-append sequence skip (take (i + 1) xs) (drop (i + 1) xs)) ∙ ap sequence_of (take-append-drop (i + 1) xs) in
        subst (λ (x : Expression). AppendsFirsts x old new false) same
        (record { positions = one.positions ∙ ap (λ (k : List ℕ). old ++ k) (sym more.0); empty_word = sym more.1 })

pub sequence_all : (parts : List Rule) (i : ℕ) (old now : List ℕ) → length parts ≤ i → SoFarInSequence parts i old now → GivesFirstsOfSequence parts old now true
sequence_all parts i old now all so_far = record {
  gives = λ actions none.
      subst (λ (xs : List Expression). AppendsFirsts (sequence_of xs) old now true)
      (take_all i (map (expression_of actions) parts) (rw (length-map parts (expression_of actions)) all)) (so_far.so_far actions none);
}

-- The same of a sum.
or_comes : (a b c : Bool) → a ≡ b → c ≡ true → true ≡ (b || c)
or_comes a true c e f = refl
or_comes a false c e f = sym f

or_stays : (a b c : Bool) → a ≡ b → c ≡ false → a ≡ (b || c)
or_stays a true c e f = e
or_stays a false c e f = e ∙ sym f

sum_next : (parts : List Rule) (i : ℕ) (part : Rule) (old now new : List ℕ) (empty here all : Bool) → i < length parts → part ≡ get_or parts i part → SoFarInSum parts i old now empty → GivesFirsts part now new here → ((b c : Bool) → empty ≡ b → here ≡ c → all ≡ (b || c)) → SoFarInSum parts (i + 1) old new all
sum_next parts i part old now new empty here all below is so_far gives or = record { so_far = next }
  where
    next : (actions : List Action) → HasNoEmptySum (choice_of (map (expression_of actions) parts)) → AppendsFirsts (choice_of (take (i + 1) (map (expression_of actions) parts))) old new all
    next actions none =
        let xs = map (expression_of actions) parts in
        let item = item_of actions parts i part below is in
        let within = trees_below actions parts i below in
        let none_here = subst HasNoEmptySum item (none_in_choice xs none i skip within) in
        let one = so_far.so_far actions none in
        let other = gives.gives actions none_here in
        let x = choice_of (take i xs) in
        let y = expression_of actions part in
        subst (λ (z : Expression). AppendsFirsts z old new all) (ap (λ (z : Expression). choice x z) (sym item) ∙ sym (choice_more xs i skip within))
        (record {
          positions = other.positions ∙ ap (λ (k : List ℕ). k ++ firsts y) one.positions ∙ append_assoc old (firsts x) (firsts y);
          empty_word = or (may_be_empty x) (may_be_empty y) one.empty_word other.empty_word;
        })

pub sum_with_empty : (parts : List Rule) (i : ℕ) (part : Rule) (old now new : List ℕ) (empty : Bool) → i < length parts → part ≡ get_or parts i part → SoFarInSum parts i old now empty → GivesFirsts part now new true → SoFarInSum parts (i + 1) old new true
sum_with_empty parts i part old now new empty below is so_far gives = sum_next parts i part old now new empty true true below is so_far gives (λ b c e f. or_comes empty b c e (sym f))

pub sum_without_empty : (parts : List Rule) (i : ℕ) (part : Rule) (old now new : List ℕ) (empty : Bool) → i < length parts → part ≡ get_or parts i part → SoFarInSum parts i old now empty → GivesFirsts part now new false → SoFarInSum parts (i + 1) old new empty
sum_without_empty parts i part old now new empty below is so_far gives = sum_next parts i part old now new empty false empty below is so_far gives (λ b c e f. or_stays empty b c e (sym f))

pub sum_all : (parts : List Rule) (i : ℕ) (old now : List ℕ) (empty : Bool) → length parts ≤ i → SoFarInSum parts i old now empty → GivesFirstsOfSum parts old now empty
sum_all parts i old now empty all so_far = record {
  gives = λ actions none.
      subst (λ (xs : List Expression). AppendsFirsts (choice_of xs) old now empty)
      (take_all i (map (expression_of actions) parts) (rw (length-map parts (expression_of actions)) all)) (so_far.so_far actions none);
}
