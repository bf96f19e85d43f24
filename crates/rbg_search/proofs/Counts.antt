-- Openings after one modifier after another, counted together.
use Rattle.rbg_base.proofs.Common.{◌≡◌, ◌≢◌, ℕ, suc, ◌+◌, ◌<◌, List, [], ◌∷◌, ◌++◌, length, get_or, map, take, refl, sym, ap, subst, arith, All, AllPairs, Contains, All-append, All-weaker, All-map, All-tail, Contains-append_left, Contains-push}
use Rattle.std.proofs.lemmas.List.{length-append, length-map, length-take, get_or-take}
use Rattle.std.proofs.lemmas.List.Kept.{AllPairs-cons}
use Rattle.rbg_rules.specs.Meaning.{IsNumbered, IsSwitchAt, Start, after, AbstractGame, AbstractState, Applies, Question, reach, Item, modifier_at, pattern_at, items_of, GoesTo, Opening, at, beyond, HasOpenings}
use Rattle.rbg_search.proofs.Along.{IsNext, at_vertex}
use Rattle.rbg_search.proofs.Common.{CountsOpenings, IsOverBudget, Passes, BeginsAmong, CountsBeginning, CountsUpTo}
use Rattle.rbg_search.proofs.Openings.{lifted, reach_opens}

module _ {X : Type 0} (R : X → X → Type 0) where
  pub all_pairs_tail : (x : X) (xs : List X) → AllPairs R (x ∷ xs) → AllPairs R xs
  all_pairs_tail x xs all = λ i j d less within. all (suc i) (suc j) d (omega (arith, less)) (omega (arith, within))

  pub all_pairs_head : (x : X) (xs : List X) → AllPairs R (x ∷ xs) → All (R x) xs
  all_pairs_head x xs all = λ k d within. all 0 (suc k) d (omega arith) (omega (arith, within))

  pub all_pairs_append : (xs ys : List X) → AllPairs R xs → AllPairs R ys → All (λ x. All (R x) ys) xs → AllPairs R (xs ++ ys)
  all_pairs_append [] ys first second cross = second
  all_pairs_append (x ∷ xs) ys first second cross =
      AllPairs-cons R x (xs ++ ys)
      (All-append (R x) xs ys (all_pairs_head x xs first) (cross 0 x (omega arith)))
      (all_pairs_append xs ys (all_pairs_tail x xs first) second (All-tail (λ x. All (R x) ys) x xs cross))

  pub all_pairs_take : (n : ℕ) (xs : List X) → AllPairs R xs → AllPairs R (take n xs)
  all_pairs_take n xs all = λ i j d less within.
      let size = length-take n xs in
      let under : j < n = omega (arith, size, within) in
      let inside : j < length xs = omega (arith, size, within) in
      let first = get_or-take n xs i d (omega (arith, less, under)) in
      let second = get_or-take n xs j d under in
      subst (λ (x : X). R x (get_or (take n xs) j d)) (sym first) (subst (λ (y : X). R (get_or xs i d) y) (sym second) (all i j d less inside))

-- Lists that differ still do with the same item in front.
abbrev pub Differ : List (List Item) → Type 0
Differ os = AllPairs (λ o o'. o ≢ o') os

cons_differs : (x : Item) (o o' : List Item) → o ≢ o' → (x ∷ o) ≢ (x ∷ o')
cons_differs x o o' differ e = differ cc

pub differ_after : (x : Item) (os : List (List Item)) → Differ os → Differ (map (λ o. x ∷ o) os)
differ_after x [] differ = differ
differ_after x (o ∷ os) differ =
    AllPairs-cons (λ o o'. o ≢ o') (x ∷ o) (map (λ o. x ∷ o) os)
    (All-map (λ o'. (x ∷ o) ≢ o') (λ o. x ∷ o) os (All-weaker (λ o'. o ≢ o') (λ o'. (x ∷ o) ≢ (x ∷ o')) (λ o' ne. cons_differs x o o' ne) os (all_pairs_head (λ o o'. o ≢ o') o os differ)))
    (differ_after x os (all_pairs_tail (λ o o'. o ≢ o') o os differ))

pub begins_more : (done more : List (ℕ × ℕ)) (o : List Item) → BeginsAmong done o → BeginsAmong (done ++ more) o
begins_more done more [] begins = tt
begins_more done more (modifier_at v p ∷ o) begins = Contains-append_left done more (v, p) begins
begins_more done more (pattern_at v p ∷ o) begins = tt

-- An opening of `reach` begins with no modifier.
pub reach_begins : (game : AbstractGame) (s : AbstractState) (f : Start) (done : List (ℕ × ℕ)) (o : List Item) → Opening game reach s f o → BeginsAmong done o
reach_begins game s f done o (at on none) = subst (λ (qs : List (ℕ × ℕ)). BeginsAmong done (items_of qs)) (sym none) tt
reach_begins game s f done o (beyond {t = t} {p = p} {more = more} on none follows is opening) =
    subst (λ (qs : List (ℕ × ℕ)). BeginsAmong done (items_of qs ++ pattern_at t.vertex p ∷ more)) (sym none) tt

-- Openings that are counted, and those of another question with an item in front.
module _ {game : AbstractGame} {question question' : Question} {s s' : AbstractState} {f f' : Start} (Begins : List (ℕ × ℕ) → List Item → Type 0) (done done' : List (ℕ × ℕ)) (x : Item) (lift : (o : List Item) → Opening game question' s' f' o → Opening game question s f (x ∷ o)) (once : (o : List Item) → ¬ Begins done (x ∷ o)) (still : (o : List Item) → Begins done o → Begins done' o) (first : (o : List Item) → Begins done' (x ∷ o)) where
  pub joined : (a b n : ℕ) → CountsBeginning Begins game question s f done a b → HasOpenings game question' s' f' n → CountsBeginning Begins game question s f done' a (b + n)
  joined a b n counts has =
      let front : List Item → List Item = λ o. x ∷ o in
      let new : List (List Item) = map front has.openings in record {
        openings = counts.openings ++ new;
        different = all_pairs_append (λ o o'. o ≢ o') counts.openings new counts.different (differ_after x has.openings has.different)
            (All-weaker (Begins done) (λ o. All (λ o'. o ≢ o') new)
            (λ o begins. All-map (λ o'. o ≢ o') front has.openings (λ k d within. λ e. once (get_or has.openings k d) (subst (Begins done) e begins)))
            counts.openings counts.begin);
        opened = All-append (Opening game question s f) counts.openings new counts.opened
            (All-map (Opening game question s f) front has.openings
            (All-weaker (Opening game question' s' f') (λ o. Opening game question s f (front o)) lift has.openings has.opened));
        begin = All-append (Begins done') counts.openings new
            (All-weaker (Begins done) (Begins done') still counts.openings counts.begin)
            (All-map (Begins done') front has.openings (λ k d within. first (get_or has.openings k d)));
        sum = joined_sum counts.openings has.openings counts.sum has.count;
      }
    where
      joined_sum : (os os' : List (List Item)) → b ≡ a + length os → length os' ≡ n → b + n ≡ a + length (os ++ map (λ o. x ∷ o) os')
      joined_sum os os' first second =
          let both = length-append os (map (λ (o : List Item). x ∷ o) os') in
          let mapped = length-map os' (λ (o : List Item). x ∷ o) in
          omega (arith, first, second, both, mapped)

-- What is counted, with less said of how it begins, and as openings of the question.
module _ {Begins : List (ℕ × ℕ) → List Item → Type 0} {game : AbstractGame} {question : Question} {s : AbstractState} {f : Start} {done : List (ℕ × ℕ)} {a b : ℕ} (counts : CountsBeginning Begins game question s f done a b) where
  pub weaker : (done' : List (ℕ × ℕ)) → ((o : List Item) → Begins done o → Begins done' o) → CountsBeginning Begins game question s f done' a b
  weaker done' still = record {
    openings = counts.openings;
    different = counts.different;
    opened = counts.opened;
    begin = All-weaker (Begins done) (Begins done') still counts.openings counts.begin;
    sum = counts.sum;
  }

  pub has_counted : HasOpenings game question s f (length counts.openings)
  has_counted = record { openings = counts.openings; different = counts.different; opened = counts.opened; count = refl }

  -- In the end they are openings of the question.
  pub counts_such : CountsOpenings game question s f a b
  counts_such = record { added = length counts.openings; sum = counts.sum; openings = has_counted }

  -- They may be more than are allowed.
  pub over_such : (most : ℕ) → most < b → IsOverBudget game question s f a most
  over_such most over = record { added = length counts.openings; more = omega (arith, over, counts.sum); openings = has_counted }

module _ (game : AbstractGame) where
  pub begin_joined : (question : Question) (s : AbstractState) (f : Start) (a n : ℕ) → GoesTo game question s f [] → HasOpenings game reach s f n → CountsUpTo game question s f [] a (a + n)
  begin_joined question s f a n goes has = record {
    openings = has.openings;
    different = has.different;
    opened = All-weaker (Opening game reach s f) (Opening game question s f) (λ o opening. reach_opens game question s f goes o opening) has.openings has.opened;
    begin = All-weaker (Opening game reach s f) (BeginsAmong []) (λ o opening. reach_begins game s f [] o opening) has.openings has.opened;
    sum = ap (λ (x : ℕ). a + x) (sym has.count);
  }

  pub more_joined : (numbered : IsNumbered game.rules) (s later : AbstractState) (f : Start) (v p : ℕ) → IsNext game s f v p → Applies game p (at_vertex s v) later → ¬ IsSwitchAt game.rules p → (question question' : Question) → Passes game s f v p question question' → (done : List (ℕ × ℕ)) (a b n : ℕ) → CountsUpTo game question s f done a b → ¬ Contains done (v, p) → HasOpenings game question' later (after p) n → CountsUpTo game question s f (done ++ (v, p) ∷ []) a (b + n)
  more_joined numbered s later f v p next applies plain question question' passes done a b n counts once has =
      joined BeginsAmong done (done ++ (v, p) ∷ []) (modifier_at v p)
      (lifted game numbered s later f v p next applies plain question question' passes)
      (λ o there. once there) (begins_more done ((v, p) ∷ [])) (λ o. Contains-push done (v, p)) a b n counts has
