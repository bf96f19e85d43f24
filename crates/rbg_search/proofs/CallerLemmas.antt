-- For a search that goes on by `reach` from modifier to modifier: what its question counts, and when it goes too far.
use Rattle.rbg_base.proofs.Common.{◌≡◌, ◌≢◌, ℕ, suc, ◌+◌, ◌<◌, List, [], ◌∷◌, ◌++◌, length, get_or, take, Option, Some, None, refl, sym, ap, ◌∙◌, subst, arith, All, AllPairs, Contains, All-contains, All-take}
use Rattle.std.proofs.lemmas.List.{length-take-le, get_or-take, take_more}
use Rattle.rbg_rules.specs.Meaning.{Expression, switch, IsNumbered, IsModifierAt, IsSwitchAt, Start, after, AbstractGame, AbstractState, point_of, IsLastOf, HasNoEmptySum, Question, try_move, find_move, list_moves, reach, pattern, Item, modifier_at, items_of, GoesTo, AnswersAfter, Opening, IsDeep, IsWide, IsStart}
use Rattle.rbg_rules.proofs.PlaceLemmas.{RunPairs-Runs}
use Rattle.rbg_rules.proofs.TableLemmas.{numbered_action}
use Rattle.rbg_rules.proofs.TrimLemmas.{empty_opening_law}
use Rattle.rbg_flat.specs.Candidates.{MayEnd}
use Rattle.rbg_search.specs.Flat.{IsNext, IsFlatPart}
use Rattle.rbg_search.proofs.Common.{CountsOpenings, IsOverBudget, GoesOn, CountsUpTo, HasRow, IsTooDeep, from_here, somewhere}
use Rattle.rbg_search.proofs.Openings.{switch_modifies, none_left, lifted, reach_opens}
use Rattle.rbg_search.proofs.Counts.{begin_joined, more_joined, counts_such, over_such, weaker, begins_more, all_pairs_take}

-- ---- where one stands

-- A place of a game stands somewhere in its rules.
pub place_start : (rules : Expression) → IsNumbered rules → (last : Option ℕ) → IsLastOf rules last → IsStart rules (point_of last)
place_start rules numbered None is = (rules, refl)
place_start rules numbered (Some i) is = numbered_action rules numbered i is.0 is.1

-- One stands somewhere after a modifier.
pub modifier_start : (rules : Expression) (p : ℕ) → IsModifierAt rules p → IsStart rules (after p)
modifier_start rules p is = (is.action, is.stands)

-- ---- where a question goes

no_prefix : (qs more : List (ℕ × ℕ)) → more ≢ [] → ¬ ([] ≡ qs ++ more)
no_prefix [] more some e = some (sym e)
no_prefix (q ∷ qs) more some e = cc

not_nothing : (q : ℕ × ℕ) (qs : List (ℕ × ℕ)) → (q ∷ qs) ≢ []
not_nothing q qs e = cc

pub find_begins : (game : AbstractGame) (s : AbstractState) (f : Start) → GoesTo game find_move s f []
find_begins game s f = λ qs (more, some, e) answer. no_prefix qs more some e

pub list_begins : (game : AbstractGame) (s : AbstractState) (f : Start) → GoesTo game list_moves s f []
list_begins game s f = tt

pub try_begins : (game : AbstractGame) (s : AbstractState) (f : Start) (q : ℕ × ℕ) (qs : List (ℕ × ℕ)) → GoesTo game (try_move (q ∷ qs)) s f []
try_begins game s f q qs = (q ∷ qs, not_nothing q qs, refl)

pub pattern_begins : (game : AbstractGame) (s : AbstractState) (f : Start) → GoesTo game pattern s f []
pattern_begins game s f = λ qs (more, some, e) answer. no_prefix qs more some e

-- ---- counting over the pairs of a flat part

-- A pair of a list in which all differ is not among those before it.
pub fresh : (xs : List (ℕ × ℕ)) (k : ℕ) (x : ℕ × ℕ) → AllPairs (λ a b. a ≢ b) xs → k < length xs → get_or xs k x ≡ x → ¬ Contains (take k xs) x
fresh xs k x different under is (i, within, there) =
    let size = length-take-le k xs (omega (arith, under)) in
    let less : i < k = omega (arith, size, within) in
    different i k x less under (sym (get_or-take k xs i x less) ∙ there ∙ sym is)

module _ (game : AbstractGame) (numbered : IsNumbered game.rules) where
  -- Where no switch comes next there is no answer yet: `find_move` passes by `finding`.
  pub no_switch_found : {s : AbstractState} {f : Start} {pairs : List (ℕ × ℕ)} {ends : _} → IsFlatPart game s f pairs ends → All (λ q. ¬ IsSwitchAt game.rules q.1) pairs → ¬ AnswersAfter game find_move s f []
  no_switch_found {s} {f} {pairs} part none (m, t, q, on, follows, switches) =
      let next : IsNext game s f t.vertex q = record {
        before = m;
        here = t;
        later = record t { player = switches.player };
        no_modifier = none_left game numbered on.runs;
        runs = RunPairs-Runs on.runs;
        vertex = refl;
        follows = follows;
        modifies = switch_modifies game.rules q switches;
        applies = record { action = switch switches.player; stands = switches.stands; acts = refl };
      } in
      All-contains (λ x. ¬ IsSwitchAt game.rules x.1) pairs (t.vertex, q) none ((part.next t.vertex q).1 next) switches

  -- Where no word may end there is no answer yet: `pattern` passes by `asking`.
  pub no_end_found : {s : AbstractState} {f : Start} → ¬ MayEnd game s f → ¬ AnswersAfter game pattern s f []
  no_end_found no_end (m, t, on, ends) = no_end (record { before = m; here = t; no_modifier = none_left game numbered on.runs; runs = RunPairs-Runs on.runs; ends = ends })

  -- An opening after the modifier is one with the modifier in front.
  pub lifted_after : {question question' : Question} {s later : AbstractState} {f : Start} {v p : ℕ} → GoesOn game question s f v p question' later → (o : List Item) → Opening game question' later (after p) o → Opening game question s f (modifier_at v p ∷ o)
  lifted_after {question} {question'} {s} {later} {f} {v} {p} on o opening = lifted game numbered s later f v p on.next on.applies on.plain question question' on.passes o opening

  -- What `reach` counts is counted before any modifier is done.
  pub counts_begin : {question : Question} {s : AbstractState} {f : Start} {a b : ℕ} → GoesTo game question s f [] → CountsOpenings game reach s f a b → CountsUpTo game question s f [] a b
  counts_begin {question} {s} {f} {a} goes counts = subst (λ (x : ℕ). CountsUpTo game question s f [] a x) (sym counts.sum) (begin_joined game question s f a counts.added goes counts.openings)

  -- One more modifier is done.
  pub counts_more : {question question' : Question} {s later : AbstractState} {f : Start} {v p : ℕ} {done : List (ℕ × ℕ)} {a b c : ℕ} → CountsUpTo game question s f done a b → ¬ Contains done (v, p) → GoesOn game question s f v p question' later → CountsOpenings game question' later (after p) b c → CountsUpTo game question s f (done ++ (v, p) ∷ []) a c
  counts_more {question} {question'} {s} {later} {f} {v} {p} {done} {a} {b} counts once on more =
      subst (λ (x : ℕ). CountsUpTo game question s f (done ++ (v, p) ∷ []) a x) (sym more.sum)
      (more_joined game numbered s later f v p on.next on.applies on.plain question question' on.passes done a b more.added counts once more.openings)

  -- A modifier after which nothing is counted is done.
  pub counts_weaker : {question : Question} {s : AbstractState} {f : Start} {done : List (ℕ × ℕ)} {a b : ℕ} → CountsUpTo game question s f done a b → (more : List (ℕ × ℕ)) → CountsUpTo game question s f (done ++ more) a b
  counts_weaker {done = done} counts more = weaker counts (done ++ more) (begins_more done more)

  -- The same where the modifiers that are done are the first ones of a list.
  pub counts_taken : {question question' : Question} {s later : AbstractState} {f : Start} {v p a b c : ℕ} (xs : List (ℕ × ℕ)) (k : ℕ) → CountsUpTo game question s f (take k xs) a b → AllPairs (λ x y. x ≢ y) xs → k < length xs → get_or xs k (v, p) ≡ (v, p) → GoesOn game question s f v p question' later → CountsOpenings game question' later (after p) b c → CountsUpTo game question s f (take (k + 1) xs) a c
  counts_taken {question} {s = s} {f = f} {v = v} {p = p} {a = a} {c = c} xs k counts different under is on more =
      let one_more : take (k + 1) xs ≡ take k xs ++ (v, p) ∷ [] = take_more xs k (v, p) under ∙ ap (λ (x : ℕ × ℕ). take k xs ++ x ∷ []) is in
      subst (λ (done : List (ℕ × ℕ)). CountsUpTo game question s f done a c) (sym one_more) (counts_more counts (fresh xs k (v, p) different under is) on more)

  -- In the end they are openings of the question.
  pub counts_end : {question : Question} {s : AbstractState} {f : Start} {done : List (ℕ × ℕ)} {a b : ℕ} → CountsUpTo game question s f done a b → CountsOpenings game question s f a b
  counts_end counts = counts_such counts

  -- The count of `reach` alone.
  pub counts_reached : {question : Question} {s : AbstractState} {f : Start} {a b : ℕ} → GoesTo game question s f [] → CountsOpenings game reach s f a b → CountsOpenings game question s f a b
  counts_reached goes counts = counts_end (counts_begin goes counts)

  -- ---- more openings than are allowed

  -- .. among those of `reach`, and among those after a modifier.
  pub over_begin : {question : Question} {s : AbstractState} {f : Start} {a most : ℕ} → GoesTo game question s f [] → IsOverBudget game reach s f a most → IsOverBudget game question s f a most
  over_begin {question} {s} {f} {a} goes over =
      over_such (begin_joined game question s f a over.added goes over.openings) _ over.more

  pub over_more : {question question' : Question} {s later : AbstractState} {f : Start} {v p : ℕ} {done : List (ℕ × ℕ)} {a b most : ℕ} → CountsUpTo game question s f done a b → ¬ Contains done (v, p) → GoesOn game question s f v p question' later → IsOverBudget game question' later (after p) b most → IsOverBudget game question s f a most
  over_more {question} {question'} {s} {later} {f} {v} {p} {done} {a} {b} counts once on over =
      over_such (more_joined game numbered s later f v p on.next on.applies on.plain question question' on.passes done a b over.added counts once over.openings) _ over.more

  pub over_taken : {question question' : Question} {s later : AbstractState} {f : Start} {v p a b most : ℕ} (xs : List (ℕ × ℕ)) (k : ℕ) → CountsUpTo game question s f (take k xs) a b → AllPairs (λ x y. x ≢ y) xs → k < length xs → get_or xs k (v, p) ≡ (v, p) → GoesOn game question s f v p question' later → IsOverBudget game question' later (after p) b most → IsOverBudget game question s f a most
  over_taken {v = v} {p = p} xs k counts different under is on over = over_more counts (fresh xs k (v, p) different under is) on over

  -- A count from nothing that is over the budget shows that the question is wide.
  pub over_wide : {question : Question} {s : AbstractState} {f : Start} {most : ℕ} → IsOverBudget game question s f 0 most → IsWide game question s f most
  over_wide {question} {s} {f} {most} over =
      let has = over.openings in record {
        openings = take (most + 1) has.openings;
        different = all_pairs_take (λ o o'. o ≢ o') (most + 1) has.openings has.different;
        opened = All-take (Opening game question s f) (most + 1) has.openings has.opened;
        count = length-take-le (most + 1) has.openings (omega (arith, over.more, has.count));
      }

  -- ---- too many modifiers in a row

  pub deep_begin : {question : Question} {s : AbstractState} {f : Start} {most : ℕ} → GoesTo game question s f [] → IsDeep game reach s f most → IsDeep game question s f most
  deep_begin {question} {s} {f} goes deep = record {
    before = deep.before;
    row = deep.row;
    later = deep.later;
    opened = reach_opens game question s f goes (deep.before ++ items_of deep.row ++ deep.later) deep.opened;
    count = deep.count;
  }

  -- Where none is left to take, one is already too many.
  pub row_none : {question : Question} {s : AbstractState} {f : Start} → HasNoEmptySum game.rules → IsStart game.rules f → question ≢ try_move [] → HasRow game question s f 0
  row_none {question} {s} {f} none start other = record { row = []; later = []; opened = empty_opening_law game none f start question other s; count = refl }

  pub row_more : {question question' : Question} {s later : AbstractState} {f : Start} {v p n : ℕ} → GoesOn game question s f v p question' later → HasRow game question' later (after p) n → HasRow game question s f (suc n)
  row_more {v = v} {p = p} on has = record { row = (v, p) ∷ has.row; later = has.later; opened = lifted_after on (items_of has.row ++ has.later) has.opened; count = row_count has.row has.count }
    where
      row_count : (row : List (ℕ × ℕ)) {n : ℕ} → length row ≡ n → length ((v, p) ∷ row) ≡ suc n
      row_count row e = omega (arith, e)

  -- A modifier that comes next is a row of one.
  pub row_one : {question question' : Question} {s later : AbstractState} {f : Start} {v p : ℕ} → HasNoEmptySum game.rules → GoesOn game question s f v p question' later → question' ≢ try_move [] → HasRow game question s f 1
  row_one {p = p} none on other = row_more on (row_none none (modifier_start game.rules p on.next.modifies) other)

  pub deep_after : {question question' : Question} {s later : AbstractState} {f : Start} {v p most : ℕ} → GoesOn game question s f v p question' later → IsDeep game question' later (after p) most → IsDeep game question s f most
  deep_after {v = v} {p = p} on deep = record {
    before = modifier_at v p ∷ deep.before;
    row = deep.row;
    later = deep.later;
    opened = lifted_after on (deep.before ++ items_of deep.row ++ deep.later) deep.opened;
    count = deep.count;
  }

  pub deep_more : {question question' : Question} {s later : AbstractState} {f : Start} {v p left most : ℕ} → GoesOn game question s f v p question' later → IsTooDeep game question' later (after p) left most → IsTooDeep game question s f (suc left) most
  deep_more on (from_here has) = from_here (row_more on has)
  deep_more on (somewhere deep) = somewhere (deep_after on deep)

  pub too_deep : {question : Question} {s : AbstractState} {f : Start} {most : ℕ} → IsTooDeep game question s f most most → IsDeep game question s f most
  too_deep (from_here has) = record { before = []; row = has.row; later = has.later; opened = has.opened; count = has.count }
  too_deep (somewhere deep) = deep

  -- ---- one modifier alone is followed

  nothing_there : (x : ℕ × ℕ) → ¬ Contains [] x
  nothing_there x (k, within, there) = absurd (omega (arith, within))

  pub counts_on : {question question' : Question} {s later : AbstractState} {f : Start} {v p a b c : ℕ} → GoesTo game question s f [] → CountsOpenings game reach s f a b → GoesOn game question s f v p question' later → CountsOpenings game question' later (after p) b c → CountsOpenings game question s f a c
  counts_on {v = v} {p = p} goes counts on more = counts_end (counts_more (counts_begin goes counts) (nothing_there (v, p)) on more)

  pub over_on : {question question' : Question} {s later : AbstractState} {f : Start} {v p a b most : ℕ} → GoesTo game question s f [] → CountsOpenings game reach s f a b → GoesOn game question s f v p question' later → IsOverBudget game question' later (after p) b most → IsOverBudget game question s f a most
  over_on {v = v} {p = p} goes counts on over = over_more (counts_begin goes counts) (nothing_there (v, p)) on over
