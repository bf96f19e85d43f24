-- What each step of a search has counted, and why it gave up.
use Rattle.rbg_base.proofs.Common.{◌≡◌, ◌≢◌, ℕ, suc, ◌+◌, ◌<◌, ◌≤◌, List, [], ◌∷◌, ◌++◌, length, get_or, take, Bool, false, true, refl, sym, ◌∙◌, subst, arith, All, Contains, Result, Ok, Err, All-weaker, All-contains_itself}
use Rattle.rbg_rules.specs.Meaning.{IsNumbered, IsPatternAt, inside, Start, beginning, after, AbstractGame, AbstractState, Applies, IsGame, Question, try_move, reach, pattern, Item, Opening, IsStart}
use Rattle.rbg_state.specs.History.{History}
use Rattle.rbg_search.proofs.Common.{Searching, CountsOpenings, IsOverBudget, GoesOn, CountsUpTo, somewhere, StandsInPattern, CountsAsked, GoesAfter, IsCounted, Over, Deep, Wide, Memory}
use Rattle.rbg_search.proofs.Along.{IsNext, IsFlatPart, at_vertex, IsReached}
use Rattle.rbg_search.proofs.Patterns.{inside_onward, inside_start}
use Rattle.rbg_search.proofs.CallerLemmas.{pattern_begins, counts_begin, counts_taken, counts_end, over_taken, deep_more, too_deep}
use Rattle.rbg_search.proofs.Countings.{empty_opens, asked_more, asked_end, over_asked, deep_asked, goes_after, one_too_deep}

-- ---- which error it is

pub memory_not_deep : Memory ≢ Deep
memory_not_deep e = cc

pub memory_not_wide : Memory ≢ Wide
memory_not_wide e = cc

pub wide_not_deep : Wide ≢ Deep
wide_not_deep e = cc

pub deep_not_wide : Deep ≢ Wide
deep_not_wide e = cc

pub ok_not_err : {X : Type 0} (x : X) (e : Over) → (let r : Result X Over = Ok x in r) ≢ Err e
ok_not_err x e is = cc

pub same_error : {X : Type 0} (e e' : Over) → (let r : Result X Over = Err e in r) ≡ Err e' → e ≡ e'
same_error e e' is = cc

-- ---- any question

module _ (game : AbstractGame) where
  -- The same with other words for the reasons.
  pub counted_as : (question : Question) (s : AbstractState) (f : Start) (old new left openings modifiers : ℕ) (D W D' W' : Type 0) → (D' → D) → (W' → W) → IsCounted game question s f old new left openings modifiers D W → IsCounted game question s f old new left openings modifiers D' W'
  counted_as question s f old new left openings modifiers D W D' W' deep wide counts = record { counted = counts.counted; deep = λ d. counts.deep (deep d); wide = λ w. counts.wide (wide w) }

  -- Nothing was given up, or not for that.
  pub counted_only : (question : Question) (s : AbstractState) (f : Start) (old new left openings modifiers : ℕ) (D W : Type 0) → CountsOpenings game question s f old new → ¬ D → ¬ W → IsCounted game question s f old new left openings modifiers D W
  counted_only question s f old new left openings modifiers D W counted deep wide = record { counted = counted; deep = λ d. absurd (deep d); wide = λ w. absurd (wide w) }

  -- One opening is taken up, or was refused.
  pub opened_one : IsGame game → (question : Question) → question ≢ try_move [] → (s : AbstractState) (f : Start) → IsStart game.rules f → (old new : ℕ) → new ≡ old + 1 → CountsOpenings game question s f old new
  opened_one lawful question other s f start old new same = record {
    added = 1;
    sum = same;
    openings = record {
      openings = [] ∷ [];
      different = λ i j d less within. absurd (omega (arith, less, within));
      opened = λ k d within. only_first k d (omega (arith, within));
      count = refl;
    };
  }
    where
      only_first : (k : ℕ) (d : List Item) → k ≡ 0 → Opening game question s f (get_or ([] ∷ []) k d)
      only_first k d is = subst (λ (i : ℕ). Opening game question s f (get_or ([] ∷ []) i d)) (sym is) (empty_opens game lawful question other s f start)

  pub refused_one : IsGame game → (question : Question) → question ≢ try_move [] → (s : AbstractState) (f : Start) → IsStart game.rules f → (old openings : ℕ) → openings ≤ old → IsOverBudget game question s f old openings
  refused_one lawful question other s f start old openings under =
      let one = opened_one lawful question other s f start old (old + 1) refl in
      record { added = one.added; more = omega (arith, under, one.sum); openings = one.openings }

  -- ---- a flat part

  module _ (numbered : IsNumbered game.rules) (s : AbstractState) (f : Start) (v p : ℕ) (met : IsReached game s f v p) (is : IsPatternAt game.rules p) (done : List (ℕ × ℕ)) (once : ¬ Contains done (v, p)) where
    -- A pattern was asked, and the question was given up there.
    pub asked_counted : (a b c most openings : ℕ) (D W : Type 0) → CountsAsked game s f done a b → IsCounted game pattern (at_vertex s v) (beginning (inside p)) b c most openings most D W → IsCounted game reach s f a c most openings most D W
    asked_counted a b c most openings D W counts more = record {
      counted = asked_end game s f (done ++ (v, p) ∷ []) a c (asked_more game numbered s f v p met is done a b c counts once more.counted);
      deep = λ d. somewhere (deep_asked game numbered s f v p met is most (too_deep game numbered (more.deep d)));
      wide = λ w. over_asked game numbered s f v p met is done a b openings counts once (more.wide w);
    }

  pub asked_only : (s : AbstractState) (f : Start) (done : List (ℕ × ℕ)) (a b left openings modifiers : ℕ) (D W : Type 0) → CountsAsked game s f done a b → ¬ D → ¬ W → IsCounted game reach s f a b left openings modifiers D W
  asked_only s f done a b left openings modifiers D W counts deep wide = counted_only reach s f a b left openings modifiers D W (asked_end game s f done a b counts) deep wide

  -- ---- a pattern's question

  -- What is found where no word may end goes after.
  pub found_after : IsGame game → (s : AbstractState) (f : Start) (pairs : List (ℕ × ℕ)) (ends : Bool) → StandsInPattern game.rules f → IsFlatPart game s f pairs ends → ends ≡ false → GoesAfter game s f pairs
  found_after lawful s f pairs ends in_one part not_here = record {
    lawful = lawful;
    inside = in_one;
    no_end = λ end. true_not_false (sym (part.may_end.1 end) ∙ not_here);
    next = All-weaker (Contains pairs) (λ q. IsNext game s f q.0 q.1) (λ q h. (part.next q.0 q.1).0 h) pairs (All-contains_itself pairs);
    different = part.different;
  }
    where
      true_not_false : true ≡ false → ⊥
      true_not_false e = cc

  -- After each of them one stands in the pattern too.
  pub found_inside : IsNumbered game.rules → (s : AbstractState) (f : Start) (pairs : List (ℕ × ℕ)) (ends : Bool) → StandsInPattern game.rules f → IsFlatPart game s f pairs ends → All (λ q. StandsInPattern game.rules (after q.1)) pairs
  found_inside numbered s f pairs ends in_one part =
      All-weaker (Contains pairs) (λ q. StandsInPattern game.rules (after q.1))
      (λ q h. let next : IsNext game s f q.0 q.1 = (part.next q.0 q.1).0 h in inside_onward game.rules numbered f in_one next.before q.1 next.follows)
      pairs (All-contains_itself pairs)

  -- ---- after the modifiers of a flat part

  pub after_begin : IsNumbered game.rules → (s : AbstractState) (f : Start) (a b : ℕ) → CountsOpenings game reach s f a b → CountsUpTo game pattern s f [] a b
  after_begin numbered s f a b counts = counts_begin game numbered (pattern_begins game s f) counts

  pub after_only : IsNumbered game.rules → (s : AbstractState) (f : Start) (done : List (ℕ × ℕ)) (a b left openings modifiers : ℕ) (D W : Type 0) → CountsUpTo game pattern s f done a b → ¬ D → ¬ W → IsCounted game pattern s f a b left openings modifiers D W
  after_only numbered s f done a b left openings modifiers D W counts deep wide = counted_only pattern s f a b left openings modifiers D W (counts_end game numbered counts) deep wide

  module _ (s later : AbstractState) (f : Start) (pairs : List (ℕ × ℕ)) (goes : GoesAfter game s f pairs) (k v p : ℕ) (under : k < length pairs) (there : get_or pairs k (v, p) ≡ (v, p)) (applies : Applies game p (at_vertex s v) later) where
    on : GoesOn game pattern s f v p pattern later
    on = goes_after game s later f pairs goes v p (k, under, there) applies

    -- One more of them is done.
    pub after_more : (a b c : ℕ) → CountsUpTo game pattern s f (take k pairs) a b → CountsOpenings game pattern later (after p) b c → CountsUpTo game pattern s f (take (k + 1) pairs) a c
    after_more a b c counts more = counts_taken game goes.lawful.numbered pairs k counts goes.different under there on more

    -- The question was given up after it.
    pub beyond_counted : (a b c left openings modifiers : ℕ) (D W : Type 0) → CountsUpTo game pattern s f (take k pairs) a b → IsCounted game pattern later (after p) b c left openings modifiers D W → IsCounted game pattern s f a c (suc left) openings modifiers D W
    beyond_counted a b c left openings modifiers D W counts more = record {
      counted = counts_end game goes.lawful.numbered (after_more a b c counts more.counted);
      deep = λ d. deep_more game goes.lawful.numbered on (more.deep d);
      wide = λ w. over_taken game goes.lawful.numbered pairs k counts goes.different under there on (more.wide w);
    }

    -- It is given up before it, since one more is too many.
    pub after_deep : (done : List (ℕ × ℕ)) (a b left openings modifiers : ℕ) (D W : Type 0) → left ≤ 1 → CountsUpTo game pattern s f done a b → ¬ W → IsCounted game pattern s f a b left openings modifiers D W
    after_deep done a b left openings modifiers D W at_most counts wide = record {
      counted = counts_end game goes.lawful.numbered counts;
      deep = λ d. one_too_deep game goes.lawful s later f (inside_start game.rules f goes.inside) v p on left modifiers at_most;
      wide = λ w. absurd (wide w);
    }

-- ---- from one moment of a search to another

pub onward_search : (P : Searching → AbstractState → Type 0) (h k : Searching) (s t : History) → k ≡ record h { opened = k.opened; taken = k.taken } → t ≡ record s { room = t.room } → P (record h { opened = k.opened; taken = k.taken }) s.state → P k t.state
onward_search P h k s t kept given x = subst (λ (y : Searching). P y t.state) (sym kept) (subst (λ (y : History). P (record h { opened = k.opened; taken = k.taken }) y.state) (sym given) x)

pub search_before : (P : Searching → AbstractState → Type 0) (h k : Searching) (s t : History) → k ≡ record h { opened = k.opened; taken = k.taken } → t ≡ record s { room = t.room } → P k t.state → P (record h { opened = k.opened; taken = k.taken }) s.state
search_before P h k s t kept given x = subst (λ (y : History). P (record h { opened = k.opened; taken = k.taken }) y.state) given (subst (λ (y : Searching). P y t.state) kept x)
