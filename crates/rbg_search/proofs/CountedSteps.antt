-- Each step of a search that asks, by what it began with.
use Rattle.rbg_base.proofs.Common.{◌≡◌, ◌≢◌, ℕ, suc, ◌+◌, ◌-◌, ◌<◌, ◌≤◌, List, [], ◌∷◌, ◌++◌, length, get_or, take, Bool, false, sym, ap, ◌∙◌, subst, arith, All, Contains, Result, Ok, Err, IsErrAnd, get_or_default}
use Rattle.rbg_rules.specs.Meaning.{IsPatternAt, inside, Start, beginning, after, AbstractGame, AbstractState, Applies, IsGame, Question, reach, pattern, IsDeep}
use Rattle.rbg_state.specs.History.{History}
use Rattle.rbg_search.proofs.Along.{IsFlatPart, at_vertex, IsReached}
use Rattle.rbg_search.proofs.Common.{Searching, CountsOpenings, IsOverBudget, CountsUpTo, IsTooDeep, from_here, somewhere, StandsInPattern, CountsAsked, GoesAfter, IsCounted, Over, Memory}
use Rattle.rbg_search.proofs.CallerLemmas.{pattern_begins}
use Rattle.rbg_search.proofs.Openings.{reach_opens}
use Rattle.rbg_search.proofs.Counts.{begin_joined, counts_such, over_such}
use Rattle.rbg_search.proofs.Countings.{asked_more}
use Rattle.rbg_search.proofs.Counted.{same_error, asked_counted, found_after, found_inside, after_more, beyond_counted, after_deep, search_before, onward_search}

-- ---- which error is handed on

pub returned_is : {X : Type 0} (r : Result X Over) (e e' : Over) → IsErrAnd r (λ y. y ≡ e) → r ≡ Err e' → e ≡ e'
returned_is (Ok x) e e' is back = absurd is
returned_is (Err y) e e' is back = sym is ∙ same_error y e' back

-- The callee gave up for the same reason.
pub given_up : {X Y : Type 0} (callee : Result X Over) (r : Result Y Over) (e e' : Over) → callee ≡ Err e → IsErrAnd r (λ y. y ≡ e) → r ≡ Err e' → callee ≡ Err e'
given_up callee r e e' was is back = was ∙ ap (λ (x : Over). let q = Err x in q) (returned_is r e e' is back)

-- Memory was refused, so it is nothing else.
pub not_memory : {X : Type 0} (r : Result X Over) (e e' : Over) → IsErrAnd r (λ y. y ≡ e) → e ≡ Memory → Memory ≢ e' → ¬ (r ≡ Err e')
not_memory r e e' is memory other back = other (sym memory ∙ returned_is r e e' is back)

-- ---- a flat part

-- A pattern was asked in a flat part.
pub record AskStep (h : Searching) (s : AbstractState) (f : Start) (done : List (ℕ × ℕ)) (a b : ℕ) (D W : Type 0) : Type 0 where
  pub counts : CountsAsked h.game s f done a b
  pub gave_up : IsCounted h.game reach s f a b h.modifiers h.openings h.modifiers D W

pub ask_step_at : (h k : Searching) (s u : History) (f : Start) (done : List (ℕ × ℕ)) (v p a b : ℕ) (D W : Type 0) → k ≡ record h { opened = k.opened; taken = k.taken } → u ≡ record s { room = u.room } → IsGame h.game → IsReached h.game s.state f v p → IsPatternAt h.game.rules p → ¬ Contains done (v, p) → CountsAsked h.game s.state f done a k.opened → IsCounted k.game pattern (at_vertex u.state v) (beginning (inside p)) k.opened b k.modifiers k.openings k.modifiers D W → AskStep h s.state f (done ++ (v, p) ∷ []) a b D W
ask_step_at h k s u f done v p a b D W kept given lawful met is fresh so_far asked =
    let asked_here : IsCounted h.game pattern (at_vertex s.state v) (beginning (inside p)) k.opened b h.modifiers h.openings h.modifiers D W =
    search_before (λ y w. IsCounted y.game pattern (at_vertex w v) (beginning (inside p)) k.opened b y.modifiers y.openings y.modifiers D W) h k s u kept given asked in
    record {
      counts = asked_more h.game lawful.numbered s.state f v p met is done a k.opened b so_far fresh asked_here.counted;
      gave_up = asked_counted h.game lawful.numbered s.state f v p met is done fresh a k.opened b h.modifiers h.openings D W so_far asked_here;
    }

-- The whole number of modifiers in a row is left, so an opening has it.
pub deep_is : (game : AbstractGame) (question : Question) (s : AbstractState) (f : Start) (most : ℕ) → IsTooDeep game question s f most most → IsDeep game question s f most
deep_is game question s f most (from_here has) = record { before = []; row = has.row; later = has.later; opened = has.opened; count = has.count }
deep_is game question s f most (somewhere deep) = deep

-- ---- a pattern's question

deep_all : (game : AbstractGame) (s : AbstractState) (f : Start) (most : ℕ) → IsTooDeep game reach s f most most → IsDeep game pattern s f most
deep_all game s f most (from_here has) = record { before = []; row = has.row; later = has.later; opened = reach_opens game pattern s f (pattern_begins game s f) _ has.opened; count = has.count }
deep_all game s f most (somewhere deep) = record { before = deep.before; row = deep.row; later = deep.later; opened = reach_opens game pattern s f (pattern_begins game s f) _ deep.opened; count = deep.count }

-- What the flat part counts is counted by the question.
pub asks_reached : (game : AbstractGame) (s : AbstractState) (f : Start) (a b left most openings : ℕ) (D W : Type 0) → IsCounted game reach s f a b most openings most D W → IsCounted game pattern s f a b left openings most D W
asks_reached game s f a b left most openings D W counts = record {
  counted = asks_counted counts.counted;
  deep = λ d. somewhere (deep_all game s f most (counts.deep d));
  wide = λ w. asks_wide (counts.wide w);
}
  where
    asks_counted : CountsOpenings game reach s f a b → CountsOpenings game pattern s f a b
    asks_counted has =
        let all = counts_such (begin_joined game pattern s f a has.added (pattern_begins game s f) has.openings) in
        record { added = all.added; sum = has.sum ∙ all.sum; openings = all.openings }

    asks_wide : IsOverBudget game reach s f a openings → IsOverBudget game pattern s f a openings
    asks_wide over = over_such (begin_joined game pattern s f a over.added (pattern_begins game s f) over.openings) openings over.more

-- The search went on after the modifiers that were found.
pub after_step : (h k : Searching) (s l : History) (f : Start) (pairs pairs' : List (ℕ × ℕ)) (ends : Bool) (b left : ℕ) (D W : Type 0) → k ≡ record h { opened = k.opened; taken = k.taken } → l ≡ record s { room = l.room } → pairs' ≡ pairs → IsGame h.game → StandsInPattern h.game.rules f → IsFlatPart h.game s.state f pairs ends → ends ≡ false → CountsOpenings h.game reach s.state f h.opened k.opened → ((e : Start) (a : ℕ) → GoesAfter k.game l.state e pairs' → CountsOpenings k.game reach l.state e a k.opened → IsCounted k.game pattern l.state e a b left k.openings k.modifiers D W) → IsCounted h.game pattern s.state f h.opened b left h.openings h.modifiers D W
after_step h k s l f pairs pairs' ends b left D W kept given same lawful in_one part not_here counts beyond =
    let goes : GoesAfter h.game s.state f pairs' = subst (λ (ps : List (ℕ × ℕ)). GoesAfter h.game s.state f ps) (sym same) (found_after h.game lawful s.state f pairs ends in_one part not_here) in
    search_before (λ y w. IsCounted y.game pattern w f h.opened b left y.openings y.modifiers D W) h k s l kept given
    (beyond f h.opened
    (onward_search (λ y w. GoesAfter y.game w f pairs') h k s l kept given goes)
    (onward_search (λ y w. CountsOpenings y.game reach w f h.opened k.opened) h k s l kept given counts))

pub inside_pairs : (h k : Searching) (s l : History) (f : Start) (pairs pairs' : List (ℕ × ℕ)) (ends : Bool) → k ≡ record h { opened = k.opened; taken = k.taken } → l ≡ record s { room = l.room } → pairs' ≡ pairs → IsGame h.game → StandsInPattern h.game.rules f → IsFlatPart h.game s.state f pairs ends → All (λ q. StandsInPattern k.game.rules (after q.1)) pairs'
inside_pairs h k s l f pairs pairs' ends kept given same lawful in_one part =
    subst (λ (ps : List (ℕ × ℕ)). All (λ q. StandsInPattern k.game.rules (after q.1)) ps) (sym same)
    (onward_search (λ y w. All (λ q. StandsInPattern y.game.rules (after q.1)) pairs) h k s l kept given (found_inside h.game lawful.numbered s.state f pairs ends in_one part))

-- ---- after the modifiers of a flat part

pub record AfterStep (h : Searching) (s : AbstractState) (f : Start) (done : List (ℕ × ℕ)) (a b left : ℕ) (D W : Type 0) : Type 0 where
  pub counts : CountsUpTo h.game pattern s f done a b
  pub gave_up : IsCounted h.game pattern s f a b left h.openings h.modifiers D W

less_one : (n : ℕ) → 0 < n → n ≡ suc (n - 1)
less_one n some = omega (arith, some)

-- The question was asked after one more of the pairs.
pub one_beyond : (h k : Searching) (s l : History) (f : Start) (pairs : List (ℕ × ℕ)) (i : ℕ) (d : ℕ × ℕ) (a b left : ℕ) (later : AbstractState) (D W : Type 0) → k ≡ record h { opened = k.opened; taken = k.taken } → l ≡ record s { room = l.room } → GoesAfter h.game s.state f pairs → i < length pairs → Applies h.game (get_or pairs i d).1 (at_vertex s.state (get_or pairs i d).0) later → 0 < left → CountsUpTo h.game pattern s.state f (take i pairs) a k.opened → ((t : AbstractState) (n : ℕ) → Applies k.game (get_or pairs i d).1 (at_vertex l.state (get_or pairs i d).0) t → left ≡ suc n → IsCounted k.game pattern t (after (get_or pairs i d).1) k.opened b n k.openings k.modifiers D W) → AfterStep h s.state f (take (i + 1) pairs) a b left D W
one_beyond h k s l f pairs i d a b left later D W kept given goes under applies some counts beyond =
    let x : ℕ × ℕ = get_or pairs i d in
    let there : get_or pairs i x ≡ x = get_or_default pairs i x d under in
    let applies' : Applies k.game x.1 (at_vertex l.state x.0) later = onward_search (λ y w. Applies y.game x.1 (at_vertex w x.0) later) h k s l kept given applies in
    let asked : IsCounted h.game pattern later (after x.1) k.opened b (left - 1) h.openings h.modifiers D W =
    search_before (λ y w. IsCounted y.game pattern later (after x.1) k.opened b (left - 1) y.openings y.modifiers D W) h k s l kept given (beyond later (left - 1) applies' (less_one left some)) in
    let gave_up : IsCounted h.game pattern s.state f a b (suc (left - 1)) h.openings h.modifiers D W = beyond_counted h.game s.state later f pairs goes i x.0 x.1 under there applies a k.opened b (left - 1) h.openings h.modifiers D W counts asked in
    record {
      counts = after_more h.game s.state later f pairs goes i x.0 x.1 under there applies a k.opened b counts asked.counted;
      gave_up = subst (λ (n : ℕ). IsCounted h.game pattern s.state f a b n h.openings h.modifiers D W) (sym (less_one left some)) gave_up;
    }

-- One more of the pairs would be too many.
pub one_too_many : (h : Searching) (s : AbstractState) (f : Start) (pairs : List (ℕ × ℕ)) (i : ℕ) (d : ℕ × ℕ) (a b left : ℕ) (later : AbstractState) (D W : Type 0) → GoesAfter h.game s f pairs → i < length pairs → Applies h.game (get_or pairs i d).1 (at_vertex s (get_or pairs i d).0) later → left ≤ 1 → CountsUpTo h.game pattern s f (take i pairs) a b → ¬ W → IsCounted h.game pattern s f a b left h.openings h.modifiers D W
one_too_many h s f pairs i d a b left later D W goes under applies few counts wide =
    let x : ℕ × ℕ = get_or pairs i d in
    after_deep h.game s later f pairs goes i x.0 x.1 under (get_or_default pairs i x d under) applies (take i pairs) a b left h.openings h.modifiers D W few counts wide

-- ---- the question after one modifier, and that of one pattern

pub counted_there : (h : Searching) (later t : AbstractState) (f : Start) (a b n n' : ℕ) (D W D' W' : Type 0) → later ≡ t → n ≡ n' → (D' → D) → (W' → W) → IsCounted h.game pattern t f a b n h.openings h.modifiers D W → IsCounted h.game pattern later f a b n' h.openings h.modifiers D' W'
counted_there h later t f a b n n' D W D' W' same left deep wide counts =
    let here : IsCounted h.game pattern later f a b n' h.openings h.modifiers D W =
    subst (λ (u : AbstractState). IsCounted h.game pattern u f a b n' h.openings h.modifiers D W) (sym same)
    (subst (λ (m : ℕ). IsCounted h.game pattern t f a b m h.openings h.modifiers D W) left counts) in
    record { counted = here.counted; deep = λ d. here.deep (deep d); wide = λ w. here.wide (wide w) }
