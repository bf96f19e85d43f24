-- Pairs that are taken one after another, in an order that isn't that of their list.
use Rattle.rbg_base.proofs.Common.{◌≡◌, ℕ, suc, ◌+◌, ◌-◌, ◌<◌, ◌≤◌, List, [], ◌∷◌, ◌++◌, length, get_or, take, Bool, true, false, sym, ap, ◌∙◌, subst, append_assoc, append-nil, arith, IsTrue, ◌↔◌, All, Contains, IsPermutation, get_or-append_seam, take-append_seam, All-push, All-contains, Contains-get_or}
use Rattle.std.proofs.lemmas.List.{length-append, take_more}
use Rattle.std.proofs.lemmas.List.Sorted.{IsPermutation-sym, IsPermutation-trans, IsPermutation-append_right, Contains-permutation, All-permutation, length_permutation}
use Rattle.rbg_rules.specs.Meaning.{IsNumbered, Start, after, AbstractGame, AbstractState, Applies, pattern}
use Rattle.rbg_state.specs.History.{History}
use Rattle.rbg_search.proofs.Along.{IsNext, at_vertex}
use Rattle.rbg_search.proofs.Common.{Searching, CountsForced, TakesAfter, CountsUpTo, CountsPairs, CountsTaken, GoesAfter, IsCounted, RunsAfterPair, SomeRunsAfter}
use Rattle.rbg_search.proofs.CountedSteps.{AfterStep, one_beyond, one_too_many}
use Rattle.rbg_search.proofs.ForcingSteps.{one_forced}
use Rattle.rbg_search.proofs.Orders.{still_differ}
use Rattle.rbg_search.proofs.TakingSteps.{one_takes}

abbrev Pairs : Type 0
Pairs = List (ℕ × ℕ)

-- ---- the list: some were taken, one is taken now, and the others are left

module _ (done left : Pairs) (q : ℕ × ℕ) where
  abbrev pub turned : List (ℕ × ℕ)
  turned = done ++ q ∷ left

  pub turn_under : length done < length turned
  turn_under = let size = length-append done (q ∷ left) in omega (arith, size)

  pub turn_at : (d : ℕ × ℕ) → get_or turned (length done) d ≡ q
  turn_at d = get_or-append_seam done q left d

  pub turn_front : take (length done) turned ≡ done
  turn_front = take-append_seam done (q ∷ left)

  pub turn_more : take (length done + 1) turned ≡ done ++ q ∷ []
  turn_more = take_more turned (length done) q turn_under ∙ (λ i. turn_front i ++ turn_at q i ∷ [])

  pub turn_rest : (done ++ q ∷ []) ++ left ≡ turned
  turn_rest = append_assoc done (q ∷ []) left

-- The one that is taken, and the ones that are left, are those of the list.
pub turn_moves : (first done old left : Pairs) (q : ℕ × ℕ) → IsPermutation first (done ++ old) → IsPermutation old (q ∷ left) → IsPermutation first (turned done left q)
turn_moves first done old left q whole taken = IsPermutation-trans first (done ++ old) (done ++ q ∷ left) whole (IsPermutation-append_right done old (q ∷ left) taken)

pub turn_after : (first done old left : Pairs) (q : ℕ × ℕ) → IsPermutation first (done ++ old) → IsPermutation old (q ∷ left) → IsPermutation first ((done ++ q ∷ []) ++ left)
turn_after first done old left q whole taken = subst (IsPermutation first) (sym (turn_rest done left q)) (turn_moves first done old left q whole taken)

pub turn_there : (first done old left : Pairs) (q : ℕ × ℕ) → IsPermutation first (done ++ old) → IsPermutation old (q ∷ left) → Contains first q
turn_there first done old left q whole taken =
    let all : Pairs = turned done left q in
    let here : Contains all q = subst (Contains all) (turn_at done left q q) (Contains-get_or all (length done) q (turn_under done left q)) in
    Contains-permutation all first q (IsPermutation-sym first all (turn_moves first done old left q whole taken)) here

pub turn_end : (first done old : Pairs) → IsPermutation first (done ++ old) → old ≡ [] → IsPermutation first done
turn_end first done old whole none = subst (IsPermutation first) (ap (λ (ps : Pairs). done ++ ps) none ∙ append-nil done) whole

pub none_left : (done old : Pairs) → old ≡ [] → done ≡ done ++ old
none_left done old none = sym (ap (λ (ps : Pairs). done ++ ps) none ∙ append-nil done)

pub turn_fewer : (old left : Pairs) (q : ℕ × ℕ) → IsPermutation old (q ∷ left) → length left < length old
turn_fewer old left q taken = let same = length_permutation old (q ∷ left) taken in omega (arith, same)

-- ---- what is so of the modifiers, in another order

pub goes_permuted : (game : AbstractGame) (s : AbstractState) (f : Start) (xs ys : Pairs) → IsPermutation xs ys → GoesAfter game s f xs → GoesAfter game s f ys
goes_permuted game s f xs ys moves goes = record {
  lawful = goes.lawful;
  inside = goes.inside;
  no_end = goes.no_end;
  next = All-permutation (λ (r : ℕ × ℕ). IsNext game s f r.0 r.1) xs ys moves goes.next;
  different = still_differ xs ys moves goes.different;
}

pub ran_permuted : (game : AbstractGame) (cut : Bool) (s : AbstractState) (xs ys : Pairs) (a b left most : ℕ) → IsPermutation xs ys → TakesAfter game cut pattern s ys a b left most → TakesAfter game cut pattern s xs a b left most
ran_permuted game cut s xs ys a b left most moves takes = record {
  openings = takes.openings;
  all = λ v p later o there plain applies forced. takes.all v p later o (Contains-permutation xs ys (v, p) moves there) plain applies forced;
  fits = takes.fits;
  few = λ v p later o there plain applies forced. takes.few v p later o (Contains-permutation xs ys (v, p) moves there) plain applies forced;
}

true_not_false : true ≡ false → ⊥
true_not_false e = cc

pub turn_none : (game : AbstractGame) (s : AbstractState) (done : Pairs) (q : ℕ × ℕ) (runs : Bool) → All (λ r. ¬ RunsAfterPair game s r.0 r.1) done → IsTrue runs ↔ RunsAfterPair game s q.0 q.1 → runs ≡ false → All (λ r. ¬ RunsAfterPair game s r.0 r.1) (done ++ q ∷ [])
turn_none game s done q runs none decides is = All-push (λ r. ¬ RunsAfterPair game s r.0 r.1) done q none (λ beyond. true_not_false (sym (decides.1 beyond) ∙ is))

pub turn_some : (game : AbstractGame) (s : AbstractState) (first : Pairs) (q : ℕ × ℕ) (runs : Bool) → Contains first q → IsTrue runs ↔ RunsAfterPair game s q.0 q.1 → runs ≡ true → IsTrue true ↔ SomeRunsAfter game s first
turn_some game s first q runs there decides is = (
  (λ _. record { vertex = q.0; position = q.1; there = there; beyond = decides.0 is }),
  (λ _. λ i. true),
)

pub none_of_all : (game : AbstractGame) (s : AbstractState) (first done : Pairs) → IsPermutation first done → All (λ r. ¬ RunsAfterPair game s r.0 r.1) done → IsTrue false ↔ SomeRunsAfter game s first
none_of_all game s first done moves none = (
  (λ e. absurd (true_not_false (sym e))),
  (λ some. absurd (All-contains (λ r. ¬ RunsAfterPair game s r.0 r.1) done (some.vertex, some.position) none (Contains-permutation first done (some.vertex, some.position) moves some.there) some.beyond)),
)

-- ---- the question was asked after one more of them

module _ (h k : Searching) (s l : History) (done left : Pairs) (q : ℕ × ℕ) where
  pub turn_beyond : (f : Start) (first : Pairs) (a b more : ℕ) (later : AbstractState) (D W : Type 0) → k ≡ record h { opened = k.opened; taken = k.taken } → l ≡ record s { room = l.room } → IsPermutation first (turned done left q) → GoesAfter h.game s.state f first → Applies h.game q.1 (at_vertex s.state q.0) later → 0 < more → CountsUpTo h.game pattern s.state f done a k.opened → ((t : AbstractState) (n : ℕ) → Applies k.game q.1 (at_vertex l.state q.0) t → more ≡ suc n → IsCounted k.game pattern t (after q.1) k.opened b n k.openings k.modifiers D W) → AfterStep h s.state f (done ++ q ∷ []) a b more D W
  turn_beyond f first a b more later D W kept given moves goes applies some counts beyond =
      let all : Pairs = turned done left q in
      let at : get_or all (length done) q ≡ q = turn_at done left q q in
      subst (λ (ps : Pairs). AfterStep h s.state f ps a b more D W) (turn_more done left q)
      (one_beyond h k s l f all (length done) q a b more later D W kept given (goes_permuted h.game s.state f first all moves goes) (turn_under done left q)
      (subst (λ (r : ℕ × ℕ). Applies h.game r.1 (at_vertex s.state r.0) later) (sym at) applies) some
      (subst (λ (ps : Pairs). CountsUpTo h.game pattern s.state f ps a k.opened) (sym (turn_front done left q)) counts)
      (subst (λ (r : ℕ × ℕ). (t : AbstractState) (n : ℕ) → Applies k.game r.1 (at_vertex l.state r.0) t → more ≡ suc n → IsCounted k.game pattern t (after r.1) k.opened b n k.openings k.modifiers D W) (sym at) beyond))

  pub turn_too_many : (f : Start) (first : Pairs) (a b more : ℕ) (later : AbstractState) (D W : Type 0) → IsPermutation first (turned done left q) → GoesAfter h.game s.state f first → Applies h.game q.1 (at_vertex s.state q.0) later → more ≤ 1 → CountsUpTo h.game pattern s.state f done a b → ¬ W → IsCounted h.game pattern s.state f a b more h.openings h.modifiers D W
  turn_too_many f first a b more later D W moves goes applies few counts wide =
      let all : Pairs = turned done left q in
      one_too_many h s.state f all (length done) q a b more later D W (goes_permuted h.game s.state f first all moves goes) (turn_under done left q)
      (subst (λ (r : ℕ × ℕ). Applies h.game r.1 (at_vertex s.state r.0) later) (sym (turn_at done left q q)) applies) few
      (subst (λ (ps : Pairs). CountsUpTo h.game pattern s.state f ps a b) (sym (turn_front done left q)) counts) wide

  pub record TurnForced (a b c more : ℕ) : Type 0 where
    pub grows : b ≤ c
    pub forced : (cut : Bool) → IsNumbered h.game.rules → TakesAfter h.game cut pattern s.state done a b more h.modifiers → TakesAfter h.game cut pattern s.state (done ++ q ∷ []) a c more h.modifiers

  pub turn_forced : (a b more : ℕ) (later : AbstractState) → k ≡ record h { opened = k.opened; taken = k.taken } → l ≡ record s { room = l.room } → Applies h.game q.1 (at_vertex s.state q.0) later → 1 < more → ((cut : Bool) (t : AbstractState) → Applies k.game q.1 (at_vertex l.state q.0) t → CountsForced k.game cut pattern t (after q.1) k.opened b (more - 1) k.modifiers) → TurnForced a k.opened b more
  turn_forced a b more later kept given applies some beyond =
      let all : Pairs = turned done left q in
      let at : get_or all (length done) q ≡ q = turn_at done left q q in
      let one = one_forced h k s l all (length done) q a b more later kept given (turn_under done left q)
      (subst (λ (r : ℕ × ℕ). Applies h.game r.1 (at_vertex s.state r.0) later) (sym at) applies) some
      (subst (λ (r : ℕ × ℕ). (cut : Bool) (t : AbstractState) → Applies k.game r.1 (at_vertex l.state r.0) t → CountsForced k.game cut pattern t (after r.1) k.opened b (more - 1) k.modifiers) (sym at) beyond) in
      record {
        grows = one.grows;
        forced = λ cut numbered takes.
            subst (λ (ps : Pairs). TakesAfter h.game cut pattern s.state ps a b more h.modifiers) (turn_more done left q)
            (one.forced cut numbered (subst (λ (ps : Pairs). TakesAfter h.game cut pattern s.state ps a k.opened more h.modifiers) (sym (turn_front done left q)) takes));
      }

  pub turn_takes : {H : Type 0} (f : Start) (first : Pairs) (b w : ℕ) (later : AbstractState) (A : Type 0) → k ≡ record h { opened = k.opened; taken = k.taken } → l ≡ record s { room = l.room } → IsPermutation first (turned done left q) → GoesAfter h.game s.state f first → Applies h.game q.1 (at_vertex s.state q.0) later → CountsPairs h.game pattern s.state f h.opened k.opened h.taken k.taken (Unit {0}) → ((t : AbstractState) → Applies k.game q.1 (at_vertex l.state q.0) t → CountsTaken k.game pattern t (after q.1) k.opened b k.taken w A H) → CountsTaken h.game pattern s.state f h.opened b h.taken w A H
  turn_takes {H = H} f first b w later A kept given moves goes applies so_far beyond =
      let all : Pairs = turned done left q in
      let at : get_or all (length done) q ≡ q = turn_at done left q q in
      one_takes h k s l f all (length done) q b w later A kept given (goes_permuted h.game s.state f first all moves goes) (turn_under done left q)
      (subst (λ (r : ℕ × ℕ). Applies h.game r.1 (at_vertex s.state r.0) later) (sym at) applies) so_far
      (subst (λ (r : ℕ × ℕ). (t : AbstractState) → Applies k.game r.1 (at_vertex l.state r.0) t → CountsTaken k.game pattern t (after r.1) k.opened b k.taken w A H) (sym at) beyond)
