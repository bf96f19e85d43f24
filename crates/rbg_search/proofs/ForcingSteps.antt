-- Each step of a search that takes forced openings up, by what it began with.
use Rattle.std.proofs.Common.{◌≡◌, ℕ, ◌+◌, ◌-◌, ◌<◌, ◌≤◌, List, ◌∷◌, [], ◌++◌, length, get_or, take, Bool, true, false, refl, arith, Contains, IsTrue, ◌↔◌}
use Rattle.rbg_rules.specs.Meaning.{IsNumbered, IsPatternAt, inside, Start, beginning, after, AbstractGame, AbstractState, Applies, SomeWordRuns, reach, pattern}
use Rattle.rbg_state.specs.History.{History}
use Rattle.rbg_search.proofs.Along.{IsFlatPart, at_vertex}
use Rattle.rbg_search.proofs.Common.{CountsForced, TakesAfter, Searching, AsksForced, RanAfter}
use Rattle.rbg_search.proofs.Counted.{onward_search, search_before}
use Rattle.rbg_search.proofs.Forcing.{asks_more, takes_on, word_forced, no_word_forced}

-- A pattern was asked in a flat part.
pub ask_forced : (h k : Searching) (s u : History) (done done' : List (ℕ × ℕ)) (v p a b : ℕ) (cut : Bool) → k ≡ record h { opened = k.opened; taken = k.taken } → u ≡ record s { room = u.room } → IsNumbered h.game.rules → ((w q : ℕ) → Contains done' (w, q) → IsPatternAt k.game.rules q → Contains done (w, q)) → AsksForced h.game cut s.state done a k.opened h.modifiers → CountsForced k.game cut pattern (at_vertex u.state v) (beginning (inside p)) k.opened b k.modifiers k.modifiers → AsksForced h.game cut s.state (done' ++ (v, p) ∷ []) a b h.modifiers
ask_forced h k s u done done' v p a b cut kept given numbered quiet asks more =
    asks_more h.game numbered cut s.state done done' v p a k.opened b h.modifiers
    (search_before (λ y w. (x q : ℕ) → Contains done' (x, q) → IsPatternAt y.game.rules q → Contains done (x, q)) h k s u kept given quiet) asks
    (search_before (λ y w. CountsForced y.game cut pattern (at_vertex w v) (beginning (inside p)) k.opened b y.modifiers y.modifiers) h k s u kept given more)

-- The question was asked after one more of the pairs.
pub record AfterForced (h : Searching) (s : AbstractState) (pairs : List (ℕ × ℕ)) (i a b c left : ℕ) : Type 0 where
  pub grows : b ≤ c
  pub forced : (cut : Bool) → IsNumbered h.game.rules → TakesAfter h.game cut pattern s (take i pairs) a b left h.modifiers → TakesAfter h.game cut pattern s (take (i + 1) pairs) a c left h.modifiers

pub one_forced : (h k : Searching) (s l : History) (pairs : List (ℕ × ℕ)) (i : ℕ) (d : ℕ × ℕ) (a b left : ℕ) (later : AbstractState) → k ≡ record h { opened = k.opened; taken = k.taken } → l ≡ record s { room = l.room } → i < length pairs → Applies h.game (get_or pairs i d).1 (at_vertex s.state (get_or pairs i d).0) later → 1 < left → ((cut : Bool) (t : AbstractState) → Applies k.game (get_or pairs i d).1 (at_vertex l.state (get_or pairs i d).0) t → CountsForced k.game cut pattern t (after (get_or pairs i d).1) k.opened b (left - 1) k.modifiers) → AfterForced h s.state pairs i a k.opened b left
one_forced h k s l pairs i d a b left later kept given under applies some beyond =
    let x : ℕ × ℕ = get_or pairs i d in
    let applies' : Applies k.game x.1 (at_vertex l.state x.0) later = onward_search (λ y w. Applies y.game x.1 (at_vertex w x.0) later) h k s l kept given applies in
    let first = beyond true later applies' in
    record {
      grows = omega (arith, first.fits);
      forced = λ cut numbered takes.
          takes_on h.game numbered cut pattern s.state pairs i d later a k.opened b left h.modifiers under applies some takes
          (search_before (λ y w. CountsForced y.game cut pattern later (after x.1) k.opened b (left - 1) y.modifiers) h k s l kept given (beyond cut later applies'));
    }

pub ran_some : (game : AbstractGame) (s : AbstractState) (pairs : List (ℕ × ℕ)) (a b left most : ℕ) → a ≤ b → RanAfter game s pairs true a b left most
ran_some game s pairs a b left most grows = record { grows = grows; forced = λ cut numbered is. absurd (true_not_false is) }
  where
    true_not_false : true ≡ false → ⊥
    true_not_false e = cc

-- A pattern's question, where the flat part didn't answer it.
pub asked_forced : (game : AbstractGame) → IsNumbered game.rules → (s : AbstractState) (f : Start) (pairs : List (ℕ × ℕ)) (ends runs : Bool) (a b c left most : ℕ) (cut : Bool) → IsTrue runs ↔ SomeWordRuns game s f → IsFlatPart game s f pairs ends → CountsForced game cut reach s f a b left most → RanAfter game s pairs runs b c left most → CountsForced game cut pattern s f a c left most
asked_forced game numbered s f pairs ends true a b c left most cut decides part counts ran = word_forced game numbered cut s f a b c left most (decides.0 refl) ran.grows counts
asked_forced game numbered s f pairs ends false a b c left most cut decides part counts ran =
    no_word_forced game numbered cut s f pairs ends a b c left most (λ some. false_not_true (decides.1 some)) part counts (ran.forced cut numbered refl)
  where
    false_not_true : false ≡ true → ⊥
    false_not_true e = cc
