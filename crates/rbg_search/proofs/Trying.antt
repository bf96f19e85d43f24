-- A search that tries modifiers in turn, step by step.
use Rattle.rbg_base.proofs.Common.{◌≡◌, ℕ, suc, ◌-◌, ◌<◌, ◌≤◌, List, [], ◌∷◌, ◌++◌, Bool, false, refl, subst, arith, All, Result, Ok, Err, IsOk, IsErrAnd, IsTrue, ◌↔◌, IsPermutation, All-contains}
use Rattle.rbg_rules.specs.Meaning.{AbstractState, Start, after, Applies, reach, pattern}
use Rattle.rbg_state.specs.History.{History}
use Rattle.rbg_search.specs.Closure.{at_vertex}
use Rattle.rbg_search.proofs.Common.{CountsOpenings, CountsForced, Searching, CountsTaken, GoesAfter, IsCounted, IsAsked, IsReady, RunsAfterPair, IsAskedAfter, Stays, TriesAfter, Over, Deep, Memory, Wide}
use Rattle.rbg_search.proofs.Asking.{room_twice}
use Rattle.rbg_search.proofs.Counted.{ok_not_err, same_error, deep_not_wide, counted_as, after_begin, after_only, onward_search, search_before}
use Rattle.rbg_search.proofs.CountedSteps.{AfterStep, given_up}
use Rattle.rbg_search.proofs.Forcing.{takes_none}
use Rattle.rbg_search.proofs.Kept.{kept_twice}
use Rattle.rbg_search.proofs.Takings.{takes_none_yet, takes_as, not_ok, is_answer, held_on, ok_held}
use Rattle.rbg_search.proofs.Turns.{turned, turn_moves, turn_there, turn_beyond, turn_too_many, turn_forced, turn_takes, turn_none}

-- None is done.
pub tries_none : (h : Searching) (s : History) (pairs : List (ℕ × ℕ)) (more : ℕ) → TriesAfter h h s s pairs [] more
tries_none h s pairs more = record {
  stays = record { kept = refl; given_back = refl; room = omega arith };
  none = λ k d within. absurd (omega (arith, within));
  counted = λ f a goes counts. after_begin h.game goes.lawful.numbered s.state f a h.opened counts;
  grows = omega arith;
  forced = λ cut numbered. takes_none h.game numbered cut pattern s.state h.opened h.opened more h.modifiers (omega arith);
  taken = λ f goes. takes_none_yet h.game pattern s.state f h.opened h.opened h.taken h.taken (Unit {0}) refl refl;
}

one_less : (n k : ℕ) → n ≡ suc k → n - 1 ≡ k
one_less n k is = omega (arith, is)

module _ {h k : Searching} {s l : History} {pairs done : List (ℕ × ℕ)} {more : ℕ} (is : TriesAfter h k s l pairs done more) where
  -- All are done.
  pub tries_end : (answer : Bool) → (let r : Result Bool Over = Ok answer in IsAskedAfter h k s l pairs more r)
  tries_end answer = record {
    stays = is.stays;
    counts = λ f a goes counts. after_only h.game goes.lawful.numbered s.state f done a k.opened more h.openings h.modifiers _ _ (is.counted f a goes counts) (ok_not_err answer Deep) (ok_not_err answer Wide);
    taken = λ f goes. takes_as h.game pattern s.state f h.opened k.opened h.taken k.taken (Unit {0}) _ (is.taken f goes) (λ _. tt) (λ _. tt);
  }

  -- The next one is taken off those that are left.
  module _ (old left : List (ℕ × ℕ)) (q : ℕ × ℕ) (whole : IsPermutation pairs (done ++ old)) (taken : IsPermutation old (q ∷ left)) (nested : ℕ) (each : All (IsReady h.game s.state nested) pairs) where
    moves : IsPermutation pairs (turned done left q)
    moves = turn_moves pairs done old left q whole taken

    ready : IsReady h.game s.state nested q
    ready = All-contains (IsReady h.game s.state nested) pairs q each (turn_there pairs done old left q whole taken)

    abbrev later : AbstractState
    later = ready.later

    applies : Applies h.game q.1 (at_vertex s.state q.0) later
    applies = ready.applies

    -- There are too many modifiers before it.
    pub tries_deep : more ≤ 1 → (let r : Result Bool Over = Err Deep in IsAskedAfter h k s l pairs more r)
    tries_deep few = record {
      stays = is.stays;
      counts = λ f a goes counts. turn_too_many h k s l done left q f pairs a k.opened more later _ _ moves goes applies few (is.counted f a goes counts) (λ w. deep_not_wide (same_error {X = Bool} Deep Wide w));
      taken = λ f goes. takes_as h.game pattern s.state f h.opened k.opened h.taken k.taken (Unit {0}) _ (is.taken f goes) (λ _. tt) (λ _. tt);
    }

    -- The question is asked after it.
    module _ (some : 1 < more) {k' : Searching} {l' : History} {callee : Result Bool Over} (asked : (t : AbstractState) → Applies k.game q.1 (at_vertex l.state q.0) t → IsAsked k k' l l' pattern t (after q.1) (more - 1) callee) where
      here : IsAsked k k' l l' pattern later (after q.1) (more - 1) callee
      here = asked later (onward_search (λ y z. Applies y.game q.1 (at_vertex z q.0) later) h k s l is.stays.kept is.stays.given_back applies)

      stays : Stays h k' s l'
      stays = record {
        kept = kept_twice h k k' is.stays.kept here.kept;
        given_back = room_twice s l l' is.stays.given_back here.given_back;
        room = omega (arith, is.stays.room, here.room);
      }

      step : (f : Start) (a : ℕ) → GoesAfter h.game s.state f pairs → CountsOpenings h.game reach s.state f a h.opened → AfterStep h s.state f (done ++ q ∷ []) a k'.opened more (callee ≡ Err Deep) (callee ≡ Err Wide)
      step f a goes counts =
          turn_beyond h k s l done left q f pairs a k'.opened more later _ _ is.stays.kept is.stays.given_back moves goes applies (omega (arith, some)) (is.counted f a goes counts)
          (λ t n leads same. subst (λ (m : ℕ). IsCounted k.game pattern t (after q.1) k.opened k'.opened m k.openings k.modifiers (callee ≡ Err Deep) (callee ≡ Err Wide)) (one_less more n same) (asked t leads).counts)

      pairs_then : (A H : Type 0) → (A → IsOk callee) → (H → ¬ (callee ≡ Err Memory)) → (f : Start) → GoesAfter h.game s.state f pairs → CountsTaken h.game pattern s.state f h.opened k'.opened h.taken k'.taken A H
      pairs_then A H weaker other f goes =
          turn_takes h k s l done left q f pairs k'.opened k'.taken later A is.stays.kept is.stays.given_back moves goes applies (is.taken f goes)
          (λ t leads. takes_as k.game pattern t (after q.1) k.opened k'.opened k.taken k'.taken (IsOk callee) A (asked t leads).taken weaker other)

      pub tries_failed : (r : Result Bool Over) (e : Over) → callee ≡ Err e → IsErrAnd r (λ y. y ≡ e) → IsAskedAfter h k' s l' pairs more r
      tries_failed r e was gives = record {
        stays = stays;
        counts = λ f a goes counts. counted_as h.game pattern s.state f a k'.opened more h.openings h.modifiers _ _ _ _ (given_up callee r e Deep was gives) (given_up callee r e Wide was gives) (step f a goes counts).gave_up;
        taken = pairs_then (IsOk r) (¬ (r ≡ Err Memory)) (λ ok. absurd (not_ok r e gives ok)) (held_on callee r e was gives);
      }

      module _ (runs : Bool) (was : callee ≡ Ok runs) where
        -- A word runs after it.
        pub tries_yes : (answer : Bool) → (let r : Result Bool Over = Ok answer in IsAskedAfter h k' s l' pairs more r)
        tries_yes answer = record {
          stays = stays;
          counts = λ f a goes counts. after_only h.game goes.lawful.numbered s.state f (done ++ q ∷ []) a k'.opened more h.openings h.modifiers _ _ (step f a goes counts).counts (ok_not_err answer Deep) (ok_not_err answer Wide);
          taken = pairs_then _ _ (λ _. is_answer callee runs was) (λ _. ok_held callee runs was);
        }

        module _ (forced : (cut : Bool) (t : AbstractState) → Applies k.game q.1 (at_vertex l.state q.0) t → CountsForced k.game cut pattern t (after q.1) k.opened k'.opened (more - 1) k.modifiers) where
          pub tries_grow : h.opened ≤ k'.opened
          tries_grow =
              let turn = turn_forced h k s l done left q h.opened k'.opened more later is.stays.kept is.stays.given_back applies some forced in
              omega (arith, is.grows, turn.grows)

          -- None does.
          pub tries_more : IsTrue runs ↔ RunsAfterPair k.game l.state q.0 q.1 → runs ≡ false → TriesAfter h k' s l' pairs (done ++ q ∷ []) more
          tries_more decides fails =
              let turn = turn_forced h k s l done left q h.opened k'.opened more later is.stays.kept is.stays.given_back applies some forced in
              let decides_here : IsTrue runs ↔ RunsAfterPair h.game s.state q.0 q.1 = search_before (λ y z. IsTrue runs ↔ RunsAfterPair y.game z q.0 q.1) h k s l is.stays.kept is.stays.given_back decides in
              record {
                stays = stays;
                none = turn_none h.game s.state done q runs is.none decides_here fails;
                counted = λ f a goes counts. (step f a goes counts).counts;
                grows = omega (arith, is.grows, turn.grows);
                forced = λ cut numbered. turn.forced cut numbered (is.forced cut numbered);
                taken = pairs_then (Unit {0}) (Unit {0}) (λ _. is_answer callee runs was) (λ _. ok_held callee runs was);
              }
