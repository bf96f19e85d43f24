-- What is said of a question that was asked, and handed on to who asked.
use Rattle.std.proofs.Common.{◌≡◌, ℕ, ◌<◌, ◌≤◌, List, Bool, false, refl, sym, subst, arith, Result, Ok, Err, IsOk, IsErrAnd}
use Rattle.rbg_rules.specs.Meaning.{AbstractState, Start, Question, reach, pattern}
use Rattle.rbg_state.specs.History.{History}
use Rattle.rbg_search.proofs.Common.{IsAnswered, CountsForced, Searching, CountsTaken, StandsInPattern, IsCounted, IsAsked, HasFound, IsAskedAfter, Over, Deep, Wide, Memory}
use Rattle.rbg_search.proofs.Counted.{memory_not_deep, memory_not_wide, counted_as, ok_not_err}
use Rattle.rbg_search.proofs.Asking.{room_twice}
use Rattle.rbg_search.proofs.CountedSteps.{given_up, not_memory, deep_is, asks_reached, after_step, counted_there}
use Rattle.rbg_search.proofs.Countings.{none_counted}
use Rattle.rbg_search.proofs.Forcing.{all_counted, none_deep}
use Rattle.rbg_search.proofs.Kept.{kept_twice}
use Rattle.rbg_search.proofs.Takings.{takes_as, takes_none_yet, takes_part_of, any_part, not_ok, is_answer, held_on, ok_held}
use Rattle.rbg_search.proofs.TakingSteps.{after_takes}

module _ {X Y : Type 0} {h k : Searching} {s l : History} {question : Question} {here : AbstractState} {f : Start} {left : ℕ} {callee : Result X Over} (is : IsAsked h k s l question here f left callee) where
  -- It was given up, and so is the one for which it was asked.
  pub handed_on : (r : Result Y Over) (e : Over) → callee ≡ Err e → IsErrAnd r (λ y. y ≡ e) → IsAsked h k s l question here f left r
  handed_on r e was gives = record {
    kept = is.kept;
    given_back = is.given_back;
    room = is.room;
    counts = counted_as h.game question here f h.opened k.opened left h.openings h.modifiers _ _ _ _ (given_up callee r e Deep was gives) (given_up callee r e Wide was gives) is.counts;
    taken = takes_as h.game question here f h.opened k.opened h.taken k.taken (IsOk callee) (IsOk r) is.taken (λ ok. absurd (not_ok r e gives ok)) (held_on callee r e was gives);
  }

  -- It was answered, and so is the one for which it was asked.
  pub answered_on : (x : X) (y : Y) → callee ≡ Ok x → (let r : Result Y Over = Ok y in IsAsked h k s l question here f left r)
  answered_on x y was = record {
    kept = is.kept;
    given_back = is.given_back;
    room = is.room;
    counts = counted_as h.game question here f h.opened k.opened left h.openings h.modifiers _ _ _ _ (λ d. absurd (ok_not_err y Deep d)) (λ w. absurd (ok_not_err y Wide w)) is.counts;
    taken = takes_as h.game question here f h.opened k.opened h.taken k.taken (IsOk callee) _ is.taken (λ _. is_answer callee x was) (λ _. ok_held callee x was);
  }

-- It is a pattern's question too, with so many modifiers left.
pub as_pattern : {X : Type 0} {h k : Searching} {s l : History} {f : Start} {r : Result X Over} → IsAsked h k s l reach s.state f h.modifiers r → (left : ℕ) → IsAsked h k s l pattern s.state f left r
as_pattern {h = h} {k = k} {s = s} {f = f} {r = r} is left = record {
  kept = is.kept;
  given_back = is.given_back;
  room = is.room;
  counts = asks_reached h.game s.state f h.opened k.opened left h.modifiers h.openings _ _ is.counts;
  taken = takes_part_of h.game pattern s.state f reach s.state f h.opened k.opened h.taken k.taken (IsOk r) (any_part h.game pattern s.state f) is.taken;
}

-- It was asked from another semi-state with the same place.
pub asked_there : {X : Type 0} {h k : Searching} {s l : History} {t : AbstractState} {f : Start} {n : ℕ} {r : Result X Over} → IsAsked h k s l pattern t f n r → (s' l' : History) (here : AbstractState) (n' : ℕ) → here ≡ t → n ≡ n' → l' ≡ record s' { room = l'.room } → s'.room ≤ l'.room → IsAsked h k s' l' pattern here f n' r
asked_there {h = h} {k = k} {t = t} {f = f} {n = n} {r = r} is s' l' here n' same left given more = record {
  kept = is.kept;
  given_back = given;
  room = more;
  counts = counted_there h here t f h.opened k.opened n n' _ _ _ _ same left (λ d. d) (λ w. w) is.counts;
  taken = subst (λ (u : AbstractState). CountsTaken h.game pattern u f h.opened k.opened h.taken k.taken (IsOk r) (¬ (r ≡ Err Memory))) (sym same) is.taken;
}

-- The question goes on after the modifiers that were found.
pub asked_after : {X : Type 0} {h k k' : Searching} {s l l' : History} {f : Start} {nested left : ℕ} {pairs : List (ℕ × ℕ)} {ends : Bool} {first : Result Bool Over} {r : Result X Over} → IsAsked h k s l reach s.state f h.modifiers first → first ≡ Ok ends → HasFound h k s l f nested pairs ends → StandsInPattern h.game.rules f → ends ≡ false → IsAskedAfter k k' l l' pairs left r → IsAsked h k' s l' pattern s.state f left r
asked_after {h = h} {k = k} {k' = k'} {s = s} {l = l} {l' = l'} {f = f} {left = left} {pairs = pairs} {ends = ends} {first = first} {r = r} is was found inside not_here beyond = record {
  kept = kept_twice h k k' is.kept beyond.stays.kept;
  given_back = room_twice s l l' is.given_back beyond.stays.given_back;
  room = omega (arith, is.room, beyond.stays.room);
  counts = after_step h k s l f pairs pairs ends k'.opened left _ _ is.kept is.given_back refl found.lawful inside found.reaches.reached not_here is.counts.counted beyond.counts;
  taken =
      after_takes h k s l f pairs pairs ends k'.opened k'.taken (IsOk r) is.kept is.given_back refl found.lawful inside found.reaches.reached not_here
      (takes_as h.game reach s.state f h.opened k.opened h.taken k.taken (IsOk first) (Unit {0}) is.taken (λ _. is_answer first ends was) (λ _. ok_held first ends was)) beyond.taken;
}

-- No opening was taken up, or there was no room for changes, so the question isn't asked.
pub not_entered : {X Y : Type 0} (h k : Searching) (s l : History) (f : Start) (callee : Result X Over) (r : Result Y Over) (e : Over) → callee ≡ Err e → IsErrAnd r (λ y. y ≡ e) → k ≡ record h { opened = k.opened; taken = k.taken } → l ≡ record s { room = l.room } → s.room ≤ l.room → IsCounted h.game reach s.state f h.opened k.opened h.modifiers h.openings h.modifiers (callee ≡ Err Deep) (callee ≡ Err Wide) → (let lost : Result X Over = Err e in CountsTaken h.game reach s.state f h.opened k.opened h.taken k.taken (IsOk lost) (¬ (lost ≡ Err Memory))) → IsAsked h k s l reach s.state f h.modifiers r
not_entered {X = X} h k s l f callee r e was gives kept given more counts taken = record {
  kept = kept;
  given_back = given;
  room = more;
  counts = counted_as h.game reach s.state f h.opened k.opened h.modifiers h.openings h.modifiers _ _ _ _ (given_up callee r e Deep was gives) (given_up callee r e Wide was gives) counts;
  taken =
      let lost : Result X Over = Err e in
      takes_as h.game reach s.state f h.opened k.opened h.taken k.taken (IsOk lost) (IsOk r) taken (λ ok. absurd (not_ok r e gives ok)) (held_on lost r e refl gives);
}

-- What callers see of it.
pub answered : {X : Type 0} {h k : Searching} {s l : History} {question : Question} {f : Start} {r : Result X Over} → 0 < h.modifiers → IsAsked h k s l question s.state f h.modifiers r → (IsOk r → (cut : Bool) → CountsForced h.game cut question s.state f h.opened k.opened h.modifiers h.modifiers) → IsAnswered h k s l question f r
answered {h = h} {k = k} {s = s} {question = question} {f = f} some is forced = record {
  kept = is.kept;
  given_back = is.given_back;
  room = is.room;
  counted = is.counts.counted;
  deep = λ d. deep_is h.game question s.state f h.modifiers (is.counts.deep d);
  wide = is.counts.wide;
  all_forced = λ ok cut. all_counted h.game cut question s.state f h.opened k.opened h.modifiers h.modifiers (forced ok cut);
  not_deep = λ ok cut. none_deep h.game cut question s.state f h.opened k.opened h.modifiers h.modifiers (forced ok cut) (omega arith) some;
  taken = is.taken;
}

module _ {X Y : Type 0} {h k : Searching} {s l : History} {question : Question} {f : Start} {callee : Result X Over} (is : IsAnswered h k s l question f callee) where
  -- It was given up, and so is the one for which it was asked.
  pub answer_handed : (r : Result Y Over) (e : Over) → callee ≡ Err e → IsErrAnd r (λ y. y ≡ e) → IsAnswered h k s l question f r
  answer_handed r e was gives = record {
    kept = is.kept;
    given_back = is.given_back;
    room = is.room;
    counted = is.counted;
    deep = λ d. is.deep (given_up callee r e Deep was gives d);
    wide = λ w. is.wide (given_up callee r e Wide was gives w);
    all_forced = λ ok. absurd (not_ok r e gives ok);
    not_deep = λ ok. absurd (not_ok r e gives ok);
    taken = takes_as h.game question s.state f h.opened k.opened h.taken k.taken (IsOk callee) (IsOk r) is.taken (λ ok. absurd (not_ok r e gives ok)) (held_on callee r e was gives);
  }

  -- It was answered, and so is the one for which it was asked.
  pub answer_on : (x : X) {y : Y} → callee ≡ Ok x → (let r : Result Y Over = Ok y in IsAnswered h k s l question f r)
  answer_on x {y = y} was = record {
    kept = is.kept;
    given_back = is.given_back;
    room = is.room;
    counted = is.counted;
    deep = λ d. absurd (ok_not_err y Deep d);
    wide = λ w. absurd (ok_not_err y Wide w);
    all_forced = λ _. is.all_forced (is_answer callee x was);
    not_deep = λ _. is.not_deep (is_answer callee x was);
    taken = takes_as h.game question s.state f h.opened k.opened h.taken k.taken (IsOk callee) _ is.taken (λ _. is_answer callee x was) (λ _. ok_held callee x was);
  }

  -- .. or there was no memory for that.
  pub answer_lost : (x : X) → callee ≡ Ok x → (r : Result Y Over) → IsErrAnd r (λ y. y ≡ Memory) → IsAnswered h k s l question f r
  answer_lost x was r gives = record {
    kept = is.kept;
    given_back = is.given_back;
    room = is.room;
    counted = is.counted;
    deep = λ d. absurd (not_memory r Memory Deep gives refl memory_not_deep d);
    wide = λ w. absurd (not_memory r Memory Wide gives refl memory_not_wide w);
    all_forced = λ ok. absurd (not_ok r Memory gives ok);
    not_deep = λ ok. absurd (not_ok r Memory gives ok);
    taken = takes_as h.game question s.state f h.opened k.opened h.taken k.taken (IsOk callee) (IsOk r) is.taken (λ _. is_answer callee x was) (λ _. ok_held callee x was);
  }

-- The search is the same once more.
pub asked_same : {X : Type 0} {h k : Searching} {s l : History} {question : Question} {here : AbstractState} {f : Start} {left : ℕ} {r : Result X Over} → IsAsked h k s l question here f left r → (k' : Searching) → k' ≡ k → IsAsked h k' s l question here f left r
asked_same {h = h} {s = s} {l = l} {question = question} {here = here} {f = f} {left = left} {r = r} is k' same = subst (λ (x : Searching). IsAsked h x s l question here f left r) (sym same) is

pub answer_same : {X : Type 0} {h k : Searching} {s l : History} {question : Question} {f : Start} {r : Result X Over} → IsAnswered h k s l question f r → (k' : Searching) → k' ≡ k → IsAnswered h k' s l question f r
answer_same {h = h} {s = s} {l = l} {question = question} {f = f} {r = r} is k' same = subst (λ (x : Searching). IsAnswered h x s l question f r) (sym same) is

-- .. or was the same once before.
pub asked_since : {X : Type 0} {h h' k : Searching} {s l : History} {f : Start} {r : Result X Over} → h' ≡ h → IsAsked h' k s l reach s.state f h'.modifiers r → IsAsked h k s l reach s.state f h.modifiers r
asked_since {k = k} {s = s} {l = l} {f = f} {r = r} same is = subst (λ (x : Searching). IsAsked x k s l reach s.state f x.modifiers r) same is

pub found_since : {h h' k : Searching} {s l : History} {f : Start} {nested : ℕ} {pairs : List (ℕ × ℕ)} {ends : Bool} → h' ≡ h → HasFound h' k s l f nested pairs ends → HasFound h k s l f nested pairs ends
found_since {k = k} {s = s} {l = l} {f = f} {nested = nested} {pairs = pairs} {ends = ends} same is = subst (λ (x : Searching). HasFound x k s l f nested pairs ends) same is

pub asked_before : {X : Type 0} {h h' k : Searching} {s l : History} {question : Question} {here : AbstractState} {f : Start} {r : Result X Over} → h' ≡ h → IsAsked h' k s l question here f h'.modifiers r → IsAsked h k s l question here f h.modifiers r
asked_before {k = k} {s = s} {l = l} {question = question} {here = here} {f = f} {r = r} same is = subst (λ (x : Searching). IsAsked x k s l question here f x.modifiers r) same is

pub found_same : {h k : Searching} {s l : History} {f : Start} {nested : ℕ} {pairs : List (ℕ × ℕ)} {ends : Bool} → HasFound h k s l f nested pairs ends → (k' : Searching) → k' ≡ k → HasFound h k' s l f nested pairs ends
found_same {h = h} {s = s} {l = l} {f = f} {nested = nested} {pairs = pairs} {ends = ends} is k' same = subst (λ (x : Searching). HasFound h x s l f nested pairs ends) (sym same) is

-- There was no memory to begin, so nothing was asked.
pub nothing_asked : {Y : Type 0} (h k : Searching) (s : History) (question : Question) (here : AbstractState) (f : Start) (left : ℕ) (r : Result Y Over) (e : Over) → k ≡ h → IsErrAnd r (λ y. y ≡ e) → e ≡ Memory → IsAsked h k s s question here f left r
nothing_asked h k s question here f left r e same gives memory = asked_same none k same
  where
    none : IsAsked h h s s question here f left r
    none = record {
      kept = refl;
      given_back = refl;
      room = omega arith;
      counts = record {
        counted = none_counted h.game question here f h.opened h.opened refl;
        deep = λ d. absurd (not_memory r e Deep gives memory memory_not_deep d);
        wide = λ w. absurd (not_memory r e Wide gives memory memory_not_wide w);
      };
      taken = takes_none_yet h.game question here f h.opened h.opened h.taken h.taken (IsOk r) refl refl;
    }
