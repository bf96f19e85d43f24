-- Pairs are followed one after another, and what is counted meanwhile is counted of the question whether they are a move.
use Rattle.rbg_base.proofs.Common.{◌≡◌, ℕ, suc, ◌<◌, List, [], ◌∷◌, length, Bool, false, refl, sym, ◌∙◌, subst, arith, Option, Some, None, Result, Ok, Err, IfOk, IfSome, OnOk, IfOk-weaker}
use Rattle.rbg_rules.specs.Meaning.{IsNumbered, IsSwitchAt, AbstractState, AbstractPlace, point_of, Legal, reach, try_move, IsDeep}
use Rattle.rbg_search.proofs.Common.{CountsOpenings, IsOverBudget, CountsForced, GoesOn, Searching, CountsPairs}
use Rattle.rbg_search.specs.declared.over.Over.{Over}
use Rattle.rbg_search.specs.declared.over.Over.TheVariants.{Deep, Wide}
use Rattle.rbg_search.proofs.CallerLemmas.{try_begins, deep_begin, over_begin, deep_after, over_on, counts_reached, counts_on}
use Rattle.rbg_search.proofs.Counted.{ok_not_err}
use Rattle.rbg_search.proofs.Countings.{none_counted}
use Rattle.rbg_search.proofs.Takings.{any_part, takes_none_yet, takes_part_of}
use Rattle.rbg_moves.specs.internal.Stepping.{place_beyond, IsStep, IsTried, IsFollowed}
use Rattle.rbg_moves.proofs.Forcing.{legal_move, tried_forced}
use Rattle.rbg_moves.proofs.Steps.{legal_some, step_goes_on, tried_on}
use Rattle.rbg_moves.proofs.Tallies.{more_takes}

-- The same error of a call that answers something else.
as_err : {e other : Over} → (let r : Result (Option ℕ) Over = Err e in r ≡ Err other) → (let r : Result Bool Over = Err e in r ≡ Err other)
as_err is = cc

-- The pairs are the same, told another way.
pub followed_as : {old new : Searching} {place : AbstractPlace} {ps qs : List (ℕ × ℕ)} {to : AbstractState} {result : Result (Option ℕ) Over} → ps ≡ qs → IsFollowed old new place qs to result → IsFollowed old new place ps to result
followed_as {old = old} {new = new} {place = place} {to = to} {result = result} is followed = subst (λ (rs : List (ℕ × ℕ)). IsFollowed old new place rs to result) (sym is) followed

-- There are no pairs to follow.
pub follows_none : (old : Searching) (place : AbstractPlace) {to : AbstractState} → IsNumbered old.game.rules → IsFollowed old old place [] to (Ok None)
follows_none old place numbered = record {
  tried = λ end. legal_some old.game numbered place end;
  deep = λ e. absurd (ok_not_err None Deep e);
  wide = λ e. absurd (ok_not_err None Wide e);
  counted = none_counted old.game (try_move []) place.state (point_of place.last) old.opened old.opened refl;
  paired = takes_none_yet old.game (try_move []) place.state (point_of place.last) old.opened old.opened old.taken old.taken (Unit {0}) refl refl;
  forced = tt;
}

module _ (old middle : Searching) (place : AbstractPlace) (v p : ℕ) (qs : List (ℕ × ℕ)) (numbered : IsNumbered old.game.rules) where
  -- What comes first was given up.
  pub follows_in_vain : {to : AbstractState} (first : Result Bool Over) (e : Over) → first ≡ Err e → (first ≡ Err Deep → IsDeep old.game reach place.state (point_of place.last) old.modifiers) → (first ≡ Err Wide → IsOverBudget old.game reach place.state (point_of place.last) old.opened old.openings) → IsFollowed old middle place ((v, p) ∷ qs) to (Err e)
  follows_in_vain first e was deep wide = record {
    tried = tt;
    deep = λ is. deep_begin old.game numbered (try_begins old.game place.state (point_of place.last) (v, p) qs) (deep (was ∙ as_err is));
    wide = λ is. over_begin old.game numbered (try_begins old.game place.state (point_of place.last) (v, p) qs) (wide (was ∙ as_err is));
    counted = tt;
    paired = tt;
    forced = tt;
  }

  module _ (counted : CountsOpenings old.game reach place.state (point_of place.last) old.opened middle.opened) (paired : CountsPairs old.game reach place.state (point_of place.last) old.opened middle.opened old.taken middle.taken (Unit {0})) where
    first_paired : CountsPairs old.game (try_move ((v, p) ∷ qs)) place.state (point_of place.last) old.opened middle.opened old.taken middle.taken (Unit {0})
    first_paired = takes_part_of old.game (try_move ((v, p) ∷ qs)) place.state (point_of place.last) reach place.state (point_of place.last) old.opened middle.opened old.taken middle.taken (Unit {0}) (any_part old.game (try_move ((v, p) ∷ qs)) place.state (point_of place.last)) paired

    -- It is known what becomes of the pairs, and nothing more is asked.
    pub follows_first : {to : AbstractState} (end : Option ℕ) → IsTried old.game place ((v, p) ∷ qs) to end → IfSome end (λ _. CountsForced old.game false (try_move ((v, p) ∷ qs)) place.state (point_of place.last) old.opened middle.opened (length ((v, p) ∷ qs)) old.modifiers) → IsFollowed old middle place ((v, p) ∷ qs) to (Ok end)
    follows_first end tried forced = record {
      tried = tried;
      deep = λ e. absurd (ok_not_err end Deep e);
      wide = λ e. absurd (ok_not_err end Wide e);
      counted = counts_reached old.game numbered (try_begins old.game place.state (point_of place.last) (v, p) qs) counted;
      paired = first_paired;
      forced = forced;
    }

    -- The rest is followed after the first one.
    module _ (new : Searching) (later to : AbstractState) (result : Result (Option ℕ) Over) (kept : middle ≡ record old { opened = middle.opened; taken = middle.taken }) (taken : IsStep old.game place.state (point_of place.last) v p later) (plain : ¬ IsSwitchAt old.game.rules p) (beyond : IsFollowed middle new (place_beyond later p) qs to result) where
      more : IsFollowed (record old { opened = middle.opened; taken = middle.taken }) new (place_beyond later p) qs to result
      more = subst (λ (x : Searching). IsFollowed x new (place_beyond later p) qs to result) kept beyond

      on : GoesOn old.game (try_move ((v, p) ∷ qs)) place.state (point_of place.last) v p (try_move qs) later
      on = step_goes_on old.game place.state (point_of place.last) v p qs later taken plain

      on_ok : (r : Result (Option ℕ) Over) (P Q : Type 0) → (P → Q) → OnOk r P → OnOk r Q
      on_ok (Ok x) P Q then h = then h
      on_ok (Err e) P Q then h = tt

      some_then : (r : Result (Option ℕ) Over) (A B : Type 0) → ((last : ℕ) → IsTried old.game (place_beyond later p) qs to (Some last) → A → B) → IfOk r (IsTried old.game (place_beyond later p) qs to) → IfOk r (λ end. IfSome end (λ _. A)) → IfOk r (λ end. IfSome end (λ _. B))
      some_then (Ok (Some last)) A B f tried fact = f last tried fact
      some_then (Ok None) A B f tried fact = tt
      some_then (Err e) A B f tried fact = tt

      longer : (end : AbstractPlace) (ps : List (ℕ × ℕ)) → Legal old.game (place_beyond later p) ps end → 0 < length ps
      longer end [] legal = absurd (legal_some old.game numbered (place_beyond later p) end legal)
      longer end (q ∷ ps) legal = omega arith

      pub follows_on : ((left : ℕ) → CountsForced old.game false reach place.state (point_of place.last) old.opened middle.opened left old.modifiers) → IsFollowed old new place ((v, p) ∷ qs) to result
      follows_on forced = record {
        tried = IfOk-weaker result (IsTried old.game (place_beyond later p) qs to) (IsTried old.game place ((v, p) ∷ qs) to) (λ end tried. tried_on old.game numbered place v p qs later to taken plain end tried) more.tried;
        deep = λ e. deep_after old.game numbered on (more.deep e);
        wide = λ e. over_on old.game numbered (try_begins old.game place.state (point_of place.last) (v, p) qs) counted on (more.wide e);
        counted = on_ok result _ _ (λ counts. counts_on old.game numbered (try_begins old.game place.state (point_of place.last) (v, p) qs) counted on counts) more.counted;
        paired = on_ok result _ _ (λ takes. more_takes old.game old.game (try_move ((v, p) ∷ qs)) (try_move qs) place.state later (point_of place.last) v p old.opened middle.opened new.opened old.taken middle.taken new.taken refl on first_paired takes) more.paired;
        forced = some_then result _ _
            (λ last legal counts.
            tried_forced old.game numbered place.state later (point_of place.last) v p qs old.opened middle.opened new.opened old.modifiers taken.applies (legal_move old.game (place_beyond later p) (place_beyond to last) qs legal) (longer (place_beyond to last) qs legal) (forced (suc (length qs))) counts)
            more.tried more.forced;
      }
