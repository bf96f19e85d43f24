-- What is said of a question that was asked at a place, and handed on to who asked.
use Rattle.std.proofs.Common.{◌≡◌, ℕ, ◌+◌, ◌-◌, ◌^◌, ◌≤◌, min, List, [], length, Bool, false, Option, Some, None, refl, sym, ap, ◌∙◌, subst, inl, inr, Result, Ok, Err, IsErrAnd, IfSome, IfNone}
use Rattle.rbg_base.specs.Move.{most_pairs, IsMoveLength}
use Rattle.rbg_rules.specs.Meaning.{most_modifiers, IsNumbered, AbstractGame, AbstractState, Start, AbstractPlace, Finished, IsLegal, point_of, Question, find_move, list_moves, try_move}
use Rattle.rbg_search.specs.Searching.{Searching, Tally}
use Rattle.rbg_search.specs.declared.over.Over.{Over}
use Rattle.rbg_search.specs.declared.over.Over.TheVariants.{Deep, Wide, Memory}
use Rattle.rbg_search.proofs.CallerLemmas.{too_deep, over_wide}
use Rattle.rbg_search.proofs.Counted.{memory_not_deep, memory_not_wide, ok_not_err}
use Rattle.rbg_search.proofs.CountedSteps.{given_up, not_memory}
use Rattle.rbg_moves.specs.Answers.{GivesUp, FindsMove, TriesMove, ListsMoves, TellsMove}
use Rattle.rbg_moves.specs.Limits.{IsDeepAt, IsWideAt, FitsLimits}
use Rattle.rbg_moves.specs.Tallying.{IsTallied, Tallies}
use Rattle.rbg_moves.specs.internal.Fronts.{FindsFront}
use Rattle.rbg_moves.specs.internal.Asking.{CountsAnswer, IsGivenUp, begun_in}
use Rattle.rbg_moves.proofs.Forcing.{all_forced, counts_uncut, fits_at}
use Rattle.rbg_moves.proofs.Tallies.{tallied}

-- ---- why there is no answer

pub gives_up : {X : Type 0} {game : AbstractGame} {question : Question} {place : AbstractPlace} (r : Result X Over) → (r ≡ Err Deep → IsDeepAt game question place) → (r ≡ Err Wide → IsWideAt game question place) → GivesUp game question place r
gives_up r deep wide = record {
  heavy = λ h. elim h [
    | inl e ↦ inl (deep e)
    | inr e ↦ inr (wide e)
  ];
  deep = deep;
  wide = wide;
}

-- .. where there is one
pub gives_answer : {X : Type 0} (game : AbstractGame) (question : Question) (place : AbstractPlace) (x : X) → (let r : Result X Over = Ok x in GivesUp game question place r)
gives_answer game question place x = gives_up _ (λ d. absurd (ok_not_err x Deep d)) (λ w. absurd (ok_not_err x Wide w))

-- Memory was refused.
pub gives_memory : {X : Type 0} (game : AbstractGame) (question : Question) (place : AbstractPlace) (r : Result X Over) → IsErrAnd r (λ e. e ≡ Memory) → GivesUp game question place r
gives_memory game question place r lost = gives_up r (λ d. absurd (not_memory r Memory Deep lost refl memory_not_deep d)) (λ w. absurd (not_memory r Memory Wide lost refl memory_not_wide w))

-- It was given up, and so is the one for which it was asked.
pub gives_on : {X Y : Type 0} {game : AbstractGame} {question : Question} {place : AbstractPlace} (callee : Result X Over) (r : Result Y Over) (e : Over) → callee ≡ Err e → IsErrAnd r (λ y. y ≡ e) → GivesUp game question place callee → GivesUp game question place r
gives_on callee r e was gives is = gives_up r (λ d. is.deep (given_up callee r e Deep was gives d)) (λ w. is.wide (given_up callee r e Wide was gives w))

-- A call that gave up says no more than why.
pub finds_none : {X : Type 0} {game : AbstractGame} {place : AbstractPlace} {pairs_of : X → List (ℕ × ℕ)} (r : Result (Option X) Over) (P : Over → Type 0) → IsErrAnd r P → GivesUp game find_move place r → FindsMove game place r pairs_of
finds_none (Ok x) P is why = absurd is
finds_none (Err e) P is why = record { found = tt; sized = tt; finished = tt; given_up = why; fits = tt }

-- Where the pairs of a move are there, there is one.
pub tells_front : {game : AbstractGame} {place : AbstractPlace} {front : List (ℕ × ℕ)} (r : Result Bool Over) → FindsFront game place r front → TellsMove game place r
tells_front {front = front} (Ok some) finds = record { some = λ e. (front, finds.found e); finished = finds.finished; given_up = finds.given_up; fits = finds.fits }
tells_front (Err e) finds = record { some = tt; finished = tt; given_up = finds.given_up; fits = tt }

-- It was asked at a copy of the place.
pub finds_at : {X : Type 0} {game : AbstractGame} {place here : AbstractPlace} {r : Result (Option X) Over} {pairs_of : X → List (ℕ × ℕ)} → here ≡ place → FindsMove game here r pairs_of → FindsMove game place r pairs_of
finds_at {game = game} {r = r} {pairs_of = pairs_of} copied finds = subst (λ (p : AbstractPlace). FindsMove game p r pairs_of) copied finds

-- The same move is told in another form.
pub finds_other : {X Y : Type 0} {game : AbstractGame} {place : AbstractPlace} {pairs_of : X → List (ℕ × ℕ)} {other_of : Y → List (ℕ × ℕ)} (found : Option X) (x : X) (y : Y) → found ≡ Some x → other_of y ≡ pairs_of x → (let r : Result (Option X) Over = Ok found in FindsMove game place r pairs_of) → (let q : Result (Option Y) Over = Ok (Some y) in FindsMove game place q other_of)
finds_other {game = game} {place = place} {pairs_of = pairs_of} found x y is same finds = record {
  found = subst (IsLegal game place) (sym same) (subst (λ o. IfSome o (λ z. IsLegal game place (pairs_of z))) is finds.found);
  sized = subst (λ (ps : List (ℕ × ℕ)). IsMoveLength (length ps)) (sym same) (subst (λ o. IfSome o (λ z. IsMoveLength (length (pairs_of z)))) is finds.sized);
  finished = tt;
  given_up = gives_answer _ _ _ _;
  fits = finds.fits;
}

pub finds_no_other : {X Y : Type 0} {game : AbstractGame} {place : AbstractPlace} {pairs_of : X → List (ℕ × ℕ)} {other_of : Y → List (ℕ × ℕ)} (found : Option X) → found ≡ None → (let r : Result (Option X) Over = Ok found in FindsMove game place r pairs_of) → (let q : Result (Option Y) Over = Ok None in FindsMove game place q other_of)
finds_no_other {game = game} {place = place} found none finds = record {
  found = tt;
  sized = tt;
  finished = subst (λ o. IfNone o (Finished game place)) none finds.finished;
  given_up = gives_answer _ _ _ _;
  fits = finds.fits;
}

pub tries_none : {game : AbstractGame} {place : AbstractPlace} {pairs : List (ℕ × ℕ)} (r : Result (Option AbstractPlace) Over) (P : Over → Type 0) → IsErrAnd r P → GivesUp game (try_move pairs) place r → TriesMove game place pairs r
tries_none (Ok x) P is why = absurd is
tries_none (Err e) P is why = record { legal = tt; only = tt; in_game = tt; illegal = tt; given_up = why; fits = tt }

pub lists_none : {X : Type 0} {game : AbstractGame} {place : AbstractPlace} {Lists : X → Type 0} {cut_of : X → Bool} (r : Result X Over) (P : Over → Type 0) → IsErrAnd r P → GivesUp game list_moves place r → ListsMoves game place r Lists cut_of
lists_none (Ok x) P is why = absurd is
lists_none (Err e) P is why = record { lists = tt; given_up = why; fits = tt }

-- Nothing was counted where there is no answer.
pub tallies_none : {X : Type 0} {game : AbstractGame} {question : Question} {place : AbstractPlace} {old new : Tally} (r : Result X Over) (P : Over → Type 0) → IsErrAnd r P → new ≡ old → Tallies game question place old new r
tallies_none (Ok x) P is same = absurd is
tallies_none (Err e) P is same = record { answered = tt; unanswered = same }

pub tallies_one : {X : Type 0} {game : AbstractGame} {question : Question} {place : AbstractPlace} {old new : Tally} (x : X) → IsTallied game question place old new → (let r : Result X Over = Ok x in Tallies game question place old new r)
tallies_one x is = record { answered = is; unanswered = tt }

-- ---- a question that a search was begun for, with no modifier before it

-- What is forced anyway is forced where the answer is cut.
pub uncut_answer : {asked later : Searching} {question : Question} {s : AbstractState} {f : Start} {left : ℕ} → CountsAnswer asked later false question s f left → (cut : Bool) → CountsAnswer asked later cut question s f left
uncut_answer {asked = asked} {later = later} {question = question} {s = s} {f = f} {left = left} counts cut = record {
  counted = counts.counted;
  paired = counts.paired;
  forced = counts_uncut asked.game cut question s f asked.opened later.opened left asked.modifiers counts.forced;
}

module _ {game : AbstractGame} {place here : AbstractPlace} {asked : Searching} (begun : asked ≡ begun_in game) (there : here ≡ place) where
  pub at_place : (P : Searching → AbstractPlace → Type 0) → P asked here → P (begun_in game) place
  at_place P is = subst (λ (p : AbstractPlace). P (begun_in game) p) there (subst (λ (x : Searching). P x here) begun is)

  -- It was given up.
  pub asked_in_vain : {X Y : Type 0} (question : Question) → IsNumbered game.rules → (front : List (ℕ × ℕ)) (callee : Result X Over) (r : Result Y Over) (e : Over) → front ≡ [] → callee ≡ Err e → IsErrAnd r (λ y. y ≡ e) → IsGivenUp asked question here.state (point_of here.last) (most_pairs - length front) (callee ≡ Err Deep) (callee ≡ Err Wide) → GivesUp game question place r
  asked_in_vain question numbered front callee r e none was gives up =
      gives_up r (λ d. too_deep game numbered (given.deep (given_up callee r e Deep was gives d))) (λ w. over_wide game numbered (given.wide (given_up callee r e Wide was gives w)))
    where
      given : IsGivenUp (begun_in game) question place.state (point_of place.last) most_modifiers (callee ≡ Err Deep) (callee ≡ Err Wide)
      given =
          at_place (λ x p. IsGivenUp x question p.state (point_of p.last) most_modifiers (callee ≡ Err Deep) (callee ≡ Err Wide))
          (subst (λ (qs : List (ℕ × ℕ)). IsGivenUp asked question here.state (point_of here.last) (most_pairs - length qs) (callee ≡ Err Deep) (callee ≡ Err Wide)) none up)

  -- It was answered within the limits, since what is forced was taken up within the budget.
  pub asked_fits : (question : Question) (later : Searching) (cut : Bool) (left : ℕ) → left ≤ most_modifiers → later ≡ record asked { opened = later.opened; taken = later.taken } → later.opened ≤ later.openings → CountsAnswer asked later cut question here.state (point_of here.last) left → FitsLimits game cut question place
  asked_fits question later cut left under kept within counts =
      fits_at game asked.game place here.state (point_of here.last) cut question asked.opened later.opened left asked.modifiers later.openings
      (ap (λ (x : Searching). x.game) begun) (ap (λ (p : AbstractPlace). p.state) there) (ap (λ (p : AbstractPlace). point_of p.last) there) (ap (λ (x : Searching). x.opened) begun) within
      (ap (λ (x : Searching). x.openings) kept ∙ ap (λ (x : Searching). x.openings) begun) under (ap (λ (x : Searching). x.modifiers) begun) counts.forced

  -- .. and is counted.
  pub asked_tallies : (question : Question) (later : Searching) (cut : Bool) (left : ℕ) (old lent new : Tally) → lent ≡ old → later ≡ record asked { opened = later.opened; taken = later.taken } → CountsAnswer asked later cut question here.state (point_of here.last) left → new.openings ≡ min (lent.openings + later.opened) (2 ^ 64 - 1) → new.pairs ≡ min (lent.pairs + later.taken) (2 ^ 64 - 1) → IsTallied game question place old new
  asked_tallies question later cut left old lent new same kept counts openings pairs =
      subst (λ (p : AbstractPlace). IsTallied game question p old new) there
      (tallied game question here asked later old lent new (ap (λ (x : Searching). x.game) begun) (ap (λ (x : Searching). x.opened) begun) (ap (λ (x : Searching). x.taken) begun) same kept counts.counted
      (all_forced asked.game cut question here.state (point_of here.last) asked.opened later.opened left asked.modifiers counts.forced) counts.paired openings pairs)
