-- What a walk has found in the end.
use Rattle.std.proofs.Common.{◌≡◌, ◌≢◌, ℕ, zero, suc, ◌<◌, ◌≤◌, List, [], length, Bool, true, false, refl, sym, ◌∙◌, subst, arith, All, AllPairs, Contains, IsErrAnd, Result, Ok, Err, IsPermutation}
use Rattle.std.proofs.lemmas.List.{map-id}
use Rattle.std.proofs.lemmas.List.Sorted.{IsPermutation-sym, All-permutation, Contains-permutation, length_permutation}
use Rattle.rbg_rules.specs.Meaning.{AbstractGame, AbstractPlace, IsLegal, Question, list_moves}
use Rattle.rbg_search.specs.Searching.{Tally}
use Rattle.rbg_search.specs.declared.over.Over.{Over}
use Rattle.rbg_moves.specs.Answers.{GivesUp}
use Rattle.rbg_moves.specs.Listing.{IsMoveBefore, IsListed, IsGathered}
use Rattle.rbg_moves.specs.internal.Asking.{question_of, is_cut}
use Rattle.rbg_moves.specs.internal.Fronts.{FindsFront, IsWalkedFrom}
use Rattle.rbg_moves.specs.internal.Gathering.{Gathers}
use Rattle.rbg_moves.proofs.Forcing.{fits_uncut}
use Rattle.rbg_moves.proofs.Gathering.{none_wanted}
use Rattle.rbg_moves.proofs.Order.{still_different}

-- What was gathered after no pair and into an empty list is what was found.
all_found : (game : AbstractGame) (place : AbstractPlace) (max : ℕ) (moves : List (List (ℕ × ℕ))) (first : List (ℕ × ℕ)) (cut : Bool) (all : Gathers (IsLegal game place) [] max [] moves first cut) → moves ≡ all.found
all_found game place max moves first cut all = all.grown ∙ map-id all.found

-- What was gathered are legal moves.
pub gathered : (game : AbstractGame) (place : AbstractPlace) (max : ℕ) (moves : List (List (ℕ × ℕ))) (first : List (ℕ × ℕ)) (cut : Bool) → Gathers (IsLegal game place) [] max [] moves first cut → IsGathered game place max moves cut
gathered game place max moves first cut all = record {
  legal = subst (All (IsLegal game place)) (sym found) all.wanted;
  different = subst (AllPairs (λ a b. a ≢ b)) (sym found) all.different;
  few = all.few;
  whole = λ e pairs legal. subst (λ (xs : List (List (ℕ × ℕ))). Contains xs pairs) (sym found) (all.whole e pairs legal);
  full = all.full;
  more = λ e. let other = all.more e in record {
    pairs = other.pairs;
    legal = other.wanted;
    missing = λ there. other.missing (subst (λ (xs : List (List (ℕ × ℕ))). Contains xs other.pairs) found there);
  };
}
  where
    found : moves ≡ all.found
    found = all_found game place max moves first cut all

-- What was gathered is listed in order.
pub listed : (game : AbstractGame) (place : AbstractPlace) (max : ℕ) (moves sorted : List (List (ℕ × ℕ))) (cut : Bool) → IsGathered game place max moves cut → IsPermutation moves sorted → AllPairs IsMoveBefore sorted → IsListed game place max sorted cut
listed game place max moves sorted cut all moved order = record {
  legal = All-permutation (IsLegal game place) moves sorted moved all.legal;
  different = still_different moves sorted moved all.different;
  order = order;
  few = subst (λ (n : ℕ). n ≤ max) (sym size) all.few;
  whole = λ e pairs legal. Contains-permutation moves sorted pairs moved (all.whole e pairs legal);
  full = λ e. size ∙ all.full e;
  more = λ e. let other = all.more e in record {
    pairs = other.pairs;
    legal = other.legal;
    missing = λ there. other.missing (Contains-permutation sorted moves other.pairs (IsPermutation-sym moves sorted moved) there);
  };
}
  where
    size : length sorted ≡ length moves
    size = length_permutation moves sorted moved

-- ---- what was asked of a walk

-- A walk that has room for some moves lists them.
pub as_listing : (P : Bool → Question → Type 0) (max : ℕ) (ended : Bool) → 0 < max → P (is_cut ended max) (question_of max) → P ended list_moves
as_listing P zero ended some is = absurd (omega (arith, some))
as_listing P (suc n) false some is = is
as_listing P (suc n) true some is = is

true_not_false : true ≡ false → ⊥
true_not_false e = cc

-- One that has room for none looks for some move: where it ended early this is the first, and else there is none.
pub front_walked : {game : AbstractGame} {place : AbstractPlace} {had has : List (List (ℕ × ℕ))} {first : List (ℕ × ℕ)} {old new : Tally} (r : Result Bool Over) → IsWalkedFrom game place 0 had has first old new r → FindsFront game place r first
front_walked {game} {place} (Ok true) walked =
    let other = walked.gathers.more refl in
    record {
      found = λ _. subst (IsLegal game place) (sym (other.told refl)) other.wanted;
      sized = λ _. other.sized refl;
      finished = λ e. absurd (true_not_false e);
      given_up = walked.given_up;
      fits = fits_uncut walked.fits;
    }
front_walked {game} {place} {had} {has} {first} (Ok false) walked = record {
  found = λ e. absurd (true_not_false (sym e));
  sized = λ e. absurd (true_not_false (sym e));
  finished = λ _. record { no_move = λ ps to legal. none_wanted (IsLegal game place) [] had has first walked.gathers ps (to, legal) };
  given_up = walked.given_up;
  fits = fits_uncut walked.fits;
}
front_walked (Err e) walked = record { found = tt; sized = tt; finished = tt; given_up = walked.given_up; fits = tt }

-- It was given up.
pub walked_none : {game : AbstractGame} {place : AbstractPlace} {max : ℕ} {had has : List (List (ℕ × ℕ))} {first : List (ℕ × ℕ)} {old new : Tally} (r : Result Bool Over) (P : Over → Type 0) → IsErrAnd r P → GivesUp game (question_of max) place r → new ≡ old → IsWalkedFrom game place max had has first old new r
walked_none (Ok x) P is why same = absurd is
walked_none (Err e) P is why same = record { gathers = tt; given_up = why; fits = tt; tallies = record { answered = tt; unanswered = same } }
