-- What was gathered of the legal moves of a place.
use Rattle.std.proofs.Common.{◌≡◌, ◌≢◌, ℕ, ◌<◌, ◌≤◌, ◌^◌, List, [], ◌∷◌, length, Bool, true, false, refl, sym, ◌∙◌, subst, arith, All, Contains, take}
use Rattle.rbg_base.proofs.Common.{All-head}
use Rattle.std.proofs.lemmas.List.Sorted.{length_permutation}
use Rattle.rbg_rules.specs.Meaning.{AbstractGame, AbstractPlace, Finished, IsLegal}
use Rattle.rbg_moves.specs.Listing.{IsGathered, IsListed}
use Rattle.rbg_moves.proofs.Outcome.{listed}
use Rattle.rbg_questions.specs.Answers.{to_move, finished}
use Rattle.rbg_questions.specs.Answering.{HasMoves, StandsAt, goes_on, is_over}
use Rattle.rbg_questions.specs.internal.Ordering.{IsInOrder}

-- what was gathered, in order
pub listed_in_order : (game : AbstractGame) (place : AbstractPlace) (max : ℕ) (moves ordered : List (List (ℕ × ℕ))) (cut : Bool) → IsGathered game place max moves cut → IsInOrder moves ordered → IsListed game place max ordered cut
listed_in_order game place max moves ordered cut gathered is = listed game place max moves ordered cut gathered is.permutation is.order

-- as many as were gathered
pub few_in_order : (moves ordered : List (List (ℕ × ℕ))) → IsInOrder moves ordered → length moves < 2 ^ 63 → length ordered < 2 ^ 63
few_in_order moves ordered is few =
    let same : length ordered ≡ length moves = length_permutation moves ordered is.permutation in
    omega (arith, few, same)

-- there are so many moves as were gathered, where no list is as long as the limit
pub has_moves : (game : AbstractGame) (place : AbstractPlace) (max : ℕ) (all : List (List (ℕ × ℕ))) (cut : Bool) (len count : ℕ) → IsGathered game place max all cut → len ≡ length all → len < 2 ^ 63 → 2 ^ 63 ≤ max → count ≡ len → HasMoves game place count
has_moves game place max all true len count gathered same small large is = absurd (omega (arith, small, large, same, gathered.full refl))
has_moves game place max all false len count gathered same small large is = record {
  all = all;
  are = record { legal = gathered.legal; different = gathered.different; whole = gathered.whole refl };
  many = is ∙ same;
}

-- how play stands where there are so many moves
nothing_in : {X : Type 0} (x : X) → Contains [] x → ⊥
nothing_in x h = omega (arith, h.1)

none_left : (game : AbstractGame) (place : AbstractPlace) (all : List (List (ℕ × ℕ))) → ((pairs : List (ℕ × ℕ)) → IsLegal game place pairs → Contains all pairs) → 0 ≡ length all → Finished game place
none_left game place [] whole none = record { no_move = λ pairs to legal. nothing_in pairs (whole pairs (to, legal)) }
none_left game place (x ∷ all) whole none = absurd (omega (arith, none))

pub stands_over_none : (game : AbstractGame) (place : AbstractPlace) (count : ℕ) (scores : List ℕ) → HasMoves game place count → count ≡ 0 → scores ≡ take (length game.players) place.state.values → StandsAt game place (finished scores)
stands_over_none game place count scores has none same =
    subst (λ s. StandsAt game place (finished s)) (sym same) (is_over (none_left game place has.all has.are.whole (sym none ∙ has.many)))

some_left : (game : AbstractGame) (place : AbstractPlace) (all : List (List (ℕ × ℕ))) → All (IsLegal game place) all → 0 < length all → ¬ Finished game place
some_left game place [] legal some = absurd (omega (arith, some))
some_left game place (x ∷ all) legal some = λ over. let first = All-head (IsLegal game place) x all legal in over.no_move x first.0 first.1

pub stands_on_some : (game : AbstractGame) (place : AbstractPlace) (count player : ℕ) → HasMoves game place count → count ≢ 0 → player ≡ place.state.player → StandsAt game place (to_move player)
stands_on_some game place count player has some same =
    subst (λ n. StandsAt game place (to_move n)) (sym same) (goes_on (some_left game place has.all has.are.legal (omega (arith, some, has.many))))
