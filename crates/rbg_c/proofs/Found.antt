-- The moves that were found.
use Rattle.std.proofs.Common.{◌≡◌, ℕ, ◌<◌, ◌≤◌, ◌^◌, List, length, Bool, true, false, refl, sym, subst, arith}
use Rattle.std.specs.Prelude.{Option, Some, IfSome, slice_get}
use Rattle.rbg_base.proofs.Common.{get_or_from_slice_get, slice_get_within}
use Rattle.rbg_rules.specs.Meaning.{AbstractGame, AbstractPlace, IsLegal}
use Rattle.rbg_moves.specs.Listing.{IsGathered}
use Rattle.rbg_questions.specs.Places.{AreLegalMoves}
use Rattle.rbg_c.specs.States.{AbstractState, FindsMoves, IsState}

-- no list is as long as the limit
are_moves : (game : AbstractGame) (place : AbstractPlace) (max : ℕ) (all : List (List (ℕ × ℕ))) (cut : Bool) (len : ℕ) → IsGathered game place max all cut → len ≡ length all → len < 2 ^ 63 → 2 ^ 63 ≤ max → AreLegalMoves game place all
are_moves game place max all true len gathered same small large = absurd (omega (arith, small, large, same, gathered.full refl))
are_moves game place max all false len gathered same small large = record { legal = gathered.legal; different = gathered.different; whole = gathered.whole refl }

-- what was found are the moves of the place
found_are : (state : AbstractState) (moves : List (List (ℕ × ℕ))) → IsState state → state.found ≡ Some moves → AreLegalMoves state.game state.place moves
found_are state moves is same = subst (λ (found : Option (List (List (ℕ × ℕ)))). IfSome found (AreLegalMoves state.game state.place)) same is.found

-- the one at an index is legal
pub legal_found : (state : AbstractState) (game : AbstractGame) (moves : List (List (ℕ × ℕ))) (index : ℕ) (pairs : List (ℕ × ℕ)) → IsState state → game ≡ state.game → state.found ≡ Some moves → slice_get moves index ≡ Some pairs → IsLegal game state.place pairs
legal_found state game moves index pairs is same_game found there =
    let legal = (found_are state moves is found).legal in
    subst (λ (g : AbstractGame). IsLegal g state.place pairs) (sym same_game)
    (subst (IsLegal state.game state.place) (get_or_from_slice_get moves index pairs pairs there) (legal index pairs (slice_get_within moves index pairs there)))

-- the moves were found
moves_there : (state : AbstractState) (game : AbstractGame) (max : ℕ) (moves : List (List (ℕ × ℕ))) (cut : Bool) (len : ℕ) → game ≡ state.game → IsGathered game state.place max moves cut → len ≡ length moves → len < 2 ^ 63 → 2 ^ 63 ≤ max → AreLegalMoves state.game state.place moves
moves_there state game max moves cut len same_game gathered same small large =
    subst (λ (g : AbstractGame). AreLegalMoves g state.place moves) same_game (are_moves game state.place max moves cut len gathered same small large)

pub found_state : (state : AbstractState) (game : AbstractGame) (max : ℕ) (moves : List (List (ℕ × ℕ))) (cut : Bool) (len : ℕ) → IsState state → game ≡ state.game → IsGathered game state.place max moves cut → len ≡ length moves → len < 2 ^ 63 → 2 ^ 63 ≤ max → IsState (record { game = state.game; origin = state.origin; before = state.before; place = state.place; found = Some moves })
found_state state game max moves cut len is same_game gathered same small large =
    record { reached = is.reached; found = moves_there state game max moves cut len same_game gathered same small large }

pub finds_moves : (state : AbstractState) (game : AbstractGame) (max : ℕ) (moves : List (List (ℕ × ℕ))) (cut : Bool) (len : ℕ) → IsState state → game ≡ state.game → IsGathered game state.place max moves cut → len ≡ length moves → len < 2 ^ 63 → 2 ^ 63 ≤ max → FindsMoves state len (record { game = state.game; origin = state.origin; before = state.before; place = state.place; found = Some moves })
finds_moves state game max moves cut len is same_game gathered same small large =
    record { moves = moves; are = moves_there state game max moves cut len same_game gathered same small large; many = same; is = refl }
