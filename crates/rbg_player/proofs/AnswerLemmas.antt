-- The moves that are listed, and the one that is chosen among them.
use Rattle.rbg_base.proofs.Common.{◌≡◌, ℕ, List, [], length, subst, arith, Bool, true, false, refl, sym, Option, Some, None, Contains, IfSome, IfNone, All-nil, All-contains}
use Rattle.rbg_rules.specs.Meaning.{AbstractGame, IsGame, AbstractPlace, IsLegal, Finished, IsPlaceOf}
use Rattle.rbg_moves.specs.Listing.{IsListed}
use Rattle.rbg_base.specs.Move.{IsMoveLength}
use Rattle.rbg_rules.proofs.LegalPairs.{legal_spelled}
use Rattle.rbg_player.specs.Players.{AbstractSeat}
use Rattle.rbg_player.specs.Hearing.{IsMover, HasMoveToMake}
use Rattle.rbg_player.specs.internal.Sitting.{IsAnswer, Lists}

-- if no move is listed, play is finished
pub nothing_listed : (game : AbstractGame) (place : AbstractPlace) (moves : List (List (ℕ × ℕ))) (cut : Bool) → IsListed game place 64 moves cut → moves ≡ [] → Finished game place
nothing_listed game place moves true listed none =
    let full : length moves ≡ 64 = listed.full refl in
    let empty : length moves ≡ 0 = subst (λ (m : List (List (ℕ × ℕ))). length m ≡ 0) (sym none) refl in
    absurd (omega (arith, full, empty))
nothing_listed game place moves false listed none = record {
  no_move = λ ps to legal.
      let there : Contains moves ps = listed.whole refl ps (to, legal) in
      absurd (All-contains (λ _. ⊥) [] ps (All-nil (λ _. ⊥)) (subst (λ (m : List (List (ℕ × ℕ))). Contains m ps) none there));
}

-- if no move is listed, there is none to make
pub none_to_make : (seat : AbstractSeat) (moves : List (List (ℕ × ℕ))) → Lists seat moves → moves ≡ [] → ¬ HasMoveToMake seat
none_to_make seat moves lists none has = has.1 (nothing_listed seat.game seat.place moves lists.cut lists.listed none)

-- the one that is chosen among the moves that are listed
pub chosen_answer : (seat : AbstractSeat) → IsGame seat.game → IsPlaceOf seat.game seat.place → IsMover seat → (moves : List (List (ℕ × ℕ))) → Lists seat moves → (answer : List (ℕ × ℕ)) → Contains moves answer → IsMoveLength (length answer) → IsAnswer seat answer
chosen_answer seat lawful fits mover moves lists answer there many =
    let legal : IsLegal seat.game seat.place answer = All-contains (IsLegal seat.game seat.place) moves answer lists.listed.legal there in
    record {
      has = (mover, λ finished. finished.no_move answer legal.0 legal.1);
      legal = legal;
      are = legal_spelled seat.game lawful seat.place fits answer legal many;
      few = many.1;
    }

-- the answer if one is chosen, and none if there is none
pub chosen_answers : (seat : AbstractSeat) → IsGame seat.game → IsPlaceOf seat.game seat.place → IsMover seat → (moves : List (List (ℕ × ℕ))) → Lists seat moves → (chosen : Option (List (ℕ × ℕ))) → IfSome chosen (Contains moves) → IfSome chosen (λ answer. IsMoveLength (length answer)) → IfSome chosen (IsAnswer seat)
chosen_answers seat lawful fits mover moves lists (Some answer) there many = chosen_answer seat lawful fits mover moves lists answer there many
chosen_answers seat lawful fits mover moves lists None there many = tt

pub none_chosen : (seat : AbstractSeat) (moves : List (List (ℕ × ℕ))) → Lists seat moves → (chosen : Option (List (ℕ × ℕ))) → IfNone chosen (moves ≡ []) → IfNone chosen (¬ HasMoveToMake seat)
none_chosen seat moves lists (Some answer) none = tt
none_chosen seat moves lists None none = none_to_make seat moves lists none
