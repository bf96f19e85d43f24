-- What comes of moves that are tried.
use Rattle.rbg_base.proofs.Common.{◌≡◌, ◌≢◌, ◌<◌, ◌≤◌, ◌+◌, ◌⊎◌, ℕ, List, [], ◌∷◌, ◌++◌, length, take, drop, get_or, Bool, true, false, IfSome, Contains, Option, Some, None, Result, Ok, Err, inl, inr, subst, sym, ap, ◌∙◌, arith, All-more, All-same, Contains-get_or, IfNone, is_some, IsErrAnd, false≢true}
use Rattle.std.proofs.lemmas.List.{take-append-drop, drop_more, length-append, take_all}
use Rattle.rbg_rules.specs.Meaning.{Finished, IsLegal, IsHeavyToFind}
use Rattle.rbg_moves.specs.declared.unsettled.Unsettled.{Unsettled}
use Rattle.rbg_moves.specs.Limits.{most_keeper_moves}
use Rattle.rbg_view.specs.declared.move_readings.Reading.{Reading}
use Rattle.rbg_view.specs.Moving.{CanMakeNone, IsHeavyAt, IsOfMover, KeeperMoves, Makes, MakesFirst, MakesNone, MakesOne, MeetsHeavy, Settles, TiresKeeper, Waits}
use Rattle.rbg_view.specs.Moving.IsHeavyAt.{to_try, to_find}
use Rattle.rbg_view.specs.Moving.Waits.{longer}
use Rattle.rbg_moves.specs.Playing.{Playing}
use Rattle.rbg_view.specs.internal.Trying.{IsHeavyReading, TellsMade, TellsMoved, TellsOne}

-- the move of a reading, from its pairs
pub tells_made : (reading : Reading) (from to : Playing) → IsOfMover from reading → (made : Bool) → TellsMoved reading.pairs from to made → TellsMade reading from to made
tells_made reading from to who true moved = record { who = who; moves = moved }
tells_made reading from to who false kept = (kept.0, λ other makes. kept.1 other makes.moves)

-- the list before an item, the item, and what is after it
parts_at : (xs : List Reading) (i : ℕ) (x : Reading) → i < length xs → x ≡ get_or xs i x → xs ≡ take i xs ++ x ∷ drop (i + 1) xs
parts_at xs i x within is =
    sym (take-append-drop i xs) ∙ ap (λ ys. take i xs ++ ys) (drop_more xs i x within) ∙ ap (λ y. take i xs ++ y ∷ drop (i + 1) xs) (sym is)

-- the first that can be made
pub first_made : (readings : List Reading) (from at to : Playing) (i : ℕ) (reading : Reading) → i < length readings → reading ≡ get_or readings i reading → at ≡ from → CanMakeNone from (take i readings) → Makes at reading to → MakesFirst readings from to
first_made readings from at to i reading within is same none makes = record {
  before = take i readings;
  reading = reading;
  beyond = drop (i + 1) readings;
  parts = parts_at readings i reading within is;
  none = none;
  makes = subst (λ p. Makes p reading to) same makes;
}

-- one more that can't be made
pub none_more : (readings : List Reading) (from at : Playing) (i : ℕ) (reading : Reading) → i < length readings → reading ≡ get_or readings i reading → at ≡ from → CanMakeNone from (take i readings) → ((other : Playing) → ¬ Makes at reading other) → CanMakeNone from (take (i + 1) readings)
none_more readings from at i reading within is same none here =
    All-more (λ r. (to : Playing) → ¬ Makes from r to) readings i reading within none
    (subst (λ (r : Reading). (to : Playing) → ¬ Makes from r to) is (subst (λ (p : Playing). (to : Playing) → ¬ Makes p reading to) same here))

-- a move of a reading whose question is above the limits
pub heavy_at : (readings : List Reading) (from at : Playing) (i : ℕ) (reading : Reading) → i < length readings → reading ≡ get_or readings i reading → at ≡ from → (to : Playing) → IsHeavyReading reading at to → (to ≡ from) × IsHeavyAt from readings
heavy_at readings from at i reading within is same to heavy = (
  heavy.0 ∙ same,
  subst (λ (p : Playing). IsHeavyAt p readings) same
      (to_try {reading = reading} (subst (Contains readings) (sym is) (Contains-get_or readings i reading within)) heavy.1 heavy.2),
)

-- none of all
pub none_of_all : (readings : List Reading) (from : Playing) (i : ℕ) → length readings ≤ i → CanMakeNone from (take i readings) → CanMakeNone from readings
none_of_all readings from i all none =
    All-same (λ r. (to : Playing) → ¬ Makes from r to) readings (take i readings) (sym (take_all i readings all)) none

-- an error that is passed on
pub same_error : {X Y : Type 0} (inner : Result X Unsettled) (result : Result Y Unsettled) (why error : Unsettled) → IsErrAnd result (λ e. e ≡ why) → inner ≡ Err why → result ≡ Err error → inner ≡ Err error
same_error inner (Ok y) why error passed was is = absurd passed
same_error inner (Err e) why error passed was is = let same : e ≡ error = cc in was ∙ ap Err (sym passed ∙ same)

-- what comes of readings once the keeper has moved
pub one_made : (readings : List Reading) (from at to : Playing) → Waits readings from at → MakesFirst readings at to → MakesOne readings from to
one_made readings from at to waits makes = record { at = at; waits = waits; makes = makes }

pub none_made : (readings : List Reading) (from at middle to : Playing) → Waits readings from at → (middle ≡ at) × CanMakeNone at readings → (to ≡ middle) × ((middle.place.state.player ≢ 0) ⊎ Finished middle.game middle.place) → MakesNone readings from to
none_made readings from at middle to waits first rests =
    let same : to ≡ at = rests.0 ∙ first.0 in
    record {
      waits = subst (λ (p : Playing). Waits readings from p) (sym same) waits;
      none = subst (λ (p : Playing). CanMakeNone p readings) (sym same) first.1;
      rests = subst (λ (p : Playing). (p.place.state.player ≢ 0) ⊎ Finished p.game p.place) (sym rests.0) rests.1;
    }

pub waits_longer : (readings : List Reading) (from at middle to : Playing) → Waits readings from at → (middle ≡ at) × CanMakeNone at readings → KeeperMoves middle to → Waits readings from to
waits_longer readings from at middle to waits first moves =
    longer waits first.1 (subst (λ (p : Playing). KeeperMoves p to) first.0 moves)

pub tired : (readings : List Reading) (from at middle to : Playing) → Waits readings from at → (middle ≡ at) × CanMakeNone at readings → (to ≡ middle) × (middle.place.state.player ≡ 0) × (middle.in_a_row ≡ most_keeper_moves) → TiresKeeper readings from to
tired readings from at middle to waits first keeper =
    let same : to ≡ at = keeper.0 ∙ first.0 in
    record {
      waits = subst (λ (p : Playing). Waits readings from p) (sym same) waits;
      none = subst (λ (p : Playing). CanMakeNone p readings) (sym same) first.1;
      keeper = subst (λ (p : Playing). p.place.state.player ≡ 0) (sym keeper.0) keeper.1;
      many = subst (λ (p : Playing). p.in_a_row ≡ most_keeper_moves) (sym keeper.0) keeper.2;
    }

pub heavy_to_find : (readings : List Reading) (from at middle to : Playing) → Waits readings from at → (middle ≡ at) × CanMakeNone at readings → (to ≡ middle) × (middle.place.state.player ≡ 0) × IsHeavyToFind middle.game middle.place → MeetsHeavy readings from to
heavy_to_find readings from at middle to waits first keeper =
    let same : to ≡ at = keeper.0 ∙ first.0 in
    record {
      waits = subst (λ (p : Playing). Waits readings from p) (sym same) waits;
      heavy = subst (λ (p : Playing). IsHeavyAt p readings) (sym keeper.0) (to_find keeper.1 keeper.2);
    }

pub heavy_to_try : (readings : List Reading) (from at to : Playing) → Waits readings from at → (to ≡ at) × IsHeavyAt at readings → MeetsHeavy readings from to
heavy_to_try readings from at to waits heavy =
    record {
      waits = subst (λ (p : Playing). Waits readings from p) (sym heavy.0) waits;
      heavy = subst (λ (p : Playing). IsHeavyAt p readings) (sym heavy.0) heavy.1;
    }

-- of no moves none is made
no_parts : (before beyond : List Reading) (reading : Reading) → [] ≡ before ++ reading ∷ beyond → ⊥
no_parts before beyond reading is = absurd (omega (arith, ap length is, length-append before (reading ∷ beyond)))

pub rests_without : (from to : Playing) (made : Bool) → TellsOne [] from to made → MakesNone [] from to
rests_without from to true one = absurd (no_parts one.makes.before one.makes.beyond one.makes.reading one.makes.parts)
rests_without from to false none = none

-- where the keeper is to move at last, play is finished
finished_of : (to : Playing) → to.place.state.player ≡ 0 → (to.place.state.player ≢ 0) ⊎ Finished to.game to.place → Finished to.game to.place
finished_of to keeper (inl player) = absurd (player keeper)
finished_of to keeper (inr finished) = finished

pub settled_keeper : (from to : Playing) (made : Bool) → TellsOne [] from to made → to.place.state.player ≡ 0 → Settles from to false
settled_keeper from to made told keeper =
    let rests = rests_without from to made told in
    record { makes = rests; going = λ yes. absurd (false≢true yes); over = λ _. finished_of to keeper rests.rests }

-- where a player is to move at last, a move was looked for
settles_found : {X : Type 0} (from to : Playing) (made : Bool) (found : Option X) (pairs_of : X → List (ℕ × ℕ)) → TellsOne [] from to made → IfSome found (λ x. IsLegal to.game to.place (pairs_of x)) → IfNone found (Finished to.game to.place) → Settles from to (is_some found)
settles_found from to made None pairs_of told legal over = record {
  makes = rests_without from to made told;
  going = λ yes. absurd (false≢true yes);
  over = λ _. over;
}
settles_found from to made (Some x) pairs_of told legal over = record {
  makes = rests_without from to made told;
  going = λ _. (pairs_of x, legal);
  over = λ no. absurd (false≢true (sym no));
}

pub settled_player : {X : Type 0} (from to new : Playing) (made goes_on : Bool) (found : Option X) (pairs_of : X → List (ℕ × ℕ)) → TellsOne [] from to made → new ≡ to → goes_on ≡ is_some found → IfSome found (λ x. IsLegal to.game to.place (pairs_of x)) → IfNone found (Finished to.game to.place) → Settles from new goes_on
settled_player from to new made goes_on found pairs_of told kept is legal over =
    subst (λ (p : Playing). Settles from p goes_on) (sym kept) (subst (λ one. Settles from to one) (sym is) (settles_found from to made found pairs_of told legal over))
