-- No part of a message is left in a match's streams, from one arrival to the next.
use Rattle.rbg_base.proofs.Common.{◌≡◌, ℕ, List, [], Option, None, Some, replicate, refl, sym, ap, ◌∙◌, subst, false, none-some}
use Rattle.rbg_wire.specs.declared.outcome.Outcome.{Outcome}
use Rattle.rbg_wire.specs.Inboxes.{item_of}
use Rattle.rbg_wire.specs.Streams.{Rest}
use Rattle.rbg_match.specs.declared.arrival.Arrival.{Arrival}
use Rattle.rbg_match.specs.declared.arrival.Arrival.TheVariants.{Plain, Item}
use Rattle.rbg_script.specs.declared.event.Event.TheVariants.{Piece, Ended, Tick}
use Rattle.rbg_match.specs.Arrivals.{MayCome, arrival_of}
use Rattle.rbg_match.proofs.Arriving.{rests_of_item}
use Rattle.rbg_rules.specs.Meaning.{AbstractGame}
use Rattle.rbg_match.proofs.Common.{AreMarks, Delivery, HasHistory, MatchState, Steps, Streams, delivered, rests_after, seats_of}
use Rattle.rbg_hall.proofs.Emptying.{no_marks}
use Rattle.rbg_hall.proofs.TableCommon.{AreBetween, ComesWhole}
use Rattle.rbg_hall.specs.internal.Running.{IsRunning}

pub may_come : (arrival : Arrival) (rests : List Rest) → ComesWhole arrival → AreBetween rests → MayCome rests arrival
may_come (Plain event) rests whole between = tt
may_come (Item seat at took) rests whole between = (whole, between seat)

rests_stay : (arrival : Arrival) (rests : List Rest) → ComesWhole arrival → AreBetween rests → rests_after rests (arrival_of arrival) ≡ rests
rests_stay (Plain (Piece seat at bytes)) rests whole between = absurd whole
rests_stay (Plain (Ended seat at)) rests whole between = refl
rests_stay (Plain (Tick at)) rests whole between = refl
rests_stay (Item seat at took) rests whole between = rests_of_item rests seat at (item_of took) whole (between seat)

-- a match that goes on after a step went on before it
pub still_between : {old new : MatchState} {before after : List (List _)} (arrival : Arrival) → ComesWhole arrival → Steps old (arrival_of arrival) new before after → (old.failed ≡ false → old.play.outcome ≡ None → AreBetween old.streams.rests) → new.play.outcome ≡ None → AreBetween new.streams.rests
still_between {old} {new} arrival whole step held going = by_outcome old.play.outcome refl
  where
    by_outcome : (outcome : Option Outcome) → old.play.outcome ≡ outcome → AreBetween new.streams.rests
    by_outcome None was =
        let between = held step.worked was in
        let same : new.streams.rests ≡ old.streams.rests = ap (λ (s : Streams). s.rests) (step.streams going) ∙ rests_stay arrival old.streams.rests whole between in
        subst AreBetween (sym same) between
    by_outcome (Some outcome) was = absurd (none-some outcome (sym going ∙ ap (λ (state : MatchState). state.play.outcome) (step.stays outcome was) ∙ was))

-- a match that handled what arrived, whose outbox was emptied
pub stepped_running : {old new : MatchState} (arrival : Arrival) (outbox said cleared : List (List ℕ)) → ComesWhole arrival → IsRunning old outbox → Steps old (arrival_of arrival) new outbox said → (HasHistory old → HasHistory new) → ((before : List (List ℕ)) (told : List Delivery) → said ≡ delivered before told → AreMarks before (replicate 8 0) → cleared ≡ before) → IsRunning new cleared
stepped_running {old} {new} arrival outbox said cleared whole held step keeps cut =
    let marks : AreMarks outbox (replicate 8 0) = subst (λ (before : List (List ℕ)). AreMarks before (replicate 8 0)) (sym held.empty) (no_marks (seats_of old.game)) in
    record {
      empty = cut outbox step.outgoing step.told marks ∙ held.empty ∙ ap (λ (one : AbstractGame). replicate (seats_of one) []) (sym step.same_game);
      history = λ works. keeps (held.history step.worked);
      between = λ works going. still_between arrival whole step held.between going;
    }
