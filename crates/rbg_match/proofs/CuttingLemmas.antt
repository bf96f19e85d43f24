-- How a seat's stream is cut into pieces does not matter.
use Rattle.rbg_base.proofs.Common.{◌≡◌, ℕ, zero, suc, ◌-◌, ◌<◌, ◌≤◌, Bool, true, false, List, [], ◌∷◌, ◌++◌, length, map, set, refl, sym, ap, ◌∙◌, subst, append_assoc, arith, ◌&&◌, nat_le, min, if◌then◌else◌, concat, max-eq_left, le-max_right}
use Rattle.std.proofs.lemmas.Bool.{and_parts, leb-true}
use Rattle.std.proofs.lemmas.List.{append-nil, length-set, get_or-set_same, map-append}
use Rattle.rbg_wire.specs.Streams.{Rest, incomplete, Cut, cut, after_items}
use Rattle.rbg_wire.proofs.CutLemmas.{cut-append}
use Rattle.rbg_rules.specs.Meaning.{AbstractGame}
use Rattle.rbg_match.proofs.Common.{Config, Delivery, AbstractInput, tick, sent, AbstractEvent, piece, TimedInput, Streams, counted, has_seat, rest_of, cut_of, inputs_in, rests_after, inputs_at, timed_inputs_in, streams_after, streams_at_start, timed_inputs_of, Cutting, latest_moment, message_limit, AbstractPlay, seats_of, HandlesAll}
use Rattle.rbg_match.proofs.AllEvents.{streams_through}
use Rattle.rbg_match.proofs.Events.{inputs_of_piece, left_of_piece}
use Rattle.rbg_match.proofs.Transcripts.{of_other_inputs}
use Rattle.rbg_match.proofs.OneByOne.{all_to_each, each_to_all}
use Rattle.rbg_match.proofs.Settling.{tick_at, tick_dropped, tick_added}

-- writing an index twice
set-set : {A : Type 0} (xs : List A) (i : ℕ) (x y : A) → set (set xs i x) i y ≡ set xs i y
set-set [] i x y = refl
set-set (z ∷ zs) zero x y = refl
set-set (z ∷ zs) (suc i) x y = ap (λ l. z ∷ l) (set-set zs i x y)

-- What two pieces of a seat mean, one directly after the other, and what the one piece of their bytes does.
record IsCutInTwo (rests : List Rest) (seat at : ℕ) (a b : List ℕ) : Type 0 where
  pub later : List AbstractInput
  pub whole : inputs_in rests (piece seat at (a ++ b)) ≡ inputs_in rests (piece seat at a) ++ later
  pub second : inputs_in (rests_after rests (piece seat at a)) (piece seat at b) ≡ tick ∷ later
  pub same : rests_after (rests_after rests (piece seat at a)) (piece seat at b) ≡ rests_after rests (piece seat at (a ++ b))

module _ (rests : List Rest) (seat at : ℕ) (a b : List ℕ) where
  there : has_seat rests seat ≡ true → seat - 1 < length rests
  there test =
      let parts = and_parts (nat_le 1 seat) (nat_le seat (length rests)) test in
      let some = leb-true 1 seat parts.0 in
      let most = leb-true seat (length rests) parts.1 in
      omega (arith, some, most)

  -- the rest of the seat's stream between the pieces
  abbrev between : Rest
  between = (cut_of rests seat a).rest

  -- what follows the second piece's tick
  abbrev later_inputs : List AbstractInput
  later_inputs = map (sent seat) (cut message_limit between b).items

  module _ (test : has_seat rests seat ≡ true) where
    after_first : rests_after rests (piece seat at a) ≡ set rests (seat - 1) between
    after_first = left_of_piece rests seat at a test

    seat_still_there : has_seat (set rests (seat - 1) between) seat ≡ true
    seat_still_there = ap (λ n. nat_le 1 seat && nat_le seat n) (length-set rests (seat - 1) between) ∙ test

    cut_of_second : cut_of (set rests (seat - 1) between) seat b ≡ cut message_limit between b
    cut_of_second = ap (λ (rest : Rest). cut message_limit rest b) (get_or-set_same rests (seat - 1) between (incomplete []) (there test))

    cut_of_whole : cut_of rests seat (a ++ b) ≡ after_items (cut_of rests seat a).items (cut message_limit between b)
    cut_of_whole = cut-append message_limit (rest_of rests seat) a b

    two_of_seat : IsCutInTwo rests seat at a b
    two_of_seat = record {
      later = later_inputs;
      whole =
          inputs_of_piece rests seat at (a ++ b) test
          ∙ ap (λ (c : Cut). tick ∷ map (sent seat) c.items) cut_of_whole
          ∙ ap (λ (inputs : List AbstractInput). tick ∷ inputs) (map-append (sent seat) (cut_of rests seat a).items (cut message_limit between b).items)
          ∙ sym (ap (λ (inputs : List AbstractInput). inputs ++ later_inputs) (inputs_of_piece rests seat at a test));
      second =
          ap (λ (one : List Rest). inputs_in one (piece seat at b)) after_first
          ∙ inputs_of_piece (set rests (seat - 1) between) seat at b seat_still_there
          ∙ ap (λ (c : Cut). tick ∷ map (sent seat) c.items) cut_of_second;
      same =
          ap (λ (one : List Rest). rests_after one (piece seat at b)) after_first
          ∙ left_of_piece (set rests (seat - 1) between) seat at b seat_still_there
          ∙ ap (λ (c : Cut). set (set rests (seat - 1) between) (seat - 1) c.rest) cut_of_second
          ∙ set-set rests (seat - 1) between (cut message_limit between b).rest
          ∙ sym (left_of_piece rests seat at (a ++ b) test ∙ ap (λ (c : Cut). set rests (seat - 1) c.rest) cut_of_whole);
    }

  cut_in_two : (test : Bool) → has_seat rests seat ≡ test → IsCutInTwo rests seat at a b
  cut_in_two true test = two_of_seat test
  cut_in_two false test = record {
    later = [];
    whole = rw test refl;
    second = rw (test, test) refl;
    same = rw (test, test) refl;
  }

-- the same moment counts again
counted_again : (streams : Streams) (seat at : ℕ) (bytes : List ℕ) → counted (streams_after streams (piece seat at bytes)) at ≡ counted streams at
counted_again streams seat at bytes = max-eq_left (le-max_right streams.moment (min at latest_moment))

-- What a piece and its two parts are input as, with the events after them: the same but for one tick.
record IsTimedInTwo (streams : Streams) (seat at : ℕ) (a b : List ℕ) (after : List AbstractEvent) : Type 0 where
  pub input : AbstractInput
  pub inputs : List AbstractInput
  pub rest : List TimedInput
  pub whole : timed_inputs_of streams (piece seat at (a ++ b) ∷ after) ≡ inputs_at (counted streams at) (input ∷ inputs) ++ rest
  pub parts : timed_inputs_of streams (piece seat at a ∷ piece seat at b ∷ after) ≡ inputs_at (counted streams at) (input ∷ inputs) ++ tick_at (counted streams at) ∷ rest

module _ (streams : Streams) (seat at : ℕ) (a b : List ℕ) (after : List AbstractEvent) (two : IsCutInTwo streams.rests seat at a b) where
  abbrev moment : ℕ
  moment = counted streams at

  -- the inputs of the first part after its tick
  abbrev of_first : List AbstractInput
  of_first = if has_seat streams.rests seat then map (sent seat) (cut_of streams.rests seat a).items else []

  abbrev timed : AbstractInput → TimedInput
  timed input = record { moment = moment; input = input }

  abbrev of_others : List TimedInput
  of_others = timed_inputs_of (streams_after streams (piece seat at (a ++ b))) after

  streams_alike : streams_after (streams_after streams (piece seat at a)) (piece seat at b) ≡ streams_after streams (piece seat at (a ++ b))
  streams_alike = λ i. record { moment = counted_again streams seat at a i; rests = two.same i }

  of_second : timed_inputs_in (streams_after streams (piece seat at a)) (piece seat at b) ≡ tick_at moment ∷ inputs_at moment two.later
  of_second =
      ap (λ (one : ℕ). inputs_at one (inputs_in (rests_after streams.rests (piece seat at a)) (piece seat at b))) (counted_again streams seat at a)
      ∙ ap (inputs_at moment) two.second

  timed_in_two : IsTimedInTwo streams seat at a b after
  timed_in_two = record {
    input = tick;
    inputs = of_first;
    rest = inputs_at moment two.later ++ of_others;
    whole =
        ap (λ (inputs : List AbstractInput). inputs_at moment inputs ++ of_others) two.whole
        ∙ ap (λ (inputs : List TimedInput). inputs ++ of_others) (map-append timed (tick ∷ of_first) two.later)
        ∙ append_assoc (inputs_at moment (tick ∷ of_first)) (inputs_at moment two.later) of_others;
    parts =
        ap (λ (one : List TimedInput). inputs_at moment (tick ∷ of_first) ++ (one ++ timed_inputs_of (streams_after (streams_after streams (piece seat at a)) (piece seat at b)) after)) of_second
        ∙ ap (λ (one : Streams). inputs_at moment (tick ∷ of_first) ++ (tick_at moment ∷ (inputs_at moment two.later ++ timed_inputs_of one after))) streams_alike;
  }

-- the inputs of two lists of events
pub timed_inputs_of-append : (streams : Streams) (before after : List AbstractEvent) → timed_inputs_of streams (before ++ after) ≡ timed_inputs_of streams before ++ timed_inputs_of (streams_through streams before) after
timed_inputs_of-append streams [] after = refl
timed_inputs_of-append streams (event ∷ before) after =
    ap (λ next. timed_inputs_in streams event ++ next) (timed_inputs_of-append (streams_after streams event) before after)
    ∙ sym (append_assoc (timed_inputs_in streams event) (timed_inputs_of (streams_after streams event) before) (timed_inputs_of (streams_through (streams_after streams event) before) after))

module _ (game : AbstractGame) (config : Config) (some : 1 ≤ config.turn_ms) (streams : Streams) (play end : AbstractPlay) (outgoing : List Delivery) where
  -- the inputs that these events mean are handled
  abbrev Handled : List AbstractEvent → Type 0
  Handled events = HandlesAll game config play (timed_inputs_of streams events) end outgoing

  handled_as : (xs ys : List AbstractEvent) → xs ≡ ys → Handled xs → Handled ys
  handled_as xs ys same handles = subst Handled same handles

  module _ (before after : List AbstractEvent) (seat at : ℕ) (a b : List ℕ) where
    abbrev here : Streams
    here = streams_through streams before

    in_two : IsTimedInTwo here seat at a b after
    in_two = timed_in_two here seat at a b after (cut_in_two here.rests seat at a b (has_seat here.rests seat) refl)

    whole_is : (two : IsTimedInTwo here seat at a b after) → timed_inputs_of streams (before ++ piece seat at (a ++ b) ∷ after) ≡ timed_inputs_of streams before ++ (inputs_at (counted here at) (two.input ∷ two.inputs) ++ two.rest)
    whole_is two = timed_inputs_of-append streams before (piece seat at (a ++ b) ∷ after) ∙ ap (λ next. timed_inputs_of streams before ++ next) two.whole

    parts_are : (two : IsTimedInTwo here seat at a b after) → timed_inputs_of streams (before ++ piece seat at a ∷ piece seat at b ∷ after) ≡ timed_inputs_of streams before ++ (inputs_at (counted here at) (two.input ∷ two.inputs) ++ tick_at (counted here at) ∷ two.rest)
    parts_are two = timed_inputs_of-append streams before (piece seat at a ∷ piece seat at b ∷ after) ∙ ap (λ next. timed_inputs_of streams before ++ next) two.parts

    cut_once : Handled (before ++ piece seat at (a ++ b) ∷ after) → Handled (before ++ piece seat at a ∷ piece seat at b ∷ after)
    cut_once handles =
        let two = in_two in
        let whole : HandlesAll game config play (timed_inputs_of streams before ++ (inputs_at (counted here at) (two.input ∷ two.inputs) ++ two.rest)) end outgoing = subst (λ (inputs : List TimedInput). HandlesAll game config play inputs end outgoing) (whole_is two) handles in
        let parts = each_to_all (tick_added game config some (counted here at) (timed_inputs_of streams before) two.input two.inputs two.rest (all_to_each whole)) in
        subst (λ (inputs : List TimedInput). HandlesAll game config play inputs end outgoing) (sym (parts_are two)) parts

    join_once : Handled (before ++ piece seat at a ∷ piece seat at b ∷ after) → Handled (before ++ piece seat at (a ++ b) ∷ after)
    join_once handles =
        let two = in_two in
        let parts : HandlesAll game config play (timed_inputs_of streams before ++ (inputs_at (counted here at) (two.input ∷ two.inputs) ++ tick_at (counted here at) ∷ two.rest)) end outgoing = subst (λ (inputs : List TimedInput). HandlesAll game config play inputs end outgoing) (parts_are two) handles in
        let whole = each_to_all (tick_dropped game config some (counted here at) (timed_inputs_of streams before) two.input two.inputs two.rest (all_to_each parts)) in
        subst (λ (inputs : List TimedInput). HandlesAll game config play inputs end outgoing) (sym (whole_is two)) whole

  module _ (after : List AbstractEvent) (seat at : ℕ) where
    -- the events before the pieces, and one more
    one_before : (before rest : List AbstractEvent) (event : AbstractEvent) → (before ++ event ∷ []) ++ rest ≡ before ++ event ∷ rest
    one_before before rest event = append_assoc before (event ∷ []) rest

    cut_all : (before : List AbstractEvent) (first : List ℕ) (others : List (List ℕ)) → Handled (before ++ piece seat at (concat (first ∷ others)) ∷ after) → Handled (before ++ (map (piece seat at) (first ∷ others) ++ after))
    cut_all before first [] handles = handled_as _ _ (ap (λ (bytes : List ℕ). before ++ piece seat at bytes ∷ after) (append-nil first)) handles
    cut_all before first (second ∷ more) handles =
        let once = cut_once before after seat at first (concat (second ∷ more)) handles in
        let moved = handled_as _ _ (sym (one_before before (piece seat at (concat (second ∷ more)) ∷ after) (piece seat at first))) once in
        handled_as _ _ (one_before before (map (piece seat at) (second ∷ more) ++ after) (piece seat at first)) (cut_all (before ++ piece seat at first ∷ []) second more moved)

    join_all : (before : List AbstractEvent) (first : List ℕ) (others : List (List ℕ)) → Handled (before ++ (map (piece seat at) (first ∷ others) ++ after)) → Handled (before ++ piece seat at (concat (first ∷ others)) ∷ after)
    join_all before first [] handles = handled_as _ _ (ap (λ (bytes : List ℕ). before ++ piece seat at bytes ∷ after) (sym (append-nil first))) handles
    join_all before first (second ∷ more) handles =
        let moved = handled_as _ _ (sym (one_before before (map (piece seat at) (second ∷ more) ++ after) (piece seat at first))) handles in
        let joined = join_all (before ++ piece seat at first ∷ []) second more moved in
        join_once before after seat at first (concat (second ∷ more)) (handled_as _ _ (one_before before (piece seat at (concat (second ∷ more)) ∷ after) (piece seat at first)) joined)

pub cutting : Cutting
cutting game text config now some before after seat at first others play outgoing =
    let streams = streams_at_start (seats_of game) now in (
      λ whole. of_other_inputs _ whole
          (handled_as game config some streams whole.opened play whole.replies _ _ (sym (append_assoc before (map (piece seat at) (first ∷ others)) after))
          (cut_all game config some streams whole.opened play whole.replies after seat at before first others whole.goes_on)),
      λ parts. of_other_inputs _ parts
          (join_all game config some streams parts.opened play parts.replies after seat at before first others
          (handled_as game config some streams parts.opened play parts.replies _ _ (append_assoc before (map (piece seat at) (first ∷ others)) after) parts.goes_on)),
    )
