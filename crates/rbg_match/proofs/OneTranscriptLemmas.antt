-- Two transcripts of the same inputs in which the keeper makes the same moves are equal until one of them ends because a
-- question was above the limits.
use Rattle.rbg_base.proofs.Common.{◌≡◌, ◌-◌, ℕ, suc, ◌<◌, ◌≤◌, ◌==◌, Bool, true, false, set, List, [], ◌∷◌, ◌++◌, length, map, Some, refl, sym, ap, ◌∙◌, subst, append_assoc, arith, if◌then◌else◌, All, filter, filter-append, All-nil, All-head, All-tail, All-append, All-weaker}
use Rattle.std.proofs.lemmas.Bool.{ne_eqb}
use Rattle.std.proofs.lemmas.List.{append-nil, append_cancel_left, map-append, length-set, length-replicate}
use Rattle.rbg_wire.specs.declared.message.Reason.{Reason}
use Rattle.rbg_wire.specs.declared.outcome.Outcome.{Outcome}
use Rattle.rbg_wire.specs.declared.outcome.Outcome.TheVariants.{Heavy}
use Rattle.rbg_wire.proofs.Common.{move_message, end_message, Rest, incomplete}
use Rattle.rbg_wire.proofs.PairLemmas.{one_move}
use Rattle.rbg_rules.specs.Meaning.{IsNumbered, AbstractGame, AbstractPlace, Legal}
use Rattle.rbg_rules.proofs.PlaceLemmas.{one_place_law}
use Rattle.rbg_match.proofs.Common.{Config, Made, Delivery, to_each, AbstractPlay, mover_of, ended, moved, PlaysOn, MayBeAsked, seats_of, AbstractInput, Refuses, Judges, HandlesInTime, Handles, AbstractEvent, piece, end_of_stream, moment_alone, TimedInput, Streams, streams_at_start, streams_after, counted, moment_of, has_seat, cut_of, rests_after, timed_inputs_in, timed_inputs_of, keeper_pairs, keeper_run, IsHeavyEnd, HaveOneKeeper, StopsWithin, AreAlike, equal, one_stops, other_stops, OneUntilHeavy, OneTranscript, greetings}
use Rattle.rbg_moves.specs.Limits.{most_keeper_moves}
use Rattle.rbg_base.specs.Move.{most_pairs}
use Rattle.rbg_match.specs.PlayingOn as on
use Rattle.rbg_match.specs.Handling as handling
use Rattle.rbg_match.proofs.Histories.{IsInputOf, IsInputAt, timed_of_event}
use Rattle.rbg_match.proofs.EndedLemmas.{not_both, stays_at_input}
use Rattle.rbg_match.proofs.OneByOne.{HandlesEach, none, more, all_to_each}

-- the moves made so far stay
abbrev Grows : (play after : AbstractPlay) → Type 0
Grows play after = (later : List Made) × (after.made ≡ play.made ++ later)

grows_not : (play : AbstractPlay) → Grows play play
grows_not play = ([], sym (append-nil play.made))

grows_both : (play middle after : AbstractPlay) → Grows play middle → Grows middle after → Grows play after
grows_both play middle after first next = (first.0 ++ next.0, next.1 ∙ ap (λ (moves : List Made). moves ++ next.0) first.1 ∙ append_assoc play.made first.0 next.0)

one_more : (play : AbstractPlay) (moment : ℕ) (pairs : List (ℕ × ℕ)) (to : AbstractPlace) → Grows play (moved play moment pairs to)
one_more play moment pairs to = (record { player = mover_of play; at = moment; pairs = pairs } ∷ [], refl)

plays_on_grows : {game : AbstractGame} {moment n : ℕ} {play after : AbstractPlay} {outgoing : List Delivery} → PlaysOn game moment n play after outgoing → Grows play after
plays_on_grows {play = play} (on.endless is_keeper many) = grows_not play
plays_on_grows {play = play} (on.heavy may hard) = grows_not play
plays_on_grows {play = play} (on.finished may never) = grows_not play
plays_on_grows {moment = moment} {play = play} {after = after} (on.keeper {pairs = pairs} {to = to} is_keeper may legal short goes) = grows_both play (moved play moment pairs to) after (one_more play moment pairs to) (plays_on_grows goes)
plays_on_grows {play = play} (on.turn player legal) = grows_not play

refuses_grows : {seats : ℕ} {config : Config} {play : AbstractPlay} {seat : ℕ} {reason : Reason} {after : AbstractPlay} {outgoing : List Delivery} → Refuses seats config play seat reason after outgoing → Grows play after
refuses_grows {play = play} (handling.counted few) = grows_not play
refuses_grows {play = play} (handling.spent many) = grows_not play

judges_grows : {game : AbstractGame} {config : Config} {play : AbstractPlay} {moment : ℕ} {pairs : List (ℕ × ℕ)} {after : AbstractPlay} {outgoing : List Delivery} → Judges game config play moment pairs after outgoing → Grows play after
judges_grows {play = play} (handling.heavy hard) = grows_not play
judges_grows (handling.illegal never refuses) = refuses_grows refuses
judges_grows {play = play} {moment = moment} {pairs = pairs} {after = after} (handling.legal {to = to} legal goes) = grows_both play (moved play moment pairs to) after (one_more play moment pairs to) (plays_on_grows goes)

in_time_grows : {game : AbstractGame} {config : Config} {play : AbstractPlay} {moment : ℕ} {input : AbstractInput} {after : AbstractPlay} {outgoing : List Delivery} → HandlesInTime game config play moment input after outgoing → Grows play after
in_time_grows {play = play} handling.nothing = grows_not play
in_time_grows {play = play} handling.leaving = grows_not play
in_time_grows (handling.out_of_turn other refuses) = refuses_grows refuses
in_time_grows (handling.unreadable mover no_move refuses) = refuses_grows refuses
in_time_grows (handling.too_many mover spells long refuses) = refuses_grows refuses
in_time_grows (handling.judged mover spells short judges) = judges_grows judges

handles_grows : {game : AbstractGame} {config : Config} {play : AbstractPlay} {moment : ℕ} {input : AbstractInput} {after : AbstractPlay} {outgoing : List Delivery} → Handles game config play moment input after outgoing → Grows play after
handles_grows {play = play} (handling.after_end ended) = grows_not play
handles_grows {play = play} (handling.overdue going late) = grows_not play
handles_grows (handling.in_time going early handles) = in_time_grows handles

each_grows : {game : AbstractGame} {config : Config} {play after : AbstractPlay} {inputs : List TimedInput} {outgoing : List Delivery} → HandlesEach game config play inputs after outgoing → Grows play after
each_grows {play = play} none = grows_not play
each_grows {play = play} {after = after} (more {middle = middle} handles rest) = grows_both play middle after (handles_grows handles) (each_grows rest)

-- what has ended stays so
pub each_stays : {game : AbstractGame} {config : Config} {play after : AbstractPlay} {inputs : List TimedInput} {outgoing : List Delivery} (outcome : Outcome) → play.outcome ≡ Some outcome → HandlesEach game config play inputs after outgoing → (after ≡ play) × (outgoing ≡ [])
each_stays outcome is none = (refl, refl)
each_stays outcome is (more {first = first} {next = next} handles rest) =
    let here = stays_at_input outcome is handles in
    let later = each_stays outcome (ap (λ (one : AbstractPlay). one.outcome) here.0 ∙ is) rest in
    (later.0 ∙ here.0, ap (λ (l : List Delivery). l ++ next) here.1 ∙ later.1)

-- the pairs of the keeper's moves in two lists of moves
keeper_pairs-append : (moves others : List Made) → keeper_pairs (moves ++ others) ≡ keeper_pairs moves ++ keeper_pairs others
keeper_pairs-append moves others =
    let pairs : Made → List (ℕ × ℕ) = λ made. made.pairs in
    let keepers : Made → Bool = λ made. made.player == 0 in
    ap (map pairs) (filter-append keepers moves others) ∙ map-append pairs (filter keepers moves) (filter keepers others)

-- the keeper's moves of a later state
later_moves : (before after : AbstractPlay) (grows : Grows before after) (later : List (List (ℕ × ℕ))) → keeper_pairs after.made ++ later ≡ keeper_pairs before.made ++ (keeper_pairs grows.0 ++ later)
later_moves before after grows later =
    ap (λ (moves : List Made). keeper_pairs moves ++ later) grows.1
    ∙ ap (λ (all : List (List (ℕ × ℕ))). all ++ later) (keeper_pairs-append before.made grows.0)
    ∙ append_assoc (keeper_pairs before.made) (keeper_pairs grows.0) later

-- the keeper's moves in a row, and one move more
run_more : (before : ℕ) (moves : List Made) (made : Made) → keeper_run before (moves ++ made ∷ []) ≡ (if made.player == 0 then suc (keeper_run before moves) else 0)
run_more before [] made = refl
run_more before (one ∷ moves) made = run_more (if one.player == 0 then suc before else 0) moves made

run_of_keeper : (play : AbstractPlay) (moment n : ℕ) (pairs : List (ℕ × ℕ)) (to : AbstractPlace) → mover_of play ≡ 0 → keeper_run 0 play.made ≡ n → keeper_run 0 (moved play moment pairs to).made ≡ suc n
run_of_keeper play moment n pairs to keeper run =
    let test : (mover_of play == 0) ≡ true = rw keeper refl in
    run_more 0 play.made (record { player = mover_of play; at = moment; pairs = pairs }) ∙ rw test (ap suc run)

run_of_player : (play : AbstractPlay) (moment : ℕ) (pairs : List (ℕ × ℕ)) (to : AbstractPlace) → 1 ≤ mover_of play → keeper_run 0 (moved play moment pairs to).made ≡ 0
run_of_player play moment pairs to player =
    let test : (mover_of play == 0) ≡ false = ne_eqb (mover_of play) 0 (λ keeper. omega (arith, keeper, player)) in
    run_more 0 play.made (record { player = mover_of play; at = moment; pairs = pairs }) ∙ rw test refl

-- the end because of a question
heavy_end : (play : AbstractPlay) {n : ℕ} → MayBeAsked n play → keeper_run 0 play.made ≡ n → IsHeavyEnd (ended play Heavy)
heavy_end play may run = record { heavy = refl; not_endless = λ keeper many. let few = may keeper in omega (arith, few, run, many) }

not_asked : (play : AbstractPlay) {n : ℕ} → MayBeAsked n play → mover_of play ≡ 0 → most_keeper_moves ≤ n → ⊥
not_asked play may keeper many = let few = may keeper in omega (arith, few, many)

-- what the keeper's first move after some moves is
keepers_first : (moves : List Made) (made : Made) (rest : List Made) → made.player ≡ 0 → keeper_pairs (moves ++ made ∷ rest) ≡ keeper_pairs moves ++ made.pairs ∷ keeper_pairs rest
keepers_first moves made rest keeper =
    let test : (made.player == 0) ≡ true = rw keeper refl in
    let own : keeper_pairs (made ∷ rest) ≡ made.pairs ∷ keeper_pairs rest = rw test refl in
    keeper_pairs-append moves (made ∷ rest) ∙ ap (λ (next : List (List (ℕ × ℕ))). keeper_pairs moves ++ next) own

heads : {A : Type 0} (x y : A) (xs ys : List A) → x ∷ xs ≡ y ∷ ys → x ≡ y
heads x y xs ys same = cc

-- the keeper's moves if a move of the keeper's comes next
next_of_keeper : (play after : AbstractPlay) (moment : ℕ) (pairs : List (ℕ × ℕ)) (to : AbstractPlace) (later : List (List (ℕ × ℕ))) → mover_of play ≡ 0 → (grows : Grows (moved play moment pairs to) after) → keeper_pairs after.made ++ later ≡ keeper_pairs play.made ++ pairs ∷ (keeper_pairs grows.0 ++ later)
next_of_keeper play after moment pairs to later keeper grows =
    let made : Made = record { player = mover_of play; at = moment; pairs = pairs } in
    let all : after.made ≡ play.made ++ made ∷ grows.0 = grows.1 ∙ append_assoc play.made (made ∷ []) grows.0 in
    ap (λ (moves : List Made). keeper_pairs moves ++ later) all
    ∙ ap (λ (all : List (List (ℕ × ℕ))). all ++ later) (keepers_first play.made made grows.0 keeper)
    ∙ append_assoc (keeper_pairs play.made) (pairs ∷ keeper_pairs grows.0) later

-- the keeper makes the same move
same_pairs : (play one other : AbstractPlay) (moment : ℕ) (pairs pairs' : List (ℕ × ℕ)) (to to' : AbstractPlace) → mover_of play ≡ 0 → HaveOneKeeper one other → Grows (moved play moment pairs to) one → Grows (moved play moment pairs' to') other → pairs ≡ pairs'
same_pairs play one other moment pairs pairs' to to' keeper agree grows grows' =
    let first = next_of_keeper play one moment pairs to agree.one_later keeper grows in
    let first' = next_of_keeper play other moment pairs' to' agree.other_later keeper grows' in
    heads pairs pairs' _ _ (append_cancel_left (keeper_pairs play.made) _ _ (sym first ∙ agree.same ∙ first'))

refuses_same : {seats : ℕ} {config : Config} {play : AbstractPlay} {seat : ℕ} {reason : Reason} {one other : AbstractPlay} {outgoing others : List Delivery} → Refuses seats config play seat reason one outgoing → Refuses seats config play seat reason other others → (one ≡ other) × (outgoing ≡ others)
refuses_same (handling.counted few) (handling.counted few') = (refl, refl)
refuses_same (handling.counted few) (handling.spent many) = absurd (omega (arith, few, many))
refuses_same (handling.spent many) (handling.counted few) = absurd (omega (arith, few, many))
refuses_same (handling.spent many) (handling.spent many') = (refl, refl)

not_long_and_short : (ps qs : List (ℕ × ℕ)) → ps ≡ qs → most_pairs < length ps → length qs ≤ most_pairs → ⊥
not_long_and_short ps qs is long short =
    let same : length ps ≡ length qs = ap length is in
    omega (arith, same, long, short)

-- one of two stops at a message at which the other continues
stops_here : (game : AbstractGame) (play : AbstractPlay) (others : List Delivery) → IsHeavyEnd play → StopsWithin game play (to_each (seats_of game) (end_message Heavy)) others
stops_here game play others heavy = record { heavy = heavy; before = []; after = others; told = refl; goes_on = refl }

-- the same messages before both
stops_beyond : {game : AbstractGame} {play : AbstractPlay} {outgoing others : List Delivery} (first first' : List Delivery) → first ≡ first' → StopsWithin game play outgoing others → StopsWithin game play (first ++ outgoing) (first' ++ others)
stops_beyond {game = game} first first' is stops = record {
  heavy = stops.heavy;
  before = first ++ stops.before;
  after = stops.after;
  told = ap (λ (l : List Delivery). first ++ l) stops.told ∙ sym (append_assoc first stops.before (to_each (seats_of game) (end_message Heavy)));
  goes_on = ap (λ (l : List Delivery). first' ++ l) stops.goes_on ∙ ap (λ (l : List Delivery). l ++ (stops.before ++ stops.after)) (sym is) ∙ sym (append_assoc first stops.before stops.after);
}

alike_after : {game : AbstractGame} {one other : AbstractPlay} {outgoing others : List Delivery} (first first' : List Delivery) → first ≡ first' → AreAlike game one other outgoing others → AreAlike game one other (first ++ outgoing) (first' ++ others)
alike_after {outgoing = outgoing} first first' is (equal plays tells) = equal plays (ap (λ (l : List Delivery). l ++ outgoing) is ∙ ap (λ (l : List Delivery). first' ++ l) tells)
alike_after first first' is (one_stops stops) = one_stops (stops_beyond first first' is stops)
alike_after first first' is (other_stops stops) = other_stops (stops_beyond first' first (sym is) stops)

module _ (game : AbstractGame) (numbered : IsNumbered game.rules) where
  plays_on_alike : {moment n : ℕ} {play one other : AbstractPlay} {outgoing others : List Delivery} → PlaysOn game moment n play one outgoing → PlaysOn game moment n play other others → keeper_run 0 play.made ≡ n → HaveOneKeeper one other → AreAlike game one other outgoing others
  plays_on_alike {play = play} {others = others} (on.heavy may hard) goes' run agree = one_stops (stops_here game (ended play Heavy) others (heavy_end play may run))
  plays_on_alike {play = play} {outgoing = outgoing} goes (on.heavy may hard) run agree = other_stops (stops_here game (ended play Heavy) outgoing (heavy_end play may run))
  plays_on_alike (on.endless keeper many) (on.endless keeper' many') run agree = equal refl refl
  plays_on_alike {play = play} (on.endless keeper many) (on.finished may never) run agree = absurd (not_asked play may keeper many)
  plays_on_alike (on.endless keeper many) (on.keeper keeper' may legal short goes) run agree = absurd (omega (arith, may, many))
  plays_on_alike (on.endless keeper many) (on.turn player legal) run agree = absurd (player keeper)
  plays_on_alike {play = play} (on.finished may never) (on.endless keeper many) run agree = absurd (not_asked play may keeper many)
  plays_on_alike (on.keeper keeper' may legal short goes) (on.endless keeper many) run agree = absurd (omega (arith, may, many))
  plays_on_alike (on.turn player legal) (on.endless keeper many) run agree = absurd (player keeper)
  plays_on_alike (on.finished may never) (on.finished may' never') run agree = equal refl refl
  plays_on_alike (on.finished may never) (on.keeper {pairs = pairs} {to = to} keeper may' legal short goes') run agree = absurd (never.no_move pairs to legal)
  plays_on_alike (on.finished may never) (on.turn {pairs = pairs} {to = to} player legal) run agree = absurd (never.no_move pairs to legal)
  plays_on_alike (on.keeper {pairs = pairs} {to = to} keeper may legal short goes) (on.finished may' never) run agree = absurd (never.no_move pairs to legal)
  plays_on_alike {moment = moment} {n = n} {play = play} {one = one} {other = other} (on.keeper {pairs = pairs} {to = to} {more = outgoing} keeper may legal short goes) (on.keeper {pairs = pairs'} {to = to'} {more = others} keeper' may' legal' short' goes') run agree =
      let alike = same_pairs play one other moment pairs pairs' to to' keeper agree (plays_on_grows goes) (plays_on_grows goes') in
      let place : to' ≡ to = one_place_law game numbered play.place pairs to' to (subst (λ (ps : List (ℕ × ℕ)). Legal game play.place ps to') (sym alike) legal') legal in
      let with_pairs = subst (λ (ps : List (ℕ × ℕ)). PlaysOn game moment (suc n) (moved play moment ps to') other others) (sym alike) goes' in
      let goes_there = subst (λ (there : AbstractPlace). PlaysOn game moment (suc n) (moved play moment pairs there) other others) place with_pairs in
      let rest = plays_on_alike goes goes_there (run_of_keeper play moment n pairs to keeper run) agree in
      alike_after (to_each (seats_of game) (move_message pairs)) (to_each (seats_of game) (move_message pairs')) (ap (λ (ps : List (ℕ × ℕ)). to_each (seats_of game) (move_message ps)) alike) rest
  plays_on_alike (on.keeper keeper may legal short goes) (on.turn player legal') run agree = absurd (player keeper)
  plays_on_alike (on.turn {pairs = pairs} {to = to} player legal) (on.finished may never) run agree = absurd (never.no_move pairs to legal)
  plays_on_alike (on.turn player legal) (on.keeper keeper may legal' short goes) run agree = absurd (player keeper)
  plays_on_alike (on.turn player legal) (on.turn player' legal') run agree = equal refl refl

  module _ (config : Config) where
    heavy_question : (play : AbstractPlay) → 1 ≤ mover_of play → IsHeavyEnd (ended play Heavy)
    heavy_question play player = record { heavy = refl; not_endless = λ keeper many. omega (arith, player, keeper) }

    judges_alike : {play : AbstractPlay} {moment : ℕ} {pairs : List (ℕ × ℕ)} {one other : AbstractPlay} {outgoing others : List Delivery} → Judges game config play moment pairs one outgoing → Judges game config play moment pairs other others → 1 ≤ mover_of play → HaveOneKeeper one other → AreAlike game one other outgoing others
    judges_alike {play = play} {others = others} (handling.heavy hard) judges' player agree = one_stops (stops_here game (ended play Heavy) others (heavy_question play player))
    judges_alike {play = play} {outgoing = outgoing} judges (handling.heavy hard) player agree = other_stops (stops_here game (ended play Heavy) outgoing (heavy_question play player))
    judges_alike (handling.illegal never refuses) (handling.illegal never' refuses') player agree = let both = refuses_same refuses refuses' in equal both.0 both.1
    judges_alike (handling.illegal never refuses) (handling.legal {to = to} legal goes) player agree = absurd (never to legal)
    judges_alike (handling.legal {to = to} legal goes) (handling.illegal never refuses) player agree = absurd (never to legal)
    judges_alike {play = play} {moment = moment} {pairs = pairs} {other = other} (handling.legal {to = to} legal goes) (handling.legal {to = to'} {more = others} legal' goes') player agree =
        let place : to' ≡ to = one_place_law game numbered play.place pairs to' to legal' legal in
        let goes_there = subst (λ (there : AbstractPlace). PlaysOn game moment 0 (moved play moment pairs there) other others) place goes' in
        let rest = plays_on_alike goes goes_there (run_of_player play moment pairs to player) agree in
        alike_after (to_each (seats_of game) (move_message pairs)) (to_each (seats_of game) (move_message pairs)) refl rest

    judged_alike : {play : AbstractPlay} {moment : ℕ} {one other : AbstractPlay} {outgoing others : List Delivery} (pairs pairs' : List (ℕ × ℕ)) → pairs' ≡ pairs → Judges game config play moment pairs one outgoing → Judges game config play moment pairs' other others → 1 ≤ mover_of play → HaveOneKeeper one other → AreAlike game one other outgoing others
    judged_alike {play = play} {moment = moment} {other = other} {others = others} pairs pairs' is judges judges' player agree = judges_alike judges (subst (λ (ps : List (ℕ × ℕ)). Judges game config play moment ps other others) is judges') player agree

    in_time_alike : {play : AbstractPlay} {moment : ℕ} {input : AbstractInput} {one other : AbstractPlay} {outgoing others : List Delivery} → HandlesInTime game config play moment input one outgoing → HandlesInTime game config play moment input other others → IsInputOf game input → HaveOneKeeper one other → AreAlike game one other outgoing others
    in_time_alike handling.nothing handling.nothing is_input agree = equal refl refl
    in_time_alike handling.leaving handling.leaving is_input agree = equal refl refl
    in_time_alike (handling.out_of_turn not_mover refuses) (handling.out_of_turn not_mover' refuses') is_input agree = let both = refuses_same refuses refuses' in equal both.0 both.1
    in_time_alike (handling.out_of_turn not_mover refuses) (handling.unreadable mover no_move refuses') is_input agree = absurd (not_mover mover)
    in_time_alike (handling.out_of_turn not_mover refuses) (handling.too_many mover spells long refuses') is_input agree = absurd (not_mover mover)
    in_time_alike (handling.out_of_turn not_mover refuses) (handling.judged mover spells short judges) is_input agree = absurd (not_mover mover)
    in_time_alike (handling.unreadable mover no_move refuses) (handling.out_of_turn not_mover refuses') is_input agree = absurd (not_mover mover)
    in_time_alike (handling.unreadable mover no_move refuses) (handling.unreadable mover' no_move' refuses') is_input agree = let both = refuses_same refuses refuses' in equal both.0 both.1
    in_time_alike (handling.unreadable mover no_move refuses) (handling.too_many {pairs = pairs} mover' spells long refuses') is_input agree = absurd (no_move pairs spells)
    in_time_alike (handling.unreadable mover no_move refuses) (handling.judged {pairs = pairs} mover' spells short judges) is_input agree = absurd (no_move pairs spells)
    in_time_alike (handling.too_many mover spells long refuses) (handling.out_of_turn not_mover refuses') is_input agree = absurd (not_mover mover)
    in_time_alike (handling.too_many {pairs = pairs} mover spells long refuses) (handling.unreadable mover' no_move refuses') is_input agree = absurd (no_move pairs spells)
    in_time_alike (handling.too_many mover spells long refuses) (handling.too_many mover' spells' long' refuses') is_input agree = let both = refuses_same refuses refuses' in equal both.0 both.1
    in_time_alike (handling.too_many {text = text} {pairs = pairs} mover spells long refuses) (handling.judged {pairs = pairs'} mover' spells' short judges) is_input agree = absurd (not_long_and_short pairs pairs' (one_move text pairs pairs' spells spells') long short)
    in_time_alike (handling.judged mover spells short judges) (handling.out_of_turn not_mover refuses') is_input agree = absurd (not_mover mover)
    in_time_alike (handling.judged {pairs = pairs} mover spells short judges) (handling.unreadable mover' no_move refuses') is_input agree = absurd (no_move pairs spells)
    in_time_alike (handling.judged {text = text} {pairs = pairs} mover spells short judges) (handling.too_many {pairs = pairs'} mover' spells' long refuses') is_input agree = absurd (not_long_and_short pairs' pairs (one_move text pairs' pairs spells' spells) long short)
    in_time_alike (handling.judged {text = text} {pairs = pairs} mover spells short judges) (handling.judged {pairs = pairs'} mover' spells' short' judges') is_input agree = judged_alike pairs pairs' (one_move text pairs' pairs spells' spells) judges judges' (subst (λ (seat : ℕ). 1 ≤ seat) mover is_input.0) agree

    handles_alike : {play : AbstractPlay} {moment : ℕ} {input : AbstractInput} {one other : AbstractPlay} {outgoing others : List Delivery} → Handles game config play moment input one outgoing → Handles game config play moment input other others → IsInputOf game input → HaveOneKeeper one other → AreAlike game one other outgoing others
    handles_alike (handling.after_end ended) (handling.after_end ended') is_input agree = equal refl refl
    handles_alike {play = play} (handling.after_end {outcome = outcome} ended) (handling.overdue going late) is_input agree = absurd (not_both play.outcome outcome ended going)
    handles_alike {play = play} (handling.after_end {outcome = outcome} ended) (handling.in_time going early handles) is_input agree = absurd (not_both play.outcome outcome ended going)
    handles_alike {play = play} (handling.overdue going late) (handling.after_end {outcome = outcome} ended) is_input agree = absurd (not_both play.outcome outcome ended going)
    handles_alike (handling.overdue going late) (handling.overdue going' late') is_input agree = equal refl refl
    handles_alike (handling.overdue going late) (handling.in_time going' early handles) is_input agree = absurd (omega (arith, late, early))
    handles_alike {play = play} (handling.in_time going early handles) (handling.after_end {outcome = outcome} ended) is_input agree = absurd (not_both play.outcome outcome ended going)
    handles_alike (handling.in_time going early handles) (handling.overdue going' late) is_input agree = absurd (omega (arith, late, early))
    handles_alike (handling.in_time going early handles) (handling.in_time going' early' handles') is_input agree = in_time_alike handles handles' is_input agree

    -- the keeper's moves that two matches have in common, before inputs that are handled later
    keeper_before : {one one' other other' : AbstractPlay} {inputs inputs' : List TimedInput} {outgoing outgoing' : List Delivery} → HandlesEach game config one inputs one' outgoing → HandlesEach game config other inputs' other' outgoing' → HaveOneKeeper one' other' → HaveOneKeeper one other
    keeper_before {one = one} {one' = one'} {other = other} {other' = other'} rest rest' agree =
        let grows = each_grows rest in
        let grows' = each_grows rest' in
        record {
          one_later = keeper_pairs grows.0 ++ agree.one_later;
          other_later = keeper_pairs grows'.0 ++ agree.other_later;
          same = sym (later_moves one one' grows agree.one_later) ∙ agree.same ∙ later_moves other other' grows' agree.other_later;
        }

    -- what both send first, and then
    alike_then : {middle middle' one other : AbstractPlay} {inputs : List TimedInput} {first first' next next' : List Delivery} → AreAlike game middle middle' first first' → HandlesEach game config middle inputs one next → HandlesEach game config middle' inputs other next' → (middle ≡ middle' → AreAlike game one other next next') → AreAlike game one other (first ++ next) (first' ++ next')
    alike_then {first = first} {first' = first'} (equal plays tells) rest rest' goes_on = alike_after first first' tells (goes_on plays)
    alike_then {first = first} {first' = first'} {next = next} {next' = next'} (one_stops stops) rest rest' goes_on =
        let over = each_stays Heavy stops.heavy.heavy rest in
        one_stops (record {
          heavy = subst IsHeavyEnd (sym over.0) stops.heavy;
          before = stops.before;
          after = stops.after ++ next';
          told = ap (λ (l : List Delivery). first ++ l) over.1 ∙ append-nil first ∙ stops.told;
          goes_on = ap (λ (l : List Delivery). l ++ next') stops.goes_on ∙ append_assoc stops.before stops.after next';
        })
    alike_then {first = first} {first' = first'} {next = next} {next' = next'} (other_stops stops) rest rest' goes_on =
        let over = each_stays Heavy stops.heavy.heavy rest' in
        other_stops (record {
          heavy = subst IsHeavyEnd (sym over.0) stops.heavy;
          before = stops.before;
          after = stops.after ++ next;
          told = ap (λ (l : List Delivery). first' ++ l) over.1 ∙ append-nil first' ∙ stops.told;
          goes_on = ap (λ (l : List Delivery). l ++ next) stops.goes_on ∙ append_assoc stops.before stops.after next;
        })

    each_alike : {play one other : AbstractPlay} {inputs : List TimedInput} {outgoing others : List Delivery} → HandlesEach game config play inputs one outgoing → HandlesEach game config play inputs other others → All (λ (one : TimedInput). IsInputOf game one.input) inputs → HaveOneKeeper one other → AreAlike game one other outgoing others
    each_alike none none all agree = equal refl refl
    each_alike {other = other} (more {input = input} {inputs = inputs} handles rest) (more {next = next'} handles' rest') all agree =
        let own : TimedInput → Type 0 = λ one. IsInputOf game one.input in
        let here = handles_alike handles handles' (All-head own input inputs all) (keeper_before rest rest' agree) in
        alike_then here rest rest' (λ is. each_alike rest (subst (λ (from : AbstractPlay). HandlesEach game config from inputs other next') (sym is) rest') (All-tail own input inputs all) agree)

-- an event leaves the number of streams
as_many_if : (rests : List Rest) (i : ℕ) (rest : Rest) (test : Bool) → length (if test then set rests i rest else rests) ≡ length rests
as_many_if rests i rest true = length-set rests i rest
as_many_if rests i rest false = refl

pub as_many : (rests : List Rest) (event : AbstractEvent) → length (rests_after rests event) ≡ length rests
as_many rests (piece seat at bytes) = as_many_if rests (seat - 1) (cut_of rests seat bytes).rest (has_seat rests seat)
as_many rests (end_of_stream seat at) = refl
as_many rests (moment_alone at) = refl

-- events mean inputs of the game's seats alone
all_timed : (game : AbstractGame) (streams : Streams) (events : List AbstractEvent) → length streams.rests ≡ seats_of game → All (λ (one : TimedInput). IsInputOf game one.input) (timed_inputs_of streams events)
all_timed game streams [] same = All-nil (λ (one : TimedInput). IsInputOf game one.input)
all_timed game streams (event ∷ events) same =
    let own : TimedInput → Type 0 = λ one. IsInputOf game one.input in
    let moment = counted streams (moment_of event) in
    let first = All-weaker (IsInputAt game moment) own (λ one both. both.0) (timed_inputs_in streams event) (timed_of_event game streams.rests same moment event) in
    let rest = all_timed game (streams_after streams event) events (as_many streams.rests event ∙ same) in
    All-append own (timed_inputs_in streams event) (timed_inputs_of (streams_after streams event) events) first rest

pub one_until_heavy : OneUntilHeavy
one_until_heavy game text config now events play play' outgoing outgoing' numbered one other agree =
    let inputs = timed_inputs_of (streams_at_start (seats_of game) now) events in
    let each = all_to_each one.goes_on in
    let each' = all_to_each other.goes_on in
    let opened = plays_on_alike game numbered one.opens other.opens refl (keeper_before game numbered config each each' agree) in
    let all = all_timed game (streams_at_start (seats_of game) now) events (length-replicate (seats_of game) (incomplete [])) in
    let later : one.opened ≡ other.opened → AreAlike game play play' one.replies other.replies = λ is. each_alike game numbered config each (subst (λ (from : AbstractPlay). HandlesEach game config from inputs play' other.replies) (sym is) each') all agree in
    let greeted = greetings text config game.players in
    let alike = alike_after greeted greeted refl (alike_then game numbered config opened each each' later) in
    let said_is : greeted ++ (one.opening ++ one.replies) ≡ outgoing = sym (append_assoc greeted one.opening one.replies) ∙ sym one.whole in
    let said_is' : greeted ++ (other.opening ++ other.replies) ≡ outgoing' = sym (append_assoc greeted other.opening other.replies) ∙ sym other.whole in
    subst (λ (l : List Delivery). AreAlike game play play' outgoing l) said_is' (subst (λ (l : List Delivery). AreAlike game play play' l (greeted ++ (other.opening ++ other.replies))) said_is alike)

-- the same keeper's moves in both
same_keeper : (play play' : AbstractPlay) → keeper_pairs play.made ≡ keeper_pairs play'.made → HaveOneKeeper play play'
same_keeper play play' same = record { one_later = []; other_later = []; same = ap (λ (l : List (List (ℕ × ℕ))). l ++ []) same }

none_stops : {game : AbstractGame} {play play' : AbstractPlay} {outgoing outgoing' : List Delivery} → ¬ IsHeavyEnd play → ¬ IsHeavyEnd play' → AreAlike game play play' outgoing outgoing' → (play ≡ play') × (outgoing ≡ outgoing')
none_stops light light' (equal plays tells) = (plays, tells)
none_stops light light' (one_stops stops) = absurd (light stops.heavy)
none_stops light light' (other_stops stops) = absurd (light' stops.heavy)

pub one_transcript : OneTranscript
one_transcript game text config now events play play' outgoing outgoing' numbered one other light light' same =
    none_stops light light' (one_until_heavy game text config now events play play' outgoing outgoing' numbered one other (same_keeper play play' same))
