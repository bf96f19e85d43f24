-- The history of a match is kept, whatever its inputs are.
use Rattle.rbg_base.proofs.Common.{◌≡◌, ℕ, ◌≤◌, List, [], ◌∷◌, ◌++◌, length, map, true, false, Bool, Some, None, Result, Ok, Err, refl, sym, ap, ◌∙◌, subst, arith, ◌≢◌, IfOk, OnOk, All, nat_le, if◌then◌else◌, none-some, min-le_right, length-map, All-nil, All-cons, All-head, All-tail, All-map, All-weaker}
use Rattle.std.proofs.lemmas.Bool.{and_parts, leb-true}
use Rattle.rbg_wire.specs.declared.message.Reason.{Reason}
use Rattle.rbg_wire.specs.declared.outcome.Outcome.{Outcome}
use Rattle.rbg_wire.specs.Streams.{Rest, Item, Stream}
use Rattle.rbg_rules.specs.Meaning.{AbstractGame}
use Rattle.rbg_match.proofs.Common.{Config, Made, IsWithinLimits, Delivery, AbstractInput, tick, gone, sent, Refuses, Judges, HandlesInTime, Handles, LeadsTo, FitsOutcome, HasTurnSince, IsInTurn, IsHistory, MadeInTurn, AbstractEvent, piece, end_of_stream, moment_alone, TimedInput, Streams, counted_first, has_seat, cut_of, inputs_in, inputs_at, rests_of, latest_moment, MatchState, Opens, HasHistory, AbstractPlay, mover_of, refused, turn_begun, PlaysOn, seats_of, HandlesAll}
use Rattle.rbg_match.specs.Handling as handling
use Rattle.rbg_match.specs.History as history
use Rattle.rbg_base.specs.Move.{most_pairs}
use Rattle.rbg_match.specs.PlayingOn as on
use Rattle.rbg_match.specs.Transcript as transcript

-- the seat is one of the game
abbrev pub IsSeat : AbstractGame → ℕ → Type 0
IsSeat game seat = (1 ≤ seat) × (seat ≤ seats_of game)

-- the input is of a seat of the game, or of none
abbrev pub IsInputOf : AbstractGame → AbstractInput → Type 0
IsInputOf game tick = Unit {0}
IsInputOf game (gone seat) = IsSeat game seat
IsInputOf game (sent seat item) = IsSeat game seat

-- In a match that has not ended these moves were made, a player is to move since the last of them, and its turn isn't
-- due at the moment.
record IsInPlay (game : AbstractGame) (config : Config) (began moment : ℕ) (play : AbstractPlay) : Type 0 where
  pub leads : LeadsTo game play.made play.place
  pub last : ℕ
  pub in_turn : MadeInTurn config began play.made last
  pub going : play.outcome ≡ None
  pub turn : HasTurnSince game play last
  pub early : IsInTurn config last moment

-- What is kept from one moment to the next: a match that has not ended has a turn that began before, and one that has
-- ended has a history.
pub record IsKept (game : AbstractGame) (config : Config) (began moment : ℕ) (play : AbstractPlay) : Type 0 where
  pub leads : LeadsTo game play.made play.place
  pub last : ℕ
  pub in_turn : MadeInTurn config began play.made last
  pub turn : play.outcome ≡ None → HasTurnSince game play last × (last ≤ moment)
  pub over : (outcome : Outcome) → play.outcome ≡ Some outcome → FitsOutcome game config play last moment (Some outcome)

module _ {game : AbstractGame} {config : Config} (lawful : IsWithinLimits config) {moment : ℕ} (counted : moment ≤ latest_moment) {began : ℕ} where
  -- play that continues after a move has a history
  pub plays_on_keeps : {n : ℕ} {play : AbstractPlay} {after : AbstractPlay} {outgoing : List Delivery} → PlaysOn game moment n play after outgoing → play.outcome ≡ None → LeadsTo game play.made play.place → MadeInTurn config began play.made moment → IsHistory game config began moment after
  plays_on_keeps (on.endless is_keeper many) going leads in_turn = record { lawful = lawful; counted = counted; leads = leads; last = moment; in_turn = in_turn; fits = let some = lawful.turn_some in (omega arith, omega (arith, some)) }
  plays_on_keeps (on.heavy may hard) going leads in_turn = record { lawful = lawful; counted = counted; leads = leads; last = moment; in_turn = in_turn; fits = let some = lawful.turn_some in (omega arith, omega (arith, some)) }
  plays_on_keeps (on.finished may never) going leads in_turn = record { lawful = lawful; counted = counted; leads = leads; last = moment; in_turn = in_turn; fits = (never, refl, refl) }
  plays_on_keeps {play = play} (on.keeper {pairs = pairs} is_keeper may legal short goes) going leads in_turn =
      let made : Made = record { player = mover_of play; at = moment; pairs = pairs } in
      plays_on_keeps goes going (history.more leads made refl legal short) (history.by_keeper in_turn made is_keeper refl)
  plays_on_keeps {play = play} (on.turn {pairs = pairs} {to = to} player legal) going leads in_turn = record {
    lawful = lawful;
    counted = counted;
    leads = leads;
    last = moment;
    in_turn = in_turn;
    fits = subst (λ outcome. FitsOutcome game config (turn_begun play moment) moment moment outcome) (sym going) (let some = lawful.turn_some in ((record { player = player; pairs = pairs; to = to; legal = legal }, refl), (omega arith, omega (arith, some))));
  }

  -- a match in play has a history
  in_play : {play : AbstractPlay} → IsInPlay game config began moment play → IsHistory game config began moment play
  in_play {play} has = record {
    lawful = lawful;
    counted = counted;
    leads = has.leads;
    last = has.last;
    in_turn = has.in_turn;
    fits = subst (λ outcome. FitsOutcome game config play has.last moment outcome) (sym has.going) (has.turn, has.early);
  }

  refuses_keeps : {play : AbstractPlay} {seat : ℕ} {reason : Reason} {after : AbstractPlay} {outgoing : List Delivery} → Refuses (seats_of game) config play seat reason after outgoing → IsSeat game seat → IsInPlay game config began moment play → IsHistory game config began moment after
  refuses_keeps {play = play} {seat = seat} (handling.counted few) is_seat has = record {
    lawful = lawful;
    counted = counted;
    leads = has.leads;
    last = has.last;
    in_turn = has.in_turn;
    fits = subst (λ outcome. FitsOutcome game config (refused play seat) has.last moment outcome) (sym has.going) (has.turn, has.early);
  }
  refuses_keeps {play = play} (handling.spent many) is_seat has = record {
    lawful = lawful;
    counted = counted;
    leads = has.leads;
    last = has.last;
    in_turn = has.in_turn;
    fits = (has.turn, has.early, is_seat.0, is_seat.1);
  }

  judges_keeps : {play : AbstractPlay} {pairs : List (ℕ × ℕ)} {after : AbstractPlay} {outgoing : List Delivery} → Judges game config play moment pairs after outgoing → length pairs ≤ most_pairs → IsSeat game (mover_of play) → IsInPlay game config began moment play → IsHistory game config began moment after
  judges_keeps (handling.heavy hard) short is_seat has = record { lawful = lawful; counted = counted; leads = has.leads; last = has.last; in_turn = has.in_turn; fits = has.early }
  judges_keeps (handling.illegal none refuses) short is_seat has = refuses_keeps refuses is_seat has
  judges_keeps {play = play} {pairs = pairs} (handling.legal legal goes) short is_seat has =
      let made : Made = record { player = mover_of play; at = moment; pairs = pairs } in
      plays_on_keeps goes has.going (history.more has.leads made refl legal short) (history.by_player has.in_turn made has.turn.0.player has.early)

  in_time_keeps : {play : AbstractPlay} {input : AbstractInput} {after : AbstractPlay} {outgoing : List Delivery} → HandlesInTime game config play moment input after outgoing → IsInputOf game input → IsInPlay game config began moment play → IsHistory game config began moment after
  in_time_keeps handling.nothing is_input has = in_play has
  in_time_keeps (handling.leaving {seat = seat}) is_input has = record { lawful = lawful; counted = counted; leads = has.leads; last = has.last; in_turn = has.in_turn; fits = (has.turn, has.early, is_input.0, is_input.1) }
  in_time_keeps (handling.out_of_turn other refuses) is_input has = refuses_keeps refuses is_input has
  in_time_keeps (handling.unreadable mover no_move refuses) is_input has = refuses_keeps refuses is_input has
  in_time_keeps (handling.too_many mover spells long refuses) is_input has = refuses_keeps refuses is_input has
  in_time_keeps (handling.judged mover spells short judges) is_input has = judges_keeps judges short (subst (IsSeat game) mover is_input) has

  handles_keeps : {play : AbstractPlay} {input : AbstractInput} {after : AbstractPlay} {outgoing : List Delivery} → Handles game config play moment input after outgoing → IsInputOf game input → IsKept game config began moment play → IsHistory game config began moment after
  handles_keeps {play = play} (handling.after_end {outcome = outcome} ended) is_input has = record {
    lawful = lawful;
    counted = counted;
    leads = has.leads;
    last = has.last;
    in_turn = has.in_turn;
    fits = subst (λ outcome. FitsOutcome game config play has.last moment outcome) (sym ended) (has.over outcome ended);
  }
  handles_keeps (handling.overdue going late) is_input has =
      let (turn, before) = has.turn going in
      let began_then = turn.1 in
      record { lawful = lawful; counted = counted; leads = has.leads; last = has.last; in_turn = has.in_turn; fits = (turn, refl, omega (arith, began_then, late)) }
  handles_keeps (handling.in_time going early handles) is_input has =
      let (turn, before) = has.turn going in
      let began_then = turn.1 in
      in_time_keeps handles is_input (record { leads = has.leads; last = has.last; in_turn = has.in_turn; going = going; turn = turn; early = (before, omega (arith, began_then, early)) })

  -- a match with a history still has it at the same moment
  still_kept : {play : AbstractPlay} → IsHistory game config began moment play → IsKept game config began moment play
  still_kept {play} has = record {
    leads = has.leads;
    last = has.last;
    in_turn = has.in_turn;
    turn = λ going. let (turn, early) = subst (λ outcome. FitsOutcome game config play has.last moment outcome) going has.fits in (turn, early.0);
    over = λ outcome is. subst (λ outcome. FitsOutcome game config play has.last moment outcome) is has.fits;
  }

-- a match with a history that has not ended has one at a later moment
pub kept_later : {game : AbstractGame} {config : Config} {began earlier : ℕ} {play : AbstractPlay} (moment : ℕ) → earlier ≤ moment → play.outcome ≡ None → IsHistory game config began earlier play → IsKept game config began moment play
kept_later {game} {config} {began} {earlier} {play} moment before going has =
    let (turn, early) = subst (λ outcome. FitsOutcome game config play has.last earlier outcome) going has.fits in
    let at_first = early.0 in
    record {
      leads = has.leads;
      last = has.last;
      in_turn = has.in_turn;
      turn = λ _. (turn, omega (arith, before, at_first));
      over = λ outcome is. absurd (none-some outcome (sym going ∙ is));
    }

-- the parts of a list whose elements are all so
parts_all : {A : Type 0} (P : A → Type 0) (xs ys : List A) → All P (xs ++ ys) → All P xs × All P ys
parts_all P [] ys all = (All-nil P, all)
parts_all P (x ∷ xs) ys all =
    let rest = parts_all P xs ys (All-tail P x (xs ++ ys) all) in
    (All-cons P x xs (All-head P x (xs ++ ys) all) rest.0, rest.1)

-- an input of this game at this moment
abbrev pub IsInputAt : AbstractGame → (moment : ℕ) → TimedInput → Type 0
IsInputAt game moment one = IsInputOf game one.input × (one.moment ≡ moment)

-- inputs at one moment keep what is kept, and the first of them gives a history
pub handles_all_keeps : {game : AbstractGame} {began moment : ℕ} {config : Config} {play : AbstractPlay} {inputs : List TimedInput} {after : AbstractPlay} {outgoing : List Delivery} → IsWithinLimits config → moment ≤ latest_moment → HandlesAll game config play inputs after outgoing → All (IsInputAt game moment) inputs → IsKept game config began moment play → IsKept game config began moment after × (inputs ≢ [] → IsHistory game config began moment after)
handles_all_keeps lawful counted transcript.none all has = (has, λ some. absurd (some refl))
handles_all_keeps {game = game} {began = began} {moment = moment} {config = config} {after = after} lawful counted (transcript.more {inputs = inputs} {middle = middle} {next = next} {input = input} before handles) all has =
    let parts = parts_all (IsInputAt game moment) inputs (input ∷ []) all in
    let last = All-head (IsInputAt game moment) input [] parts.1 in
    let earlier = handles_all_keeps lawful counted before parts.0 has in
    let now = handles_keeps lawful counted (subst (λ one. Handles game config middle one input.input after next) last.1 handles) last.0 earlier.0 in
    (still_kept lawful counted now, λ _. now)

-- the number of a seat that there is
seat_there : (game : AbstractGame) (rests : List Rest) (seat : ℕ) → length rests ≡ seats_of game → has_seat rests seat ≡ true → IsSeat game seat
seat_there game rests seat same test =
    let parts = and_parts (nat_le 1 seat) (nat_le seat (length rests)) test in
    (leb-true 1 seat parts.0, subst (λ (n : ℕ). seat ≤ n) same (leb-true seat (length rests) parts.1))

-- an event means inputs of the game's seats alone
module _ (game : AbstractGame) (rests : List Rest) (same : length rests ≡ seats_of game) where
  all_sent : (seat : ℕ) (items : List Item) → IsSeat game seat → All (IsInputOf game) (map (sent seat) items)
  all_sent seat items is_seat = All-map (IsInputOf game) (sent seat) items (λ k d within. is_seat)

  of_piece : (seat : ℕ) (items : List Item) (test : Bool) → has_seat rests seat ≡ test → All (IsInputOf game) (tick ∷ (if test then map (sent seat) items else []))
  of_piece seat items true there = All-cons (IsInputOf game) tick (map (sent seat) items) tt (all_sent seat items (seat_there game rests seat same there))
  of_piece seat items false there = All-cons (IsInputOf game) tick [] tt (All-nil (IsInputOf game))

  of_end : (seat : ℕ) (test : Bool) → has_seat rests seat ≡ test → All (IsInputOf game) ((if test then gone seat else tick) ∷ [])
  of_end seat true there = All-cons (IsInputOf game) (gone seat) [] (seat_there game rests seat same there) (All-nil (IsInputOf game))
  of_end seat false there = All-cons (IsInputOf game) tick [] tt (All-nil (IsInputOf game))

  all_of_event : (event : AbstractEvent) → All (IsInputOf game) (inputs_in rests event)
  all_of_event (piece seat at bytes) = of_piece seat (cut_of rests seat bytes).items (has_seat rests seat) refl
  all_of_event (end_of_stream seat at) = of_end seat (has_seat rests seat) refl
  all_of_event (moment_alone at) = All-cons (IsInputOf game) tick [] tt (All-nil (IsInputOf game))

  pub timed_of_event : (moment : ℕ) (event : AbstractEvent) → All (IsInputAt game moment) (inputs_at moment (inputs_in rests event))
  timed_of_event moment event =
      All-map (IsInputAt game moment) (λ input. let timed : TimedInput = record { moment = moment; input = input } in timed) (inputs_in rests event) (All-weaker (IsInputOf game) (λ (input : AbstractInput). IsInputAt game moment (record { moment = moment; input = input })) (λ input is_input. (is_input, refl)) (inputs_in rests event) (all_of_event event))

-- an event means one input at least
pub some_input : (game : AbstractGame) (rests : List Rest) (moment : ℕ) (event : AbstractEvent) → inputs_at moment (inputs_in rests event) ≢ []
some_input game rests moment (piece seat at bytes) is = cc
some_input game rests moment (end_of_stream seat at) is = cc
some_input game rests moment (moment_alone at) is = cc

-- an event keeps the history of a match that has not ended
pub event_keeps : (game : AbstractGame) (config : Config) (old new : AbstractPlay) (inboxes : List Stream) (began earlier moment : ℕ) (event : AbstractEvent) (outgoing : List Delivery) → earlier ≤ moment → moment ≤ latest_moment → length inboxes ≡ seats_of game → old.outcome ≡ None → IsHistory game config began earlier old → HandlesAll game config old (inputs_at moment (inputs_in (rests_of inboxes) event)) new outgoing → IsHistory game config began moment new
event_keeps game config old new inboxes began earlier moment event outgoing before counted same going has handles =
    let seats : length (rests_of inboxes) ≡ seats_of game = length-map inboxes (λ (inbox : Stream). inbox.rest) ∙ same in
    (handles_all_keeps has.lawful counted handles (timed_of_event game (rests_of inboxes) seats moment event) (kept_later moment before going has)).1 (some_input game (rests_of inboxes) moment event)

-- a match opens with a history
pub opened_with : (game : AbstractGame) (text : List ℕ) (config : Config) (now : ℕ) (state : MatchState) (outbox : List (List ℕ)) → Opens game text config now state outbox → HasHistory state
opened_with game text config now state outbox opens =
    let moment : state.streams.moment ≡ counted_first now = ap (λ (streams : Streams). streams.moment) opens.streams in
    rw (opens.of_game, opens.of_config, opens.begins, moment) (plays_on_keeps opens.lawful (min-le_right now latest_moment) opens.opens refl history.none history.nothing)

-- what a fact on `Ok` gives there
pub on_ok : {T E A B : Type 0} (result : Result T E) → IfOk result (λ (_ : T). A) → (A → B) → OnOk result B
on_ok (Ok value) holds turn = turn holds
on_ok (Err error) holds turn = tt
