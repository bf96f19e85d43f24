-- A run of a table holds a transcript of its match.
use Rattle.rbg_base.proofs.Common.{◌≡◌, ℕ, zero, suc, ◌+◌, ◌<◌, List, [], ◌∷◌, ◌++◌, length, get_or, false, refl, sym, ap, ◌∙◌, subst, append_assoc, arith, Option, Some, None, replicate, none-some, ◌==◌, slice_get, slice_set, if◌then◌else◌, flat_map}
use Rattle.std.proofs.lemmas.Bool.{ne_eqb}
use Rattle.std.proofs.lemmas.List.{append-nil, length-replicate, length-set}
use Rattle.std.proofs.lemmas.List.Concat.{flat_map-append}
use Rattle.rbg_wire.specs.declared.message.Reason.TheVariants.{NoSeat}
use Rattle.rbg_wire.specs.declared.outcome.Outcome.{Outcome}
use Rattle.rbg_wire.specs.Messages.{refusal_message, spelling}
use Rattle.rbg_rules.specs.Meaning.{AbstractGame}
use Rattle.rbg_match.specs.declared.config.Config.{Config}
use Rattle.rbg_match.proofs.Common.{Delivery, bytes_for, delivered, delivered_from, timed_inputs_in, MatchState, Opens, Steps, StepsAll, seats_of}
use Rattle.rbg_script.specs.Events.{AbstractEvent}
use Rattle.rbg_match.specs.Matches as matches
use Rattle.rbg_match.proofs.AllEvents.{all_handled}
use Rattle.rbg_match.proofs.Delivering.{delivered-none, delivered-queued, length-delivered}
use Rattle.rbg_match.proofs.EndedLemmas.{ended_play_stays}
use Rattle.rbg_match.proofs.WholeMatch.{seats_of_opened, stepped_is_transcript}
use Rattle.rbg_hall.proofs.TableCommon.{Beginning, Hands, HandsEach, RunHoldsTranscript, TakesLast, late_refusal, late, stirs_not, says_not, goes_not, TableState, TableRun, OwnEvent, joins, Plays, Hears, waits, ticks, sits, begins, is_full, comes_late, stays, waits_too, stirs, is_early, plays, frees, goes, is_moment_for_none, is_unheard, goes_unheard, SitsAt, HasNoSeat, Telling, bytes_to, telling, to_lines}
use Rattle.rbg_hall.specs.TableLaws as laws
use Rattle.rbg_hall.specs.Tables as tables
use Rattle.rbg_hall.proofs.Places.{there_within}
use Rattle.rbg_hall.proofs.Seats.{SitsNowhere, SeatsDiffer, all_differ, differ_taken, none_on, own_on}
use Rattle.rbg_hall.proofs.Telling.{bytes_to-append, bytes_to-other, extended_at}

-- The course of a match that was opened at this moment: what it was handed since, and stepped through.
pub record Course (game : AbstractGame) (text : List ℕ) (config : Config) (at : ℕ) (playing : MatchState) : Type 0 where
  pub handed : List AbstractEvent
  pub opened : MatchState
  pub first : List (List ℕ)
  pub last : List (List ℕ)
  pub opens : Opens game text config at opened first
  pub steps : StepsAll opened first handed playing last
  pub count : length last ≡ seats_of game

-- The match of a table that has begun: when it began, its course since, and what the lines were told.
pub record Began (game : AbstractGame) (text : List ℕ) (config : Config) (events : List OwnEvent) (seats : List (Option ℕ)) (playing : MatchState) (told : List Telling) : Type 0 where
  pub beginning : Beginning game text config events seats
  pub course : Course game text config beginning.at playing
  pub open course use *
  pub hands : HandsEach seats beginning.after handed
  pub on_seats : (index one : ℕ) → slice_get seats index ≡ Some (Some one) → bytes_to one told ≡ bytes_to one beginning.early ++ get_or last index []
  pub elsewhere : (one : ℕ) → SitsNowhere one seats → bytes_to one told ≡ bytes_to one beginning.early ++ flat_map (late_refusal one) beginning.after

-- A table keeps its game, its text and its config, and its match, if it has begun, is such a one.
pub record Kept (game : AbstractGame) (text : List ℕ) (config : Config) (events : List OwnEvent) (state : TableState) (told : List Telling) : Type 0 where
  pub same_game : state.game ≡ game
  pub same_text : state.text ≡ text
  pub same_config : state.config ≡ config
  pub count : length state.seats ≡ seats_of game
  pub began : (playing : MatchState) → state.begun ≡ Some playing → Began game text config events state.seats playing told

-- what a seat has, followed by the bytes of messages to it
pub delivered_at : (seat : ℕ) (box : List (List ℕ)) (outgoing : List Delivery) (index : ℕ) → index < length box → get_or (delivered_from seat box outgoing) index [] ≡ get_or box index [] ++ bytes_for (seat + index) outgoing
delivered_at seat box outgoing index within = extended_at (λ one. bytes_for one outgoing) (λ first all. delivered_from first all outgoing) (λ first bytes others. refl) seat box index within

nothing_at : (n i : ℕ) → get_or {A = List ℕ} (replicate n []) i [] ≡ []
nothing_at zero i = refl
nothing_at (suc n) zero = refl
nothing_at (suc n) (suc i) = nothing_at n i

pub from_nothing : (n index : ℕ) (outgoing : List Delivery) → index < n → get_or (delivered (replicate n []) outgoing) index [] ≡ bytes_for (1 + index) outgoing
from_nothing n index outgoing within =
    delivered_at 1 (replicate n []) outgoing index (subst (λ count. index < count) (sym (length-replicate {A = List ℕ} n [])) within)
    ∙ ap (λ had. had ++ bytes_for (1 + index) outgoing) (nothing_at n index)

-- a match that has ended says nothing, whatever the seats had
silent_on : {old new : MatchState} {event : AbstractEvent} {before after : List (List ℕ)} (others : List (List ℕ)) (step : Steps old event new before after) (outcome : Outcome) → old.play.outcome ≡ Some outcome → delivered others step.outgoing ≡ others
silent_on {old = old} {new = new} {event = event} others step outcome is =
    ap (delivered others) (ended_play_stays old.game old.config old.play new.play outcome (timed_inputs_in old.streams event) step.outgoing is step.handles).1 ∙ delivered-none others

-- a step says the same, whatever the seats had
pub step_on : {old new : MatchState} {event : AbstractEvent} {before after : List (List ℕ)} (others : List (List ℕ)) → (step : Steps old event new before after) → Steps old event new others (delivered others step.outgoing)
step_on others step = search (silent_on others step)

-- what is told after what a line was told
beyond : (one : ℕ) (told next : List Telling) (before more : List ℕ) → bytes_to one told ≡ before → bytes_to one next ≡ more → bytes_to one (told ++ next) ≡ before ++ more
beyond one told next before more had has = bytes_to-append one told next ∙ (λ i. had i ++ has i)

-- the one line of a telling
told_one : (one line : ℕ) (bytes : List ℕ) → bytes_to one (telling line bytes) ≡ (if line == one then bytes else [])
told_one one line bytes = append-nil (if line == one then bytes else [])

-- the same beginning, seen one event later
abbrev pub seen_later : {game : AbstractGame} {text : List ℕ} {config : Config} {events : List OwnEvent} {seats : List (Option ℕ)} (event : OwnEvent) → Beginning game text config events seats → Beginning game text config (events ++ event ∷ []) seats
seen_later event beginning = record {
  before = beginning.before;
  line = beginning.line;
  at = beginning.at;
  after = beginning.after ++ event ∷ [];
  whole = ap (λ all. all ++ event ∷ []) beginning.whole ∙ append_assoc beginning.before (joins beginning.line beginning.at ∷ beginning.after) (event ∷ []);
  gathering = beginning.gathering;
  early = beginning.early;
  gathers = beginning.gathers;
  waits = beginning.waits;
  takes = beginning.takes;
}

module _ (game : AbstractGame) (text : List ℕ) (config : Config) (events : List OwnEvent) (event : OwnEvent) where
  -- a line without a seat, after one more event
  further : (one : ℕ) (early told next : List Telling) (after : List OwnEvent) → bytes_to one told ≡ bytes_to one early ++ flat_map (late_refusal one) after → bytes_to one next ≡ late_refusal one event → bytes_to one (told ++ next) ≡ bytes_to one early ++ flat_map (late_refusal one) (after ++ event ∷ [])
  further one early told next after had has =
      beyond one told next (bytes_to one early ++ flat_map (late_refusal one) after) (late_refusal one event) had has
      ∙ append_assoc (bytes_to one early) (flat_map (late_refusal one) after) (late_refusal one event)
      ∙ ap (λ more. bytes_to one early ++ more)
      (ap (λ last. flat_map (late_refusal one) after ++ last) (sym (append-nil (late_refusal one event))) ∙ sym (flat_map-append (late_refusal one) after (event ∷ [])))

  -- an event of which the match is handed nothing
  passed : (seats : List (Option ℕ)) (playing : MatchState) (told next : List Telling) → Hands seats event [] → ((index one : ℕ) → slice_get seats index ≡ Some (Some one) → bytes_to one next ≡ []) → ((one : ℕ) → SitsNowhere one seats → bytes_to one next ≡ late_refusal one event) → Began game text config events seats playing told → Began game text config (events ++ event ∷ []) seats playing (told ++ next)
  passed seats playing told next hands seated others began = record {
    beginning = seen_later event began.beginning;
    course = began.course;
    hands = subst (λ one. HandsEach seats (began.beginning.after ++ event ∷ []) one) (append-nil began.handed) (laws.more began.hands hands);
    on_seats = λ index one there.
        beyond one told next (bytes_to one began.beginning.early ++ get_or began.last index []) [] (began.on_seats index one there) (seated index one there)
        ∙ append-nil (bytes_to one began.beginning.early ++ get_or began.last index []);
    elsewhere = λ one nowhere. further one began.beginning.early told next began.beginning.after (began.elsewhere one nowhere) (others one nowhere);
  }

  -- an event that the match handles
  stepped : (seats : List (Option ℕ)) (playing after : MatchState) (told : List Telling) (handed : AbstractEvent) (queues : List (List ℕ)) → length seats ≡ seats_of game → SeatsDiffer seats → ((one : ℕ) → late_refusal one event ≡ []) → Hands seats event (handed ∷ []) → Steps playing handed after (replicate (seats_of game) []) queues → Began game text config events seats playing told → Began game text config (events ++ event ∷ []) seats after (told ++ to_lines seats queues)
  stepped seats playing next told handed queues seated differ quiet hands step began = record {
    beginning = seen_later event began.beginning;
    course = record {
      handed = began.handed ++ handed ∷ [];
      opened = began.opened;
      first = began.first;
      last = delivered began.last step.outgoing;
      opens = began.opens;
      steps = matches.more began.steps (step_on began.last step);
      count = length-delivered began.last step.outgoing ∙ began.count;
    };
    hands = laws.more began.hands hands;
    on_seats = λ index one there. on_seat index one there;
    elsewhere = λ one nowhere. further one began.beginning.early told (to_lines seats queues) began.beginning.after (began.elsewhere one nowhere) (none_on one seats queues nowhere ∙ sym (quiet one));
  }
    where
      on_seat : (index one : ℕ) → slice_get seats index ≡ Some (Some one) → bytes_to one (told ++ to_lines seats queues) ≡ bytes_to one began.beginning.early ++ get_or (delivered began.last step.outgoing) index []
      on_seat index one there =
          let there_is : index < seats_of game = subst (λ n. index < n) seated (there_within seats index (Some one) there) in
          let there_was : index < length began.last = subst (λ n. index < n) (sym began.count) there_is in
          let own : bytes_to one (to_lines seats queues) ≡ bytes_for (1 + index) step.outgoing =
          own_on one seats queues index differ there ∙ ap (λ all. get_or all index []) step.told ∙ from_nothing (seats_of game) index step.outgoing there_is in
          beyond one told (to_lines seats queues) (bytes_to one began.beginning.early ++ get_or began.last index []) (bytes_for (1 + index) step.outgoing) (began.on_seats index one there) own
          ∙ append_assoc (bytes_to one began.beginning.early) (get_or began.last index []) (bytes_for (1 + index) step.outgoing)
          ∙ ap (λ all. bytes_to one began.beginning.early ++ all) (sym (delivered_at 1 began.last step.outgoing index there_was))

  -- the table stays as it is
  unheard : (old : TableState) (told next : List Telling) → Hands old.seats event [] → ((index one : ℕ) → slice_get old.seats index ≡ Some (Some one) → bytes_to one next ≡ []) → ((one : ℕ) → SitsNowhere one old.seats → bytes_to one next ≡ late_refusal one event) → Kept game text config events old told → Kept game text config (events ++ event ∷ []) old (told ++ next)
  unheard old told next hands seated others kept = record {
    same_game = kept.same_game;
    same_text = kept.same_text;
    same_config = kept.same_config;
    count = kept.count;
    began = λ playing is. passed old.seats playing told next hands seated others (kept.began playing is);
  }

  -- the table waits, and perhaps its seats change
  waiting : (old : TableState) (told next : List Telling) (seats : List (Option ℕ)) → length seats ≡ length old.seats → old.begun ≡ None → Kept game text config events old told → Kept game text config (events ++ event ∷ []) (record old { seats = seats }) (told ++ next)
  waiting old told next seats same none kept = record {
    same_game = kept.same_game;
    same_text = kept.same_text;
    same_config = kept.same_config;
    count = same ∙ kept.count;
    began = λ playing is. absurd (none-some playing (sym none ∙ is));
  }

  waiting_still : (old : TableState) (told next : List Telling) → old.begun ≡ None → Kept game text config events old told → Kept game text config (events ++ event ∷ []) old (told ++ next)
  waiting_still old told next none kept = record {
    same_game = kept.same_game;
    same_text = kept.same_text;
    same_config = kept.same_config;
    count = kept.count;
    began = λ playing is. absurd (none-some playing (sym none ∙ is));
  }

  played : (old new : TableState) (told next : List Telling) (handed : AbstractEvent) → SeatsDiffer old.seats → ((one : ℕ) → late_refusal one event ≡ []) → Hands old.seats event (handed ∷ []) → Plays old handed new next → Kept game text config events old told → Kept game text config (events ++ event ∷ []) new (told ++ next)
  played old new told next handed differ quiet hands play kept =
      subst (λ (one : TableState). Kept game text config (events ++ event ∷ []) one (told ++ next)) (sym play.is)
      (record {
        same_game = kept.same_game;
        same_text = kept.same_text;
        same_config = kept.same_config;
        count = kept.count;
        began = λ playing is.
            subst (λ (one : MatchState). Began game text config (events ++ event ∷ []) old.seats one (told ++ next)) (same_match play.after playing is)
            (subst (λ all. Began game text config (events ++ event ∷ []) old.seats play.after (told ++ all)) (sym play.to)
            (stepped old.seats play.before play.after told handed play.queues kept.count differ quiet hands
            (subst (λ (one : AbstractGame). Steps play.before handed play.after (replicate (seats_of one) []) play.queues) kept.same_game play.steps)
            (kept.began play.before play.begun)));
      })
    where
      same_match : (one other : MatchState) → Some one ≡ Some other → one ≡ other
      same_match one other is = cc

-- the match begins
opened_here : (game : AbstractGame) (text : List ℕ) (config : Config) (events : List OwnEvent) (line at : ℕ) (old : TableState) (told : List Telling) (seats : List (Option ℕ)) (opened : MatchState) (queues : List (List ℕ)) → TableRun game text config events old told → old.begun ≡ None → TakesLast old line seats → SeatsDiffer seats → length seats ≡ length old.seats → Opens old.game old.text old.config at opened queues → Kept game text config events old told → Kept game text config (events ++ joins line at ∷ []) (record old { seats = seats; begun = Some opened }) (told ++ to_lines seats queues)
opened_here game text config events line at old told seats opened queues run none takes differ same opens kept = record {
  same_game = kept.same_game;
  same_text = kept.same_text;
  same_config = kept.same_config;
  count = same ∙ kept.count;
  began = λ playing is.
      subst (λ (one : MatchState). Began game text config (events ++ joins line at ∷ []) seats one (told ++ to_lines seats queues)) (same_match opened playing is)
      (record {
        beginning = record { before = events; line = line; at = at; after = []; whole = refl; gathering = old; early = told; gathers = run; waits = none; takes = takes };
        course = record {
          handed = [];
          opened = opened;
          first = queues;
          last = queues;
          opens = own_opens;
          steps = matches.none;
          count = seats_of_opened game text config at opened queues own_opens ∙ ap seats_of own_opens.of_game;
        };
        hands = laws.none;
        on_seats = λ index one there. beyond one told (to_lines seats queues) (bytes_to one told) (get_or queues index []) refl (own_on one seats queues index differ there);
        elsewhere = λ one nowhere. beyond one told (to_lines seats queues) (bytes_to one told) [] refl (none_on one seats queues nowhere);
      });
}
  where
    same_match : (one other : MatchState) → Some one ≡ Some other → one ≡ other
    same_match one other is = cc

    own_opens : Opens game text config at opened queues
    own_opens =
        subst (λ (one : AbstractGame). Opens one text config at opened queues) kept.same_game
        (subst (λ one. Opens old.game one config at opened queues) kept.same_text
        (subst (λ (one : Config). Opens old.game old.text one at opened queues) kept.same_config opens))

-- a line without a seat is told that there is none, and no other one is told so
refused_seated : (table : TableState) (line : ℕ) (bytes : List ℕ) → HasNoSeat table line → (index one : ℕ) → SitsAt table one index → bytes_to one (telling line bytes) ≡ []
refused_seated table line bytes nowhere index one there = bytes_to-other one line bytes (λ same. nowhere index (there ∙ ap (λ (n : ℕ). Some (Some n)) (sym same)))

stayed_elsewhere : (table : TableState) (line index : ℕ) (bytes : List ℕ) → SitsAt table line index → (one : ℕ) → HasNoSeat table one → [] ≡ (if line == one then bytes else [])
stayed_elsewhere table line index bytes seat one nowhere = ap (λ test. if test then bytes else []) (sym (ne_eqb line one (λ same. nowhere index (seat ∙ ap (λ (n : ℕ). Some (Some n)) same))))

one_kept : {old new : TableState} {event : OwnEvent} {told next : List Telling} (game : AbstractGame) (text : List ℕ) (config : Config) (events : List OwnEvent) → TableRun game text config events old told → Kept game text config events old told → Hears old event new next → Kept game text config (events ++ event ∷ []) new (told ++ next)
one_kept {old} {told = told} {next} game text config events run kept (waits none) = waiting_still game text config events _ old told next none kept
one_kept {old} {new} {told = told} {next} game text config events run kept (ticks play) = played game text config events _ old new told next _ (all_differ run) (λ one. refl) laws.ticks play kept
one_kept {old} {told = told} {next} game text config events run kept (sits {line} index other none nowhere first free) = waiting game text config events _ old told next _ (length-set old.seats index (Some line)) none kept
one_kept {old} {told = told} game text config events run kept (begins {line} {at} {opened} {queues} index none nowhere first taken opens) =
    opened_here game text config events line at old told (slice_set old.seats index (Some line)) opened queues run none
    (record { index = index; has_none = nowhere; free = first; taken = refl; full = taken })
    (differ_taken old.seats index line (all_differ run) nowhere) (length-set old.seats index (Some line)) opens kept
one_kept {old} {told = told} {next} game text config events run kept (is_full {line} nowhere taken) = unheard game text config events _ old told next late (refused_seated old line (spelling (refusal_message NoSeat)) nowhere) (λ one away. told_one one line (spelling (refusal_message NoSeat))) kept
one_kept {old} {told = told} {next} game text config events run kept (comes_late {line} nowhere begun) = unheard game text config events _ old told next late (refused_seated old line (spelling (refusal_message NoSeat)) nowhere) (λ one away. told_one one line (spelling (refusal_message NoSeat))) kept
one_kept {old} {told = told} {next} game text config events run kept (stays {line} seat) = unheard game text config events _ old told next late (λ index one there. refl) (stayed_elsewhere old line seat.index (spelling (refusal_message NoSeat)) seat.sits) kept
one_kept {old} {told = told} {next} game text config events run kept (waits_too none) = waiting_still game text config events _ old told next none kept
one_kept {old} {new} {told = told} {next} game text config events run kept (stirs index seat play) = played game text config events _ old new told next _ (all_differ run) (λ one. refl) (laws.stirs index seat) play kept
one_kept {old} {told = told} {next} game text config events run kept (is_early index seat none) = waiting_still game text config events _ old told next none kept
one_kept {old} {new} {told = told} {next} game text config events run kept (plays index seat play) = played game text config events _ old new told next _ (all_differ run) (λ one. refl) (laws.plays index seat) play kept
one_kept {old} {told = told} {next} game text config events run kept (frees index seat none) = waiting game text config events _ old told next _ (length-set old.seats index None) none kept
one_kept {old} {new} {told = told} {next} game text config events run kept (goes index seat play) = played game text config events _ old new told next _ (all_differ run) (λ one. refl) (laws.goes index seat) play kept
one_kept {old} {told = told} {next} game text config events run kept (is_moment_for_none none) = unheard game text config events _ old told next (stirs_not none) (λ index one there. refl) (λ one away. refl) kept
one_kept {old} {told = told} {next} game text config events run kept (is_unheard none) = unheard game text config events _ old told next (says_not none) (λ index one there. refl) (λ one away. refl) kept
one_kept {old} {told = told} {next} game text config events run kept (goes_unheard none) = unheard game text config events _ old told next (goes_not none) (λ index one there. refl) (λ one away. refl) kept

all_kept : {game : AbstractGame} {text : List ℕ} {config : Config} {events : List OwnEvent} {state : TableState} {told : List Telling} → TableRun game text config events state told → Kept game text config events state told
all_kept {game = game} tables.none = record { same_game = refl; same_text = refl; same_config = refl; count = length-replicate {A = Option ℕ} (seats_of game) None; began = λ playing is. absurd (none-some playing is) }
all_kept {game} {text} {config} (tables.more {events} run hears) = one_kept game text config events run (all_kept run) hears

-- a match keeps when it began, and works as long as it is stepped
begun_once : {old : MatchState} {before : List (List ℕ)} {events : List AbstractEvent} {new : MatchState} {after : List (List ℕ)} → StepsAll old before events new after → new.began ≡ old.began
begun_once matches.none = refl
begun_once (matches.more steps step) = step.same_begin ∙ begun_once steps

still_works : {old : MatchState} {before : List (List ℕ)} {events : List AbstractEvent} {new : MatchState} {after : List (List ℕ)} → old.failed ≡ false → StepsAll old before events new after → new.failed ≡ false
still_works works matches.none = works
still_works works (matches.more steps step) = step.works

pub run_holds_transcript : RunHoldsTranscript
run_holds_transcript game text config events told hall playing is =
    let kept = all_kept hall.runs in
    let began = kept.began playing is in
    let stepped = stepped_is_transcript game text config began.beginning.at began.handed began.opened playing began.first began.last began.opens began.steps in
    let handled = all_handled began.steps in
    record {
      beginning = began.beginning;
      handed = began.handed;
      hands = began.hands;
      outgoing = stepped.0;
      transcript = stepped.1;
      of_game = handled.same_game ∙ began.opens.of_game;
      of_config = handled.same_config ∙ began.opens.of_config;
      begins = begun_once began.steps ∙ began.opens.begins;
      works = still_works began.opens.works began.steps;
      on_seats = λ index one there.
          began.on_seats index one there
          ∙ ap (λ own. bytes_to one began.beginning.early ++ own)
          (ap (λ all. get_or all index []) (stepped.2 ∙ sym (delivered-queued (seats_of game) stepped.0))
          ∙ from_nothing (seats_of game) index stepped.0 (subst (λ n. index < n) kept.count (there_within hall.state.seats index (Some one) there))
          ∙ ap (λ seat. bytes_for seat stepped.0) (next_seat index));
      elsewhere = began.elsewhere;
    }
  where
    next_seat : (index : ℕ) → 1 + index ≡ index + 1
    next_seat index = omega arith
