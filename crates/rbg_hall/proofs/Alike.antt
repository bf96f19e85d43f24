-- What a table hears decides what its lines are told, but for the keeper's moves and questions above the limits.
use Rattle.rbg_base.proofs.Common.{◌≡◌, ℕ, ◌+◌, List, [], ◌∷◌, ◌++◌, refl, sym, ap, ◌∙◌, subst, append_assoc, append-nil, arith, Option, Some, None, is_some, inl, inr, cases_lt, none-some, slice_get, slice_set, flat_map}
use Rattle.rbg_wire.specs.declared.message.Reason.TheVariants.{OutOfTurn, NoSeat}
use Rattle.rbg_wire.proofs.Common.{Item, whole_item}
use Rattle.rbg_rules.specs.Meaning.{IsNumbered, AbstractGame}
use Rattle.rbg_match.specs.declared.config.Config.{Config}
use Rattle.rbg_match.proofs.Common.{bytes_for, message_limit, MatchState, seats_of, Transcript}
use Rattle.rbg_script.specs.Events.{AbstractEvent, piece, end_of_stream}
use Rattle.rbg_match.proofs.OneTranscriptLemmas.{one_transcript}
use Rattle.rbg_hall.specs.TableLaws.{Beginning, ChooseAlike, Hands, HandsEach, HoldsTranscript, OneTable, TakesLast, late_refusal, ticks, stirs, plays, goes, late, stirs_not, says_not, goes_not}
use Rattle.rbg_hall.specs.TableLaws as laws
use Rattle.rbg_hall.proofs.TableCommon.{TableState, TableRun, OwnEvent, clock, joins, arrives, says, leaves, Plays, Hears, SitsAt, HasSeat, HasNoSeat, IsFirstFree, AreTaken, new_table, Telling, bytes_to, refusal_to}
use Rattle.rbg_hall.specs.Tables as tables
use Rattle.rbg_hall.proofs.Holding.{run_holds_transcript}
use Rattle.rbg_hall.proofs.Seats.{SitsNowhere, SeatsDiffer, all_differ, one_differ, no_seats, seat_or_none}

-- What a table does that waits before an event and after it.
data Waits (old : TableState) : OwnEvent → (new : TableState) → (told : List Telling) → Type 0 where
  idles : {at : ℕ} →
      Waits old (clock at) old []
  sits : {line at : ℕ} →
      (index other : ℕ) →
      HasNoSeat old line →
      IsFirstFree old.seats index →
      slice_get (slice_set old.seats index (Some line)) other ≡ Some None →
      Waits old (joins line at) (record old { seats = slice_set old.seats index (Some line) }) []
  is_full : {line at : ℕ} →
      HasNoSeat old line →
      AreTaken old.seats →
      Waits old (joins line at) old (refusal_to line NoSeat)
  stays : {line at : ℕ} →
      HasSeat old line →
      Waits old (joins line at) old []
  sends : {line at : ℕ} →
      Waits old (arrives line at) old []
  is_early : {line at : ℕ} {item : Item} →
      (index : ℕ) →
      SitsAt old line index →
      Waits old (says line at item) old (refusal_to line OutOfTurn)
  is_unheard : {line at : ℕ} {item : Item} →
      HasNoSeat old line →
      Waits old (says line at item) old []
  frees : {line at : ℕ} →
      (index : ℕ) →
      SitsAt old line index →
      Waits old (leaves line at) (record old { seats = slice_set old.seats index None }) []
  goes_unheard : {line at : ℕ} →
      HasNoSeat old line →
      Waits old (leaves line at) old []

begun_by : {old new : TableState} {told : List Telling} {event : AbstractEvent} → Plays old event new told → new.begun ≡ None → ⊥
begun_by play none = none-some play.after (sym none ∙ ap (λ (one : TableState). one.begun) play.is)

never_begun : {playing : MatchState} {P : Type 0} → Some playing ≡ None → P
never_begun {playing} is = absurd (none-some playing (sym is))

-- a table that waits after an event waited before it
waited : {old new : TableState} {event : OwnEvent} {told : List Telling} → Hears old event new told → new.begun ≡ None → (old.begun ≡ None) × Waits old event new told
waited (tables.waits none) waits = (none, idles)
waited (tables.ticks play) waits = absurd (begun_by play waits)
waited (tables.sits index other none nowhere first free) waits = (none, sits index other nowhere first free)
waited (tables.begins index none nowhere first taken opens) waits = never_begun waits
waited (tables.is_full nowhere taken) waits = (waits, is_full nowhere taken)
waited (tables.comes_late nowhere begun) waits = never_begun (sym begun ∙ waits)
waited (tables.stays seat) waits = (waits, stays seat)
waited (tables.waits_too none) waits = (none, sends)
waited (tables.stirs index seat play) waits = absurd (begun_by play waits)
waited (tables.is_early index seat none) waits = (none, is_early index seat)
waited (tables.plays index seat play) waits = absurd (begun_by play waits)
waited (tables.frees index seat none) waits = (none, frees index seat)
waited (tables.goes index seat play) waits = absurd (begun_by play waits)
waited (tables.is_moment_for_none nowhere) waits = (waits, sends)
waited (tables.is_unheard nowhere) waits = (waits, is_unheard nowhere)
waited (tables.goes_unheard nowhere) waits = (waits, goes_unheard nowhere)

pub waited_before : {old new : TableState} {event : OwnEvent} {told : List Telling} → Hears old event new told → new.begun ≡ None → old.begun ≡ None
waited_before hears waits = (waited hears waits).0

-- there is one first free seat
one_free : (seats : List (Option ℕ)) (one other : ℕ) → IsFirstFree seats one → IsFirstFree seats other → one ≡ other
one_free seats one other first first' = elim (cases_lt one other) [
  | inl less ↦ absurd (first'.first one less first.free)
  | inr some ↦ elim (cases_lt other one) [
    | inl less ↦ absurd (first.first other less first'.free)
    | inr more ↦ omega arith
  ]
]

-- a table that waits does one thing at an event
one_waiting : {old new new' : TableState} {event : OwnEvent} {told told' : List Telling} → SeatsDiffer old.seats → Waits old event new told → Waits old event new' told' → (new ≡ new') × (told ≡ told')
one_waiting differ idles idles = (refl, refl)
one_waiting {old} differ (sits {line} index other nowhere first free) (sits index' other' nowhere' first' free') =
    (ap (λ place. record old { seats = slice_set old.seats place (Some line) }) (one_free old.seats index index' first first'), refl)
one_waiting differ (sits index other nowhere first free) (is_full nowhere' taken) = absurd (taken index first.free)
one_waiting differ (sits index other nowhere first free) (stays seat) = absurd (nowhere seat.index seat.sits)
one_waiting differ (is_full nowhere taken) (sits index other nowhere' first free) = absurd (taken index first.free)
one_waiting differ (is_full nowhere taken) (is_full nowhere' taken') = (refl, refl)
one_waiting differ (is_full nowhere taken) (stays seat) = absurd (nowhere seat.index seat.sits)
one_waiting differ (stays seat) (sits index other nowhere first free) = absurd (nowhere seat.index seat.sits)
one_waiting differ (stays seat) (is_full nowhere taken) = absurd (nowhere seat.index seat.sits)
one_waiting differ (stays seat) (stays seat') = (refl, refl)
one_waiting differ sends sends = (refl, refl)
one_waiting differ (is_early index seat) (is_early index' seat') = (refl, refl)
one_waiting differ (is_early index seat) (is_unheard nowhere) = absurd (nowhere index seat)
one_waiting differ (is_unheard nowhere) (is_early index seat) = absurd (nowhere index seat)
one_waiting differ (is_unheard nowhere) (is_unheard nowhere') = (refl, refl)
one_waiting {old} differ (frees {line} index seat) (frees index' seat') =
    (ap (λ place. record old { seats = slice_set old.seats place None }) (differ line index index' seat seat'), refl)
one_waiting differ (frees index seat) (goes_unheard nowhere) = absurd (nowhere index seat)
one_waiting differ (goes_unheard nowhere) (frees index seat) = absurd (nowhere index seat)
one_waiting differ (goes_unheard nowhere) (goes_unheard nowhere') = (refl, refl)

-- Where a line takes the last seat the table doesn't wait.
not_waiting : {table new : TableState} {line at : ℕ} {seats : List (Option ℕ)} {told : List Telling} → TakesLast table line seats → Waits table (joins line at) new told → ⊥
not_waiting {table} {line = line} takes (sits index other nowhere first free) =
    let same : slice_set table.seats takes.index (Some line) ≡ slice_set table.seats index (Some line) = ap (λ place. slice_set table.seats place (Some line)) (one_free table.seats takes.index index takes.free first) in
    takes.full other (ap (λ all. slice_get all other) (takes.taken ∙ same) ∙ free)
not_waiting takes (is_full nowhere taken) = taken takes.index takes.free.free
not_waiting takes (stays seat) = takes.has_none seat.index seat.sits

-- Events in turn, the first one first.
data RunsOn : (old : TableState) → List OwnEvent → (new : TableState) → (told : List Telling) → Type 0 where
  none : {old : TableState} → RunsOn old [] old []
  more : {old middle new : TableState} {event : OwnEvent} {events : List OwnEvent} {first next : List Telling} →
      Hears old event middle first →
      RunsOn middle events new next →
      RunsOn old (event ∷ events) new (first ++ next)

one_on : {old middle new : TableState} {events : List OwnEvent} {event : OwnEvent} {first next : List Telling} → RunsOn old events middle first → Hears middle event new next → RunsOn old (events ++ event ∷ []) new (first ++ next)
one_on {old} {event = event} {next = next} none hears = subst (RunsOn old (event ∷ []) _) (append-nil next) (more hears none)
one_on {next = last} (more {first = first} {next = next} before rest) hears = rw (append_assoc first next last) (more before (one_on rest hears))

runs_on : {game : AbstractGame} {text : List ℕ} {config : Config} {events : List OwnEvent} {state : TableState} {told : List Telling} → TableRun game text config events state told → RunsOn (new_table game text config) events state told
runs_on tables.none = none
runs_on (tables.more run hears) = one_on (runs_on run) hears

-- Events in two parts.
record RunsParts (old : TableState) (xs ys : List OwnEvent) (new : TableState) : Type 0 where
  pub middle : TableState
  pub first : List Telling
  pub next : List Telling
  pub runs : RunsOn old xs middle first
  pub goes_on : RunsOn middle ys new next

parted : {old new : TableState} {told : List Telling} (xs ys : List OwnEvent) → RunsOn old (xs ++ ys) new told → RunsParts old xs ys new
parted {old} {told = told} [] ys runs = record { middle = old; first = []; next = told; runs = none; goes_on = runs }
parted (x ∷ xs) ys (more {first = first} hears rest) =
    let parts = parted xs ys rest in
    record { middle = parts.middle; first = first ++ parts.first; next = parts.next; runs = more hears parts.runs; goes_on = parts.goes_on }

still_waited : {old new : TableState} {events : List OwnEvent} {told : List Telling} → RunsOn old events new told → new.begun ≡ None → old.begun ≡ None
still_waited none waits = waits
still_waited (more hears rest) waits = (waited hears (still_waited rest waits)).0

-- a table that waits stands in one way after events, and has told one thing
one_gathering : {old new new' : TableState} {events : List OwnEvent} {told told' : List Telling} → SeatsDiffer old.seats → RunsOn old events new told → RunsOn old events new' told' → new.begun ≡ None → new'.begun ≡ None → (new ≡ new') × (told ≡ told')
one_gathering differ none none waits waits' = (refl, refl)
one_gathering {old} {new' = new'} differ (more {middle = middle} {events = events} hears rest) (more {middle = middle'} {next = next'} hears' rest') waits waits' =
    let here = one_waiting differ (waited hears (still_waited rest waits)).1 (waited hears' (still_waited rest' waits')).1 in
    let later = one_gathering (one_differ hears differ) rest (subst (λ (one : TableState). RunsOn one events new' next') (sym here.0) rest') waits waits' in
    (later.0, λ i. here.1 i ++ later.1 i)

-- a table that waits after these events doesn't wait after a line that takes the last seat
no_more_waiting : {old table new : TableState} {line : ℕ} {seats : List (Option ℕ)} {told others : List Telling} (at : ℕ) (before after : List OwnEvent) → SeatsDiffer old.seats → RunsOn old before table told → table.begun ≡ None → TakesLast table line seats → RunsOn old (before ++ joins line at ∷ after) new others → new.begun ≡ None → ⊥
no_more_waiting {old} {table} {new} {line} at before after differ runs waits takes whole waits' =
    let parts = parted before (joins line at ∷ after) whole in
    let same = one_gathering differ runs parts.runs waits (still_waited parts.goes_on waits') in
    by_step (subst (λ (one : TableState). RunsOn one (joins line at ∷ after) new parts.next) (sym same.0) parts.goes_on) waits'
  where
    by_step : {new : TableState} {next : List Telling} → RunsOn table (joins line at ∷ after) new next → new.begun ≡ None → ⊥
    by_step (more hears rest) last = not_waiting takes (waited hears (still_waited rest last)).1

-- what a match is handed, the first event first
data HandsOn (seats : List (Option ℕ)) : List OwnEvent → List AbstractEvent → Type 0 where
  none : HandsOn seats [] []
  more : {event : OwnEvent} {events : List OwnEvent} {first next : List AbstractEvent} →
      Hands seats event first →
      HandsOn seats events next →
      HandsOn seats (event ∷ events) (first ++ next)

hands_one : {seats : List (Option ℕ)} {events : List OwnEvent} {event : OwnEvent} {first next : List AbstractEvent} → HandsOn seats events first → Hands seats event next → HandsOn seats (events ++ event ∷ []) (first ++ next)
hands_one {seats} {event = event} {next = next} none hands = subst (HandsOn seats (event ∷ [])) (append-nil next) (more hands none)
hands_one {next = last} (more {first = first} {next = next} before rest) hands = rw (append_assoc first next last) (more before (hands_one rest hands))

hands_on : {seats : List (Option ℕ)} {events : List OwnEvent} {handed : List AbstractEvent} → HandsEach seats events handed → HandsOn seats events handed
hands_on laws.none = none
hands_on (laws.more each hands) = hands_one (hands_on each) hands

one_handed : {seats : List (Option ℕ)} {event : OwnEvent} {handed handed' : List AbstractEvent} → SeatsDiffer seats → Hands seats event handed → Hands seats event handed' → handed ≡ handed'
one_handed differ ticks ticks = refl
one_handed differ (stirs index seat) (stirs index' seat') = refl
one_handed differ (stirs index seat) (stirs_not nowhere) = absurd (nowhere index seat)
one_handed differ (stirs_not nowhere) (stirs index seat) = absurd (nowhere index seat)
one_handed differ (stirs_not nowhere) (stirs_not nowhere') = refl
one_handed differ (plays {line} {at} {item} index seat) (plays index' seat') = ap (λ (place : ℕ). piece (place + 1) at (whole_item message_limit item) ∷ []) (differ line index index' seat seat')
one_handed differ (plays index seat) (says_not nowhere) = absurd (nowhere index seat)
one_handed differ (says_not nowhere) (plays index seat) = absurd (nowhere index seat)
one_handed differ (says_not nowhere) (says_not nowhere') = refl
one_handed differ (goes {line} {at} index seat) (goes index' seat') = ap (λ (place : ℕ). end_of_stream (place + 1) at ∷ []) (differ line index index' seat seat')
one_handed differ (goes index seat) (goes_not nowhere) = absurd (nowhere index seat)
one_handed differ (goes_not nowhere) (goes index seat) = absurd (nowhere index seat)
one_handed differ (goes_not nowhere) (goes_not nowhere') = refl
one_handed differ late late = refl

all_handed : {seats : List (Option ℕ)} {events : List OwnEvent} {handed handed' : List AbstractEvent} → SeatsDiffer seats → HandsOn seats events handed → HandsOn seats events handed' → handed ≡ handed'
all_handed differ none none = refl
all_handed differ (more hands rest) (more hands' rest') = λ i. one_handed differ hands hands' i ++ all_handed differ rest rest' i

-- Two ways of cutting a list at an element: at the same one, or at one of which the other is later.
data IsCutTwice {A : Type 0} (xs : List A) (x : A) (us : List A) (ys : List A) (y : A) (vs : List A) : Type 0 where
  here : xs ≡ ys → x ≡ y → us ≡ vs → IsCutTwice xs x us ys y vs
  later : (rest : List A) → ys ≡ xs ++ x ∷ rest → IsCutTwice xs x us ys y vs
  earlier : (rest : List A) → xs ≡ ys ++ y ∷ rest → IsCutTwice xs x us ys y vs

heads : {A : Type 0} {x y : A} {xs ys : List A} → x ∷ xs ≡ y ∷ ys → x ≡ y
heads is = cc

tails : {A : Type 0} {x y : A} {xs ys : List A} → x ∷ xs ≡ y ∷ ys → xs ≡ ys
tails is = cc

both_longer : {A : Type 0} {z w x y : A} {xs us ys vs : List A} → z ≡ w → IsCutTwice xs x us ys y vs → IsCutTwice (z ∷ xs) x us (w ∷ ys) y vs
both_longer same (here is at rest) = here (λ i. same i ∷ is i) at rest
both_longer same (later rest is) = later rest (λ i. sym same i ∷ is i)
both_longer same (earlier rest is) = earlier rest (λ i. same i ∷ is i)

cut_twice : {A : Type 0} (xs : List A) (x : A) (us ys : List A) (y : A) (vs : List A) → xs ++ x ∷ us ≡ ys ++ y ∷ vs → IsCutTwice xs x us ys y vs
cut_twice [] x us [] y vs is = here refl (heads is) (tails is)
cut_twice [] x us (z ∷ ys) y vs is = later ys (ap (λ one. one ∷ ys) (sym (heads is)))
cut_twice (z ∷ xs) x us [] y vs is = earlier xs (ap (λ one. one ∷ xs) (heads is))
cut_twice (z ∷ xs) x us (w ∷ ys) y vs is = both_longer (heads is) (cut_twice xs x us ys y vs (tails is))

-- two transcripts of one beginning
module _ {game : AbstractGame} {text : List ℕ} {config : Config} {events : List OwnEvent} {seats seats' : List (Option ℕ)} {playing playing' : MatchState} {told told' : List Telling} (numbered : IsNumbered game.rules) (one : HoldsTranscript game text config events seats playing told) (other : HoldsTranscript game text config events seats' playing' told') (differ : SeatsDiffer seats) (alike : ChooseAlike playing.play playing'.play) where
  first_differ : SeatsDiffer (new_table game text config).seats
  first_differ = no_seats (seats_of game)

  module _ (same_before : one.beginning.before ≡ other.beginning.before) (same_join : joins one.beginning.line one.beginning.at ≡ joins other.beginning.line other.beginning.at) (same_after : one.beginning.after ≡ other.beginning.after) where
    same_line : one.beginning.line ≡ other.beginning.line
    same_line = cc

    same_at : one.beginning.at ≡ other.beginning.at
    same_at = cc

    gathered : (one.beginning.gathering ≡ other.beginning.gathering) × (one.beginning.early ≡ other.beginning.early)
    gathered = one_gathering first_differ (runs_on one.beginning.gathers) (subst (λ all. RunsOn (new_table game text config) all other.beginning.gathering other.beginning.early) (sym same_before) (runs_on other.beginning.gathers)) one.beginning.waits other.beginning.waits

    same_index : one.beginning.takes.index ≡ other.beginning.takes.index
    same_index = one_free one.beginning.gathering.seats one.beginning.takes.index other.beginning.takes.index one.beginning.takes.free (subst (λ (table : TableState). IsFirstFree table.seats other.beginning.takes.index) (sym gathered.0) other.beginning.takes.free)

    same_seats : seats ≡ seats'
    same_seats = one.beginning.takes.taken ∙ (λ i. slice_set (gathered.0 i).seats (same_index i) (Some (same_line i))) ∙ sym other.beginning.takes.taken

    same_handed : one.handed ≡ other.handed
    same_handed = all_handed differ (hands_on one.hands) (hands_on (subst (λ all. HandsEach all one.beginning.after other.handed) (sym same_seats) (subst (λ all. HandsEach seats' all other.handed) (sym same_after) other.hands)))

    same_said : one.outgoing ≡ other.outgoing
    same_said = (one_transcript game text config one.beginning.at one.handed playing.play playing'.play one.outgoing other.outgoing numbered one.transcript
        (subst (λ moment. Transcript game text config moment one.handed playing'.play other.outgoing) (sym same_at)
        (subst (λ handed. Transcript game text config other.beginning.at handed playing'.play other.outgoing) (sym same_handed) other.transcript))
        alike.light alike.other_light alike.keeper).1

    same_bytes : (line : ℕ) → bytes_to line told ≡ bytes_to line told'
    same_bytes line = elim (seat_or_none line seats) [
      | inl there ↦ one.on_seats there.0 line there.1
          ∙ (λ i. bytes_to line (gathered.1 i) ++ bytes_for (there.0 + 1) (same_said i))
          ∙ sym (other.on_seats there.0 line (ap (λ all. slice_get all there.0) (sym same_seats) ∙ there.1))
      | inr nowhere ↦ one.elsewhere line nowhere
          ∙ (λ i. bytes_to line (gathered.1 i) ++ flat_map (late_refusal line) (same_after i))
          ∙ sym (other.elsewhere line (subst (SitsNowhere line) same_seats nowhere))
    ]

  pub alike_told : (line : ℕ) → bytes_to line told ≡ bytes_to line told'
  alike_told = by_cut (cut_twice one.beginning.before (joins one.beginning.line one.beginning.at) one.beginning.after other.beginning.before (joins other.beginning.line other.beginning.at) other.beginning.after (sym one.beginning.whole ∙ other.beginning.whole))
    where
      by_cut : IsCutTwice one.beginning.before (joins one.beginning.line one.beginning.at) one.beginning.after other.beginning.before (joins other.beginning.line other.beginning.at) other.beginning.after → (line : ℕ) → bytes_to line told ≡ bytes_to line told'
      by_cut (here before join after) line = same_bytes before join after line
      by_cut (later rest is) line = absurd (no_more_waiting one.beginning.at one.beginning.before rest first_differ (runs_on one.beginning.gathers) one.beginning.waits one.beginning.takes (subst (λ all. RunsOn (new_table game text config) all other.beginning.gathering other.beginning.early) is (runs_on other.beginning.gathers)) other.beginning.waits)
      by_cut (earlier rest is) line = absurd (no_more_waiting other.beginning.at other.beginning.before rest first_differ (runs_on other.beginning.gathers) other.beginning.waits other.beginning.takes (subst (λ all. RunsOn (new_table game text config) all one.beginning.gathering one.beginning.early) is (runs_on one.beginning.gathers)) one.beginning.waits)

-- Two cuts of what a table heard are where its match began: it told the same before.
pub same_early : {game : AbstractGame} {text : List ℕ} {config : Config} {events : List OwnEvent} {seats taken : List (Option ℕ)} (one : Beginning game text config events seats) (other : Beginning game text config events taken) → other.early ≡ one.early
same_early {game} {text} {config} one other =
    by_cut (cut_twice one.before (joins one.line one.at) one.after other.before (joins other.line other.at) other.after (sym one.whole ∙ other.whole))
  where
    nobody : SeatsDiffer (new_table game text config).seats
    nobody = no_seats (seats_of game)

    by_cut : IsCutTwice one.before (joins one.line one.at) one.after other.before (joins other.line other.at) other.after → other.early ≡ one.early
    by_cut (here same join rest) = (one_gathering nobody (runs_on other.gathers) (subst (λ all. RunsOn (new_table game text config) all one.gathering one.early) same (runs_on one.gathers)) other.waits one.waits).1
    by_cut (later rest is) = absurd (no_more_waiting one.at one.before rest nobody (runs_on one.gathers) one.waits one.takes (subst (λ all. RunsOn (new_table game text config) all other.gathering other.early) is (runs_on other.gathers)) other.waits)
    by_cut (earlier rest is) = absurd (no_more_waiting other.at other.before rest nobody (runs_on other.gathers) other.waits other.takes (subst (λ all. RunsOn (new_table game text config) all one.gathering one.early) is (runs_on one.gathers)) one.waits)

-- where one table waits, the other does
both_wait : {game : AbstractGame} {text : List ℕ} {config : Config} {events : List OwnEvent} {seats : List (Option ℕ)} {playing : MatchState} {told told' : List Telling} {state : TableState} → HoldsTranscript game text config events seats playing told → TableRun game text config events state told' → state.begun ≡ None → ⊥
both_wait {game} {text} {config} {told' = told'} {state} one run waits =
    no_more_waiting one.beginning.at one.beginning.before one.beginning.after (no_seats (seats_of game)) (runs_on one.beginning.gathers) one.beginning.waits one.beginning.takes
    (subst (λ all. RunsOn (new_table game text config) all state told') one.beginning.whole (runs_on run)) waits

pub one_table : OneTable
one_table game text config events told others numbered one other alike = by_begun one.state.begun other.state.begun refl refl
  where
    by_begun : (first second : Option MatchState) → one.state.begun ≡ first → other.state.begun ≡ second → (is_some one.state.begun ≡ is_some other.state.begun) × ((line : ℕ) → bytes_to line told ≡ bytes_to line others)
    by_begun None None is is' = (ap is_some (is ∙ sym is'), λ line. ap (bytes_to line) (one_gathering (no_seats (seats_of game)) (runs_on one.runs) (runs_on other.runs) is is').1)
    by_begun (Some playing) None is is' = absurd (both_wait (run_holds_transcript game text config events told one playing is) other.runs is')
    by_begun None (Some playing) is is' = absurd (both_wait (run_holds_transcript game text config events others other playing is') one.runs is)
    by_begun (Some playing) (Some playing') is is' = (
      ap is_some is ∙ sym (ap is_some is'),
      alike_told numbered (run_holds_transcript game text config events told one playing is) (run_holds_transcript game text config events others other playing' is') (all_differ one.runs) (alike playing playing' is is'),
    )
