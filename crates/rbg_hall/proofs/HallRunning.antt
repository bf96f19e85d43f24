-- A run of a hall gives what is allowed.
use Rattle.rbg_base.proofs.Common.{◌≡◌, ◌≢◌, ℕ, zero, suc, ◌+◌, ◌-◌, ◌<◌, ◌≤◌, List, [], ◌∷◌, ◌++◌, length, map, Bool, true, false, refl, sym, ap, ◌∙◌, subst, append_assoc, append-nil, arith, Option, Some, None, get_or, set, replicate, inl, inr, none-some, ◌==◌, nat_lt, slice_get, if◌then◌else◌, flat_map}
use Rattle.std.proofs.lemmas.Bool.{true≢false, eq-eqb, ne_eqb, eqb-true, lt-ltb, le-ltb, cases_lt}
use Rattle.std.proofs.lemmas.List.{length-set, length-replicate, get_or-set_same, get_or-set_other, get_or-replicate, set_past, get_or_past}
use Rattle.rbg_wire.specs.declared.message.Reason.TheVariants.{NoSeat}
use Rattle.rbg_wire.proofs.Common.{refusal_message, spelling, Item, Rest, incomplete, cut}
use Rattle.rbg_wire.proofs.CutLemmas.{cut-append}
use Rattle.rbg_match.specs.Limits.{message_limit}
use Rattle.rbg_hall.proofs.TableCommon.{lines_in_all, TableState, TableRun, OwnEvent, new_table, Telling, bytes_to}
use Rattle.rbg_hall.specs.Tables as tables
use Rattle.rbg_hall.proofs.Places.{same_or_other}
use Rattle.rbg_hall.proofs.Telling.{bytes_to-append, bytes_to-same, bytes_to-other}
use Rattle.rbg_hall.proofs.Common.{AbstractTable, HallState, new_hall, line_at, line_beyond, lines_after, refused_for, refused_first, refused_in, refused_by, HearsEach, EachHears, HallSteps, HallRun, HallLine, silent, asks, over, asking, line_cut, sent_by, has_ended, stream_of, line_after, first_request, heard_of, heard_of_piece, heard_of_end, own, requested, is_for}
use Rattle.rbg_script.specs.Events.{AbstractEvent, piece, end_of_stream, moment_alone}
use Rattle.rbg_hall.specs.Halls as halls
use Rattle.rbg_hall.proofs.Growing.{by_test, brings, brings_own, brings_other, sent_more, standing, line_sends, line_ends, other_sends, other_ends, clock_ticks}
use Rattle.rbg_hall.proofs.Owning.{own_more, asks_in, asked_later, own_lacks}
use Rattle.rbg_hall.proofs.Silence.{unheard_untold}

-- Each table, from this number on, came to its state by what it heard, and told this.
pub data EachRuns (heard : (table : ℕ) → List OwnEvent) : (table : ℕ) → List AbstractTable → List TableState → List (List Telling) → Type 0 where
  no_table : {table : ℕ} →
      EachRuns heard table [] [] []
  one_more : {table : ℕ} {start : AbstractTable} {starts : List AbstractTable} {state : TableState} {states : List TableState} {told : List Telling} {tolds : List (List Telling)} →
      TableRun start.game start.text start.config (heard table) state told →
      EachRuns heard (suc table) starts states tolds →
      EachRuns heard table (start ∷ starts) (state ∷ states) (told ∷ tolds)

abbrev the_empty : List ℕ
the_empty = []

-- what each table tells, and then tells
abbrev pub joined : List (List Telling) → List (List Telling) → List (List Telling)
joined [] next = []
joined (told ∷ tolds) [] = told ∷ tolds
joined (told ∷ tolds) (first ∷ next) = (told ++ first) ∷ joined tolds next

run_more : {start : AbstractTable} {heard : List OwnEvent} {old : TableState} {further : List OwnEvent} {new : TableState} {told first : List Telling} → TableRun start.game start.text start.config heard old told → HearsEach old further new first → TableRun start.game start.text start.config (heard ++ further) new (told ++ first)
run_more {start} {heard} {old = old} {told = told} run halls.none =
    subst (λ events. TableRun start.game start.text start.config events old (told ++ [])) (sym (append-nil heard))
    (subst (λ all. TableRun start.game start.text start.config heard old all) (sym (append-nil told)) run)
run_more {start} {heard} {new = new} {told = told} run (halls.more {events} {event} {first = first} {next = next} each hears) =
    subst (λ all. TableRun start.game start.text start.config all new (told ++ (first ++ next))) (append_assoc heard events (event ∷ []))
    (subst (λ all. TableRun start.game start.text start.config ((heard ++ events) ++ event ∷ []) new all) (append_assoc told first next)
    (tables.more (run_more run each) hears))

each_more : {before heard after : (table : ℕ) → List OwnEvent} {table : ℕ} {starts : List AbstractTable} {olds news : List TableState} {tolds firsts : List (List Telling)} → ((one : ℕ) → after one ≡ before one ++ heard one) → EachRuns before table starts olds tolds → EachHears heard table olds news firsts → EachRuns after table starts news (joined tolds firsts)
each_more grows no_table halls.none = no_table
each_more {table = table} grows (one_more {start = start} {told = told} run runs) (halls.more {new = new} {first = first} hears each) =
    one_more
    (subst (λ events. TableRun start.game start.text start.config events new (told ++ first)) (sym (grows table)) (run_more run hears))
    (each_more grows runs each)

-- nothing is told at first
abbrev pub no_tolds : List AbstractTable → List (List Telling)
no_tolds [] = []
no_tolds (start ∷ starts) = [] ∷ no_tolds starts

first_runs : (count table : ℕ) (starts : List AbstractTable) → EachRuns (λ one. own count one []) table starts (map (λ (start : AbstractTable). new_table start.game start.text start.config) starts) (no_tolds starts)
first_runs count table [] = no_table
first_runs count table (start ∷ starts) = one_more tables.none (first_runs count (suc table) starts)

runs_count : {heard : (table : ℕ) → List OwnEvent} {table : ℕ} {starts : List AbstractTable} {states : List TableState} {tolds : List (List Telling)} → EachRuns heard table starts states tolds → (length states ≡ length starts) × (length tolds ≡ length starts)
runs_count no_table = (refl, refl)
runs_count (one_more run runs) = (ap suc (runs_count runs).0, ap suc (runs_count runs).1)

hears_count : {heard : (table : ℕ) → List OwnEvent} {table : ℕ} {olds news : List TableState} {told : List (List Telling)} → EachHears heard table olds news told → (length news ≡ length olds) × (length told ≡ length olds)
hears_count halls.none = (refl, refl)
hears_count (halls.more hears each) = (ap suc (hears_count each).0, ap suc (hears_count each).1)

-- what a table came to by what it heard
pub run_of : {heard : (table : ℕ) → List OwnEvent} {table : ℕ} {starts : List AbstractTable} {states : List TableState} {tolds : List (List Telling)} (index : ℕ) (start : AbstractTable) → EachRuns heard table starts states tolds → slice_get starts index ≡ Some start → (state : TableState) × (slice_get states index ≡ Some state) × TableRun start.game start.text start.config (heard (table + index)) state (get_or tolds index [])
run_of index start no_table there = absurd (none-some start there)
run_of {heard} {table} zero start (one_more {start = first} {state = state} {told = told} run runs) there =
    let same : first ≡ start = one there in
    let number : table ≡ table + 0 = omega arith in
    (state, refl, subst (λ n. TableRun start.game start.text start.config (heard n) state told) number (subst (λ (s : AbstractTable). TableRun s.game s.text s.config (heard table) state told) same run))
  where
    one : {a b : AbstractTable} → Some a ≡ Some b → a ≡ b
    one is = cc
run_of {heard} {table} (suc index) start (one_more {tolds = tolds} run runs) there =
    let found = run_of index start runs there in
    let number : suc table + index ≡ table + suc index = omega arith in
    (found.0, found.1, subst (λ n. TableRun start.game start.text start.config (heard n) found.0 (get_or tolds index [])) number found.2)

-- a table of that number is there
start_there : (starts : List AbstractTable) (index : ℕ) → index < length starts → (start : AbstractTable) × (slice_get starts index ≡ Some start)
start_there [] index within = absurd (omega arith)
start_there (start ∷ starts) zero within = (start, refl)
start_there (start ∷ starts) (suc index) within = start_there starts index (omega arith)

-- the bytes of what all tables tell, where all, or all but one, tell a line nothing
no_one : (line : ℕ) (tolds : List (List Telling)) → ((index : ℕ) → bytes_to line (get_or tolds index []) ≡ []) → bytes_to line (flat_map (λ one. one) tolds) ≡ []
no_one line [] nothing = refl
no_one line (told ∷ tolds) nothing =
    bytes_to-append line told (flat_map (λ one. one) tolds)
    ∙ ap (λ first. first ++ bytes_to line (flat_map (λ one. one) tolds)) (nothing 0)
    ∙ no_one line tolds (λ index. nothing (suc index))

only_one : (line place : ℕ) (tolds : List (List Telling)) → ((index : ℕ) → index ≢ place → bytes_to line (get_or tolds index []) ≡ []) → bytes_to line (flat_map (λ one. one) tolds) ≡ bytes_to line (get_or tolds place [])
only_one line place [] nothing = refl
only_one line zero (told ∷ tolds) nothing =
    bytes_to-append line told (flat_map (λ one. one) tolds)
    ∙ ap (λ others. bytes_to line told ++ others) (no_one line tolds (λ index. nothing (suc index) (λ same. never index same)))
    ∙ append-nil (bytes_to line told)
  where
    never : (index : ℕ) → suc index ≡ 0 → ⊥
    never index same = absurd (omega arith)
only_one line (suc place) (told ∷ tolds) nothing =
    bytes_to-append line told (flat_map (λ one. one) tolds)
    ∙ ap (λ first. first ++ bytes_to line (flat_map (λ one. one) tolds)) (nothing 0 (λ same. never same))
    ∙ only_one line place tolds (λ index other. nothing (suc index) (λ same. other (before index same)))
  where
    never : 0 ≡ suc place → ⊥
    never same = absurd (omega arith)

    before : (index : ℕ) → suc index ≡ suc place → index ≡ place
    before index same = omega arith

joined_at : (tolds firsts : List (List Telling)) (index : ℕ) → length firsts ≡ length tolds → get_or (joined tolds firsts) index [] ≡ get_or tolds index [] ++ get_or firsts index []
joined_at [] [] index same = refl
joined_at [] (first ∷ firsts) index same = absurd (omega arith)
joined_at (told ∷ tolds) [] index same = absurd (omega arith)
joined_at (told ∷ tolds) (first ∷ firsts) zero same = refl
joined_at (told ∷ tolds) (first ∷ firsts) (suc index) same = joined_at tolds firsts index (omega arith)

none_first : (a b : List ℕ) → a ++ b ≡ [] → a ≡ []
none_first [] b is = refl
none_first (x ∷ a) b is = cc

none_next : (a b : List ℕ) → a ++ b ≡ [] → b ≡ []
none_next [] b is = is
none_next (x ∷ a) b is = cc

past_nothing : (tolds : List (List Telling)) (index : ℕ) → length tolds ≤ index → get_or tolds index [] ≡ []
past_nothing [] index past = refl
past_nothing (told ∷ tolds) zero past = absurd (omega arith)
past_nothing (told ∷ tolds) (suc index) past = past_nothing tolds index (omega arith)

-- the one refusal of a line that has completed these items
abbrev pub refusal_by : Option ℕ → List ℕ
refusal_by (Some table) = []
refusal_by None = spelling (refusal_message NoSeat)

abbrev pub refusal_for : (tables : ℕ) → List Item → List ℕ
refusal_for tables [] = []
refusal_for tables (item ∷ items) = refusal_by (requested tables item)

-- what the table tells that a line asks for
abbrev pub told_by : (tolds : List (List Telling)) → (line : ℕ) → Option ℕ → List ℕ
told_by tolds line (Some table) = bytes_to line (get_or tolds (table - 1) [])
told_by tolds line None = []

-- a hall stands after these events
pub record Stands (starts : List AbstractTable) (events : List AbstractEvent) (state : HallState) (told : List Telling) : Type 0 where
  pub lines : (line : ℕ) → line_at state.lines line ≡ line_after (length starts) line events
  pub count : length state.lines ≡ lines_in_all
  pub tolds : List (List Telling)
  pub runs : EachRuns (λ table. own (length starts) table events) 1 starts state.tables tolds
  pub bytes : (line : ℕ) → line < lines_in_all → bytes_to line told ≡ refusal_for (length starts) (stream_of line events).items ++ told_by tolds line (first_request (length starts) (stream_of line events).items)

-- nothing is heard of a line above the last
past_over : (tables line : ℕ) (events : List AbstractEvent) → lines_in_all ≤ line → line_after tables line events ≡ over
past_over tables line events past =
    ap (λ there. standing (has_ended line events) there tables (stream_of line events)) (le-ltb line lines_in_all past) ∙ never (has_ended line events)
  where
    never : (ended : Bool) → standing ended false tables (stream_of line events) ≡ over
    never true = refl
    never false = refl

-- the line of an event, in the hall's list
changed : (tables line : ℕ) (lines : List HallLine) (events all : List AbstractEvent) (now : HallLine) → length lines ≡ lines_in_all → line_after tables line all ≡ now → line_at (set lines line now) line ≡ line_after tables line all
changed tables line lines events all now count is = elim (cases_lt line (length lines)) [
  | inl within ↦ get_or-set_same lines line now over within ∙ sym is
  | inr past ↦ ap (λ these. line_at these line) (set_past lines line now past) ∙ get_or_past lines line over past ∙ sym (past_over tables line all (omega arith))
]

lines_step : (tables : ℕ) (lines : List HallLine) (events : List AbstractEvent) (event : AbstractEvent) → length lines ≡ lines_in_all → ((line : ℕ) → line_at lines line ≡ line_after tables line events) → (line : ℕ) → line_at (lines_after tables lines event) line ≡ line_after tables line (events ++ event ∷ [])
lines_step tables lines events (piece other at bytes) count are line = elim (same_or_other line other) [
  | inl same ↦ subst (λ one. line_at (set lines other (line_beyond tables (line_at lines other) bytes)) one ≡ line_after tables one (events ++ piece other at bytes ∷ [])) (sym same)
      (changed tables other lines events (events ++ piece other at bytes ∷ []) (line_beyond tables (line_at lines other) bytes) count
      (line_sends tables other at bytes events ∙ ap (λ one. line_beyond tables one bytes) (sym (are other))))
  | inr differ ↦ get_or-set_other lines other line (line_beyond tables (line_at lines other) bytes) over differ ∙ are line ∙ sym (other_sends tables line other at bytes events (λ same. differ (sym same)))
]
lines_step tables lines events (end_of_stream other at) count are line = elim (same_or_other line other) [
  | inl same ↦ subst (λ one. line_at (set lines other over) one ≡ line_after tables one (events ++ end_of_stream other at ∷ [])) (sym same)
      (changed tables other lines events (events ++ end_of_stream other at ∷ []) over count (line_ends tables other at events))
  | inr differ ↦ get_or-set_other lines other line over over differ ∙ are line ∙ sym (other_ends tables line other at events (λ same. differ (sym same)))
]
lines_step tables lines events (moment_alone at) count are line = are line ∙ sym (clock_ticks tables line at events)

count_step : (tables : ℕ) (lines : List HallLine) (event : AbstractEvent) → length lines ≡ lines_in_all → length (lines_after tables lines event) ≡ lines_in_all
count_step tables lines (piece line at bytes) count = length-set lines line (line_beyond tables (line_at lines line) bytes) ∙ count
count_step tables lines (end_of_stream line at) count = length-set lines line over ∙ count
count_step tables lines (moment_alone at) count = count

heard_same : (others tables table : ℕ) (before lines : ℕ → HallLine) (event : AbstractEvent) → others ≡ tables → ((line : ℕ) → before line ≡ lines line) → heard_of others table before event ≡ heard_of tables table lines event
heard_same others tables table before lines (piece line at bytes) same are = λ i. heard_of_piece (same i) table (are line i) line at bytes
heard_same others tables table before lines (end_of_stream line at) same are = ap (λ one. heard_of_end table one line at) (are line)
heard_same others tables table before lines (moment_alone at) same are = refl

refused_same : (others tables : ℕ) (before lines : ℕ → HallLine) (event : AbstractEvent) → others ≡ tables → ((line : ℕ) → before line ≡ lines line) → refused_by others before event ≡ refused_by tables lines event
refused_same others tables before lines (piece line at bytes) same are = λ i. refused_in (same i) (are line i) line bytes
refused_same others tables before lines (end_of_stream line at) same are = refl
refused_same others tables before lines (moment_alone at) same are = refl

-- What a line is told by no table.
nothing_sent : (line : ℕ) (events : List AbstractEvent) (event : AbstractEvent) → brings line event ≡ [] → stream_of line (events ++ event ∷ []) ≡ stream_of line events
nothing_sent line events event nothing =
    ap (λ sent. cut message_limit (incomplete []) sent)
    (sent_more line events event ∙ ap (λ more. sent_by line events ++ (if has_ended line events then [] else more)) nothing ∙ ap (λ more. sent_by line events ++ more) (either (has_ended line events)) ∙ append-nil (sent_by line events))
  where
    either : (ended : Bool) → (if ended then [] else []) ≡ the_empty
    either true = refl
    either false = refl

refused_other : (tables line other : ℕ) (bytes : List ℕ) (one : HallLine) → other ≢ line → bytes_to line (refused_in tables one other bytes) ≡ []
refused_other tables line other bytes (silent rest) differ = first (cut message_limit rest bytes).items
  where
    by_asked : (asked : Option ℕ) → bytes_to line (refused_for other asked) ≡ []
    by_asked (Some table) = refl
    by_asked None = bytes_to-other line other (spelling (refusal_message NoSeat)) differ

    first : (items : List Item) → bytes_to line (refused_first tables other items) ≡ []
    first [] = refl
    first (item ∷ items) = by_asked (requested tables item)
refused_other tables line other bytes (asks table rest) differ = refl
refused_other tables line other bytes over differ = refl

module _ (tables line : ℕ) where
  by_first : (asked : Option ℕ) → refusal_by asked ≡ bytes_to line (refused_for line asked)
  by_first (Some table) = refl
  by_first None = sym (bytes_to-same line (spelling (refusal_message NoSeat)))

  by_new : (items : List Item) → refusal_for tables items ≡ bytes_to line (refused_first tables line items)
  by_new [] = refl
  by_new (item ∷ items) = by_first (requested tables item)

  by_old : (asked : Option ℕ) (rest : Rest) (bytes : List ℕ) → refusal_by asked ≡ refusal_by asked ++ bytes_to line (refused_in tables (asking asked rest) line bytes)
  by_old (Some table) rest bytes = refl
  by_old None rest bytes = sym (append-nil (spelling (refusal_message NoSeat)))

  by_cut : (items : List Item) (rest : Rest) (bytes : List ℕ) → refusal_for tables (items ++ (cut message_limit rest bytes).items) ≡ refusal_for tables items ++ bytes_to line (refused_in tables (line_cut tables items rest) line bytes)
  by_cut [] rest bytes = by_new (cut message_limit rest bytes).items
  by_cut (item ∷ items) rest bytes = by_old (requested tables item) rest bytes

  own_refusal : (ended : Bool) (sent bytes : List ℕ) → refusal_for tables (cut message_limit (incomplete []) (sent ++ (if ended then [] else bytes))).items ≡ refusal_for tables (cut message_limit (incomplete []) sent).items ++ bytes_to line (refused_in tables (standing ended true tables (cut message_limit (incomplete []) sent)) line bytes)
  own_refusal true sent bytes =
      ap (λ all. refusal_for tables (cut message_limit (incomplete []) all).items) (append-nil sent)
      ∙ sym (append-nil (refusal_for tables (cut message_limit (incomplete []) sent).items))
  own_refusal false sent bytes =
      ap (λ c. refusal_for tables c.items) (cut-append message_limit (incomplete []) sent bytes)
      ∙ by_cut (cut message_limit (incomplete []) sent).items (cut message_limit (incomplete []) sent).rest bytes

  own_refused : (at : ℕ) (bytes : List ℕ) (events : List AbstractEvent) → line < lines_in_all → refusal_for tables (stream_of line (events ++ piece line at bytes ∷ [])).items ≡ refusal_for tables (stream_of line events).items ++ bytes_to line (refused_in tables (line_after tables line events) line bytes)
  own_refused at bytes events within =
      ap (λ sent. refusal_for tables (cut message_limit (incomplete []) sent).items) (sent_more line events (piece line at bytes) ∙ ap (λ more. sent_by line events ++ (if has_ended line events then [] else more)) (brings_own line at bytes))
      ∙ own_refusal (has_ended line events) (sent_by line events) bytes
      ∙ ap (λ there. refusal_for tables (stream_of line events).items ++ bytes_to line (refused_in tables (standing (has_ended line events) there tables (stream_of line events)) line bytes)) (sym (lt-ltb line lines_in_all within))

  refusal_step : (events : List AbstractEvent) (event : AbstractEvent) → line < lines_in_all → refusal_for tables (stream_of line (events ++ event ∷ [])).items ≡ refusal_for tables (stream_of line events).items ++ bytes_to line (refused_by tables (λ one. line_after tables one events) event)
  refusal_step events (piece other at bytes) within = by_test (other == line)
      (λ test. (let same : other ≡ line = eqb-true other line test in
      subst (λ one. refusal_for tables (stream_of line (events ++ piece one at bytes ∷ [])).items ≡ refusal_for tables (stream_of line events).items ++ bytes_to line (refused_in tables (line_after tables one events) one bytes)) (sym same) (own_refused at bytes events within)))
      (λ test. (let differ : other ≢ line = λ same. true≢false (sym (eq-eqb other line same) ∙ test) in
      ap (λ c. refusal_for tables c.items) (nothing_sent line events (piece other at bytes) (brings_other line other at bytes differ))
      ∙ sym (ap (λ more. refusal_for tables (stream_of line events).items ++ more) (refused_other tables line other bytes (line_after tables other events) differ) ∙ append-nil (refusal_for tables (stream_of line events).items))))
  refusal_step events (end_of_stream other at) within =
      ap (λ c. refusal_for tables c.items) (nothing_sent line events (end_of_stream other at) refl) ∙ sym (append-nil (refusal_for tables (stream_of line events).items))
  refusal_step events (moment_alone at) within =
      ap (λ c. refusal_for tables c.items) (nothing_sent line events (moment_alone at) refl) ∙ sym (append-nil (refusal_for tables (stream_of line events).items))

  pub asked_untold : (items : List Item) (table : ℕ) → is_for table (first_request tables items) ≡ true → refusal_for tables items ≡ []
  asked_untold [] table asked = absurd (true≢false (sym asked))
  asked_untold (item ∷ items) table asked = by_asked (requested tables item) asked
    where
      by_asked : (one : Option ℕ) → is_for table one ≡ true → refusal_by one ≡ []
      by_asked (Some other) it = refl
      by_asked None it = absurd (true≢false (sym it))

-- what stands after one more event
module _ {starts : List AbstractTable} {events : List AbstractEvent} {event : AbstractEvent} {old new : HallState} {told next : List Telling} (stands : Stands starts events old told) (steps : HallSteps old event new next) where
  tables_count : length old.tables ≡ length starts
  tables_count = (runs_count stands.runs).0

  firsts_count : length steps.by_tables ≡ length stands.tolds
  firsts_count = (hears_count steps.tables).1 ∙ tables_count ∙ sym (runs_count stands.runs).1

  pub own_on : (table : ℕ) → own (length starts) table (events ++ event ∷ []) ≡ own (length starts) table events ++ heard_of (length old.tables) table (line_at old.lines) event
  own_on table =
      own_more (length starts) table events event
      ∙ ap (λ further. own (length starts) table events ++ further) (sym (heard_same (length old.tables) (length starts) table (line_at old.lines) (λ line. line_after (length starts) line events) event tables_count stands.lines))

  pub runs_on : EachRuns (λ table. own (length starts) table (events ++ event ∷ [])) 1 starts new.tables (joined stands.tolds steps.by_tables)
  runs_on = each_more own_on stands.runs steps.tables

  lines_on : (line : ℕ) → line_at new.lines line ≡ line_after (length starts) line (events ++ event ∷ [])
  lines_on line =
      ap (λ all. line_at all line) (steps.lines ∙ ap (λ count. lines_after count old.lines event) tables_count)
      ∙ lines_step (length starts) old.lines events event stands.count stands.lines line

  count_on : length new.lines ≡ lines_in_all
  count_on = ap length steps.lines ∙ count_step (length old.tables) old.lines event stands.count

  -- a table tells nothing to a line that doesn't ask for it, so far and now
  silent_before : (line index : ℕ) → asks_in (length starts) (1 + index) line events ≡ false → bytes_to line (get_or stands.tolds index []) ≡ []
  silent_before line index unasked = elim (cases_lt index (length starts)) [
    | inl within ↦ (let there = start_there starts index within in
        unheard_untold line (run_of index there.0 stands.runs there.1).2 (own_lacks (length starts) (1 + index) line events unasked))
    | inr past ↦ ap (bytes_to line) (past_nothing stands.tolds index (omega (arith, (runs_count stands.runs).1)))
  ]

  silent_now : (line index : ℕ) → asks_in (length starts) (1 + index) line (events ++ event ∷ []) ≡ false → bytes_to line (get_or steps.by_tables index []) ≡ []
  silent_now line index unasked = elim (cases_lt index (length starts)) [
    | inl within ↦ (let there = start_there starts index within in
        none_next (bytes_to line (get_or stands.tolds index [])) (bytes_to line (get_or steps.by_tables index []))
        (sym (bytes_to-append line (get_or stands.tolds index []) (get_or steps.by_tables index []))
        ∙ ap (bytes_to line) (sym (joined_at stands.tolds steps.by_tables index firsts_count))
        ∙ unheard_untold line (run_of index there.0 runs_on there.1).2 (own_lacks (length starts) (1 + index) line (events ++ event ∷ []) unasked)))
    | inr past ↦ ap (bytes_to line) (past_nothing steps.by_tables index (omega (arith, firsts_count, (runs_count stands.runs).1)))
  ]

  abbrev request_in : (line : ℕ) → List AbstractEvent → Option ℕ
  request_in line all = first_request (length starts) (stream_of line all).items

  itself : (table : ℕ) → (table == table) ≡ true
  itself table = eq-eqb table table refl

  -- a line that asked for a table asks for it now
  still_asked : (line table : ℕ) → request_in line events ≡ Some table → is_for table (request_in line (events ++ event ∷ [])) ≡ true
  still_asked line table asked = asked_later (length starts) table line events (event ∷ []) (ap (is_for table) asked ∙ itself table)

  asked_same : (asked : Option ℕ) (table other : ℕ) → asked ≡ Some table → is_for other asked ≡ true → table ≡ other
  asked_same asked table other is holds = eqb-true table other (ap (is_for other) (sym is) ∙ holds)

  told_part : (line : ℕ) (before now : Option ℕ) → request_in line events ≡ before → request_in line (events ++ event ∷ []) ≡ now → told_by (joined stands.tolds steps.by_tables) line now ≡ told_by stands.tolds line before ++ bytes_to line (flat_map (λ one. one) steps.by_tables)
  told_part line (Some table) None was is = absurd (true≢false (sym (still_asked line table was) ∙ ap (is_for table) is))
  told_part line None None was is = sym (no_one line steps.by_tables (λ index. silent_now line index (ap (is_for (1 + index)) is)))
  told_part line before (Some table) was is =
      ap (bytes_to line) (joined_at stands.tolds steps.by_tables (table - 1) firsts_count)
      ∙ bytes_to-append line (get_or stands.tolds (table - 1) []) (get_or steps.by_tables (table - 1) [])
      ∙ (λ i. had before was i ++ sym (only_one line (table - 1) steps.by_tables others) i)
    where
      others : (index : ℕ) → index ≢ table - 1 → bytes_to line (get_or steps.by_tables index []) ≡ []
      others index away = silent_now line index (ap (is_for (1 + index)) is ∙ ne_eqb table (1 + index) (λ same. away (omega arith)))

      had : (asked : Option ℕ) → request_in line events ≡ asked → bytes_to line (get_or stands.tolds (table - 1) []) ≡ told_by stands.tolds line asked
      had None none = silent_before line (table - 1) (ap (is_for (1 + (table - 1))) none)
      had (Some other) some =
          let same : table ≡ other = asked_same (request_in line (events ++ event ∷ [])) table other is (still_asked line other some) in
          ap (λ one. bytes_to line (get_or stands.tolds (one - 1) [])) same

  -- the refusal comes before a table's bytes, or there is none
  in_order : (line : ℕ) (asked : Option ℕ) → line < lines_in_all → request_in line events ≡ asked → told_by stands.tolds line asked ++ bytes_to line (refused_by (length starts) (λ one. line_after (length starts) one events) event) ≡ bytes_to line (refused_by (length starts) (λ one. line_after (length starts) one events) event) ++ told_by stands.tolds line asked
  in_order line None within is = sym (append-nil (bytes_to line (refused_by (length starts) (λ one. line_after (length starts) one events) event)))
  in_order line (Some table) within is =
      let refused = bytes_to line (refused_by (length starts) (λ one. line_after (length starts) one events) event) in
      let none : refused ≡ [] = none_next (refusal_for (length starts) (stream_of line events).items) refused
      (sym (refusal_step (length starts) line events event within) ∙ asked_untold (length starts) line (stream_of line (events ++ event ∷ [])).items table (still_asked line table is)) in
      ap (λ last. told_by stands.tolds line (Some table) ++ last) none
      ∙ append-nil (told_by stands.tolds line (Some table))
      ∙ ap (λ first. first ++ told_by stands.tolds line (Some table)) (sym none)

  bytes_on : (line : ℕ) → line < lines_in_all → bytes_to line (told ++ next) ≡ refusal_for (length starts) (stream_of line (events ++ event ∷ [])).items ++ told_by (joined stands.tolds steps.by_tables) line (first_request (length starts) (stream_of line (events ++ event ∷ [])).items)
  bytes_on line within =
      let refused = refused_by (length starts) (λ one. line_after (length starts) one events) event in
      let outgoing = flat_map (λ one. one) steps.by_tables in
      let asked = first_request (length starts) (stream_of line events).items in
      let is_told : next ≡ refused ++ outgoing = steps.is_told ∙ ap (λ first. first ++ outgoing) (refused_same (length old.tables) (length starts) (line_at old.lines) (λ one. line_after (length starts) one events) event tables_count stands.lines) in
      bytes_to-append line told next
      ∙ (λ i. stands.bytes line within i ++ (ap (bytes_to line) is_told ∙ bytes_to-append line refused outgoing) i)
      ∙ crossed (refusal_for (length starts) (stream_of line events).items) (told_by stands.tolds line asked) (bytes_to line refused) (bytes_to line outgoing) (in_order line asked within refl)
      ∙ (λ i. sym (refusal_step (length starts) line events event within) i ++ sym (told_part line asked (first_request (length starts) (stream_of line (events ++ event ∷ [])).items) refl refl) i)
    where
      crossed : (a b c d : List ℕ) → b ++ c ≡ c ++ b → (a ++ b) ++ (c ++ d) ≡ (a ++ c) ++ (b ++ d)
      crossed a b c d swap =
          append_assoc a b (c ++ d)
          ∙ ap (λ more. a ++ more) (sym (append_assoc b c d) ∙ ap (λ front. front ++ d) swap ∙ append_assoc c b d)
          ∙ sym (append_assoc a c (b ++ d))

  pub stands_on : Stands starts (events ++ event ∷ []) new (told ++ next)
  stands_on = record {
    lines = lines_on;
    count = count_on;
    tolds = joined stands.tolds steps.by_tables;
    runs = runs_on;
    bytes = bytes_on;
  }

  pub tolds_on : stands_on.tolds ≡ joined stands.tolds steps.by_tables
  unfolding stands_on
  tolds_on = refl

-- a hall where nobody sits
all_silent : (count line : ℕ) → line_at (replicate count (silent (incomplete []))) line ≡ (if nat_lt line count then silent (incomplete []) else over)
all_silent count line = elim (cases_lt line count) [
  | inl within ↦ get_or-replicate count line (silent (incomplete [])) over within ∙ ap (λ there. if there then silent (incomplete []) else over) (sym (lt-ltb line count within))
  | inr past ↦ get_or_past (replicate count (silent (incomplete []))) line over (omega (arith, length-replicate count (silent (incomplete [])))) ∙ ap (λ there. if there then silent (incomplete []) else over) (sym (le-ltb line count past))
]

nothing_cut : (tables : ℕ) (there : Bool) → (if there then silent (incomplete []) else over) ≡ standing false there tables (cut message_limit (incomplete []) [])
unfolding cut
nothing_cut tables true = refl
nothing_cut tables false = refl

nothing_completed : (line : ℕ) → (stream_of line []).items ≡ []
unfolding cut
nothing_completed line = refl

pub stands_first : (starts : List AbstractTable) → Stands starts [] (new_hall starts) []
stands_first starts = record {
  lines = λ line. all_silent lines_in_all line ∙ nothing_cut (length starts) (nat_lt line lines_in_all);
  count = length-replicate lines_in_all (silent (incomplete []));
  tolds = no_tolds starts;
  runs = first_runs (length starts) 1 starts;
  bytes = λ line within. ap (λ (items : List Item). refusal_for (length starts) items ++ told_by (no_tolds starts) line (first_request (length starts) items)) (sym (nothing_completed line));
}

pub tolds_first : (starts : List AbstractTable) → (stands_first starts).tolds ≡ no_tolds starts
unfolding stands_first
tolds_first starts = refl

-- So does a hall after each run.
pub run_stands : {starts : List AbstractTable} {events : List AbstractEvent} {state : HallState} {told : List Telling} → HallRun starts events state told → Stands starts events state told
run_stands {starts} halls.none = stands_first starts
run_stands (halls.more run steps) = stands_on (run_stands run) steps
