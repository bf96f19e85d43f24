-- Two halls with the same table at one place.
use Rattle.std.proofs.Common.{◌≡◌, ℕ, ◌+◌, ◌<◌, ◌^◌, List, [], ◌∷◌, length, true, false, refl, sym, ap, ◌∙◌, subst, arith, Option, Some, None, ◌==◌, ◌&&◌, nat_lt, slice_get, slice_index_or, if◌then◌else◌}
use Rattle.std.proofs.lemmas.Bool.{true≢false, eq-eqb, eqb-true, lt-ltb, ltb-true}
use Rattle.rbg_wire.specs.Streams.{Item, incomplete, cut}
use Rattle.rbg_match.specs.Limits.{message_limit}
use Rattle.rbg_hall.proofs.TableCommon.{lines_in_all, HallOf, OwnEvent, TableRun, Telling, bytes_to}
use Rattle.rbg_hall.proofs.Alike.{one_table}
use Rattle.rbg_hall.proofs.Places.{there_within}
use Rattle.rbg_hall.proofs.Common.{IsAllowed, bytes_by, bytes_for, asks_for, concerning, AbstractTable, LinesHaveTheSameBytes, TablesAreApart, sent_by, stream_of, first_request, MayBeTables, own, requested, is_for}
use Rattle.rbg_script.specs.Events.{AbstractEvent}
use Rattle.rbg_hall.proofs.Apart.{chosen_other, chosen_same, dropped_sent, first_true, kept_sent, nothing_asked, second_true}
use Rattle.rbg_hall.proofs.Counts.{same_own}
use Rattle.rbg_hall.proofs.Growing.{by_test}
use Rattle.rbg_hall.proofs.Owning.{asks_in}

-- A line that asks for the table here asks for it there too.
asked_there : (tables counted table line : ℕ) (events others : List AbstractEvent) → concerning tables table events ≡ concerning counted table others → asks_for tables table line events ≡ true → asks_for counted table line others ≡ true
asked_there tables counted table line events others same asked = by_test (asks_for counted table line others)
    (λ it. it)
    (λ unasked.
    let nothing : sent_by line events ≡ [] = sym (kept_sent tables table line events asked events) ∙ ap (sent_by line) same ∙ dropped_sent counted table line others unasked others in
    absurd (true≢false (sym (second_true (nat_lt line lines_in_all) (asks_in tables table line events) asked)
    ∙ ap (λ sent. is_for table (first_request tables (cut message_limit (incomplete []) sent).items)) nothing
    ∙ nothing_asked tables table)))

-- what a line of the table has
bytes_asked : (tables table line : ℕ) (told : ℕ → List Telling) (items : List Item) → is_for table (first_request tables items) ≡ true → bytes_for tables told line items ≡ bytes_by told line (Some table)
bytes_asked tables table line told [] asked = absurd (true≢false (sym asked))
bytes_asked tables table line told (item ∷ items) asked = by_request (requested tables item) asked
  where
    by_request : (one : Option ℕ) → is_for table one ≡ true → bytes_by told line one ≡ bytes_by told line (Some table)
    by_request (Some other) it = ap (λ number. bytes_by told line (Some number)) (eqb-true other table it)
    by_request None it = absurd (true≢false (sym it))

bytes_unasked : (tables table line : ℕ) (told others : ℕ → List Telling) (items : List Item) → ((other : ℕ) → (other == table) ≡ false → told other ≡ others other) → is_for table (first_request tables items) ≡ false → bytes_for tables told line items ≡ bytes_for tables others line items
bytes_unasked tables table line told others [] same unasked = refl
bytes_unasked tables table line told others (item ∷ items) same unasked = by_request (requested tables item) unasked
  where
    by_request : (one : Option ℕ) → is_for table one ≡ false → bytes_by told line one ≡ bytes_by others line one
    by_request (Some other) it = ap (λ (all : List Telling). bytes_by (λ (table : ℕ). all) line (Some other)) (same other it)
    by_request None it = refl

same_start : {a b : AbstractTable} → Some a ≡ Some b → a ≡ b
same_start is = cc

few : (starts : List AbstractTable) → MayBeTables starts → length starts < 2 ^ 64
few starts may = omega (arith, may.1)

-- the table hears the same in both halls
own_there : (starts others : List AbstractTable) (index : ℕ) (start : AbstractTable) (events elsewhere : List AbstractEvent) → MayBeTables starts → MayBeTables others → slice_get starts index ≡ Some start → slice_get others index ≡ Some start → concerning (length starts) (index + 1) events ≡ concerning (length others) (index + 1) elsewhere → own (length starts) (index + 1) events ≡ own (length others) (index + 1) elsewhere
own_there starts others index start events elsewhere may may' starting standing same =
    let within = there_within starts index start starting in
    let within' = there_within others index start standing in
    same_own (length starts) (length others) (index + 1) (few starts may) (few others may') (omega arith) (omega (arith, within)) (omega (arith, within')) events elsewhere same

-- what a table tells is what it may tell, given the same events
abbrev hears_so : {start : AbstractTable} {heard others : List OwnEvent} {told : List Telling} → HallOf start.game start.text start.config heard told → heard ≡ others → HallOf start.game start.text start.config others told
hears_so {start} {told = told} hall same = record {
  state = hall.state;
  runs = subst (λ all. TableRun start.game start.text start.config all hall.state told) same hall.runs;
}

pub tables_are_apart : TablesAreApart
tables_are_apart starts others index start events elsewhere first second mixed may may' starting standing same here there exchanged = record {
  told = told;
  by_table = by_table;
  all_lines = exchanged.all_lines;
  by_line = λ line within. exchanged.by_line line within ∙ by_line line within;
}
  where
    told : ℕ → List Telling
    told table = if table == (index + 1) then there.told table else here.told table

    by_table : (place : ℕ) (one : AbstractTable) → slice_get starts place ≡ Some one → HallOf one.game one.text one.config (own (length starts) (place + 1) events) (told (place + 1))
    by_table place one found = by_test ((place + 1) == (index + 1))
        (λ test.
        let at_place : (index + 1) ≡ (place + 1) = sym (eqb-true (place + 1) (index + 1) test) in
        let at_index : index ≡ place = omega arith in
        let is : start ≡ one = same_start (sym starting ∙ subst (λ n. slice_get starts n ≡ Some one) (sym at_index) found) in
        let standing_so : HallOf start.game start.text start.config (own (length starts) (index + 1) events) (there.told (index + 1)) =
        hears_so (there.by_table index start standing) (sym (own_there starts others index start events elsewhere may may' starting standing same)) in
        subst (λ all. HallOf one.game one.text one.config (own (length starts) (place + 1) events) all) (sym (chosen_same ((place + 1) == (index + 1)) (there.told (place + 1)) (here.told (place + 1)) test))
        (subst (λ n. HallOf one.game one.text one.config (own (length starts) n events) (there.told n)) at_place
        (subst (λ (it : AbstractTable). HallOf it.game it.text it.config (own (length starts) (index + 1) events) (there.told (index + 1))) is standing_so)))
        (λ test. subst (λ all. HallOf one.game one.text one.config (own (length starts) (place + 1) events) all) (sym (chosen_other ((place + 1) == (index + 1)) (there.told (place + 1)) (here.told (place + 1)) test))
        (here.by_table place one found))

    mine : told (index + 1) ≡ there.told (index + 1)
    mine = chosen_same ((index + 1) == (index + 1)) (there.told (index + 1)) (here.told (index + 1)) (eq-eqb (index + 1) (index + 1) refl)

    by_line : (line : ℕ) → line < lines_in_all → (if asks_for (length starts) (index + 1) line events then slice_index_or second line [] else slice_index_or first line []) ≡ bytes_for (length starts) told line (stream_of line events).items
    by_line line within = by_test (asks_for (length starts) (index + 1) line events)
        (λ asked.
        let asked_elsewhere = asked_there (length starts) (length others) (index + 1) line events elsewhere same asked in
        chosen_same (asks_for (length starts) (index + 1) line events) (slice_index_or second line []) (slice_index_or first line []) asked
        ∙ there.by_line line within
        ∙ bytes_asked (length others) (index + 1) line there.told (stream_of line elsewhere).items (second_true (nat_lt line lines_in_all) (asks_in (length others) (index + 1) line elsewhere) asked_elsewhere)
        ∙ ap (λ (all : List Telling). bytes_by (λ (table : ℕ). all) line (Some (index + 1))) (sym mine)
        ∙ sym (bytes_asked (length starts) (index + 1) line told (stream_of line events).items (second_true (nat_lt line lines_in_all) (asks_in (length starts) (index + 1) line events) asked)))
        (λ unasked.
        let none : asks_in (length starts) (index + 1) line events ≡ false = ap (λ one. one && asks_in (length starts) (index + 1) line events) (sym (lt-ltb line lines_in_all within)) ∙ unasked in
        chosen_other (asks_for (length starts) (index + 1) line events) (slice_index_or second line []) (slice_index_or first line []) unasked
        ∙ here.by_line line within
        ∙ sym (bytes_unasked (length starts) (index + 1) line told here.told (stream_of line events).items (λ other away. chosen_other (other == (index + 1)) (there.told other) (here.told other) away) none))

-- what a line has that asks for a table
own_bytes : (starts : List AbstractTable) (table line : ℕ) (events : List AbstractEvent) (queues : List (List ℕ)) → (one : IsAllowed starts events queues) → asks_for (length starts) table line events ≡ true → slice_index_or queues line [] ≡ bytes_to line (one.told table)
own_bytes starts table line events queues one asked =
    one.by_line line (ltb-true line lines_in_all (first_true (nat_lt line lines_in_all) (asks_in (length starts) table line events) asked))
    ∙ bytes_asked (length starts) table line one.told (stream_of line events).items (second_true (nat_lt line lines_in_all) (asks_in (length starts) table line events) asked)

pub lines_have_the_same_bytes : LinesHaveTheSameBytes
lines_have_the_same_bytes starts others index start events elsewhere first second may may' here there numbered same one other alike line asked =
    let hears = own_there starts others index start events elsewhere may may' here there same in
    own_bytes starts (index + 1) line events first one asked
    ∙ (one_table start.game start.text start.config (own (length starts) (index + 1) events) (one.told (index + 1)) (other.told (index + 1)) numbered
    (one.by_table index start here) (hears_so (other.by_table index start there) (sym hears)) alike).1 line
    ∙ sym (own_bytes others (index + 1) line elsewhere second other (asked_there (length starts) (length others) (index + 1) line events elsewhere same asked))
