-- What a table of a hall tells a line before its match begins.
use Rattle.rbg_base.proofs.Common.{◌≡◌, ℕ, List, [], ◌∷◌, ◌++◌, map, Bool, true, false, refl, sym, ap, ◌∙◌, subst, append-nil, Option, Some, None, set, inl, inr, none-some, ◌==◌, nat_lt, slice_get, if◌then◌else◌, flat_map}
use Rattle.std.proofs.lemmas.Bool.{true≢false, eq-eqb, eqb-true, ne_eqb}
use Rattle.std.proofs.lemmas.List.Concat.{flat_map-append}
use Rattle.rbg_wire.specs.declared.message.Reason.TheVariants.{OutOfTurn}
use Rattle.rbg_wire.proofs.Common.{refusal_message, spelling, Item, Rest, Cut, cut}
use Rattle.rbg_rules.specs.Meaning.{AbstractGame}
use Rattle.rbg_match.specs.declared.config.Config.{Config}
use Rattle.rbg_match.proofs.Common.{message_limit, MatchState}
use Rattle.rbg_script.specs.Events.{AbstractEvent, piece, end_of_stream, moment_alone}
use Rattle.rbg_hall.proofs.TableCommon.{lines_in_all, TableState, TableRun, OwnEvent, clock, joins, arrives, says, leaves, Plays, Hears, waits, ticks, sits, begins, is_full, comes_late, stays, waits_too, stirs, is_early, plays, frees, goes, is_moment_for_none, is_unheard, goes_unheard, SitsAt, Telling, bytes_to, telling}
use Rattle.rbg_hall.specs.Tables as tables
use Rattle.rbg_hall.proofs.Alike.{waited_before}
use Rattle.rbg_hall.proofs.Places.{set_cases}
use Rattle.rbg_hall.proofs.Seats.{SitsNowhere}
use Rattle.rbg_hall.proofs.Telling.{bytes_to-append, bytes_to-other}
use Rattle.rbg_hall.proofs.Common.{early_refusal, HallLine, silent, asks, over, asking, line_cut, has_ended, stream_of, line_after, first_request, heard_first, heard_of, heard_of_piece, heard_of_end, own_after, own, requested, is_for}
use Rattle.rbg_hall.proofs.Growing.{by_test, standing}
use Rattle.rbg_hall.proofs.Owning.{is_of, Lacks, asks_in, asked_later, heard_lacks}
use Rattle.rbg_hall.proofs.Silence.{all_unmoved}

-- whether an event is that a line joins
abbrev joins_it : (line : ℕ) → OwnEvent → Bool
joins_it line (clock at) = false
joins_it line (joins other at) = other == line
joins_it line (arrives other at) = false
joins_it line (says other at item) = false
joins_it line (leaves other at) = false

-- the line doesn't join in these events
abbrev Unjoined : (line : ℕ) → List OwnEvent → Type 0
Unjoined line [] = Unit {0}
Unjoined line (event ∷ events) = (joins_it line event ≡ false) × Unjoined line events

-- of a line, joining comes first
abbrev pub JoinsFirst : (line : ℕ) → List OwnEvent → Type 0
JoinsFirst line [] = Unit {0}
JoinsFirst line (event ∷ events) = (is_of line event ≡ true → Unjoined line events) × JoinsFirst line events

unjoined_append : (line : ℕ) (a b : List OwnEvent) → Unjoined line a → Unjoined line b → Unjoined line (a ++ b)
unjoined_append line [] b first next = next
unjoined_append line (event ∷ a) b first next = (first.0, unjoined_append line a b first.1 next)

-- of a line that nothing is heard of it doesn't join
not_joined : (line : ℕ) (event : OwnEvent) → is_of line event ≡ false → joins_it line event ≡ false
not_joined line (clock at) lacks = refl
not_joined line (joins other at) lacks = lacks
not_joined line (arrives other at) lacks = refl
not_joined line (says other at item) lacks = refl
not_joined line (leaves other at) lacks = refl

lacks_unjoined : (line : ℕ) (all : List OwnEvent) → Lacks line all → Unjoined line all
lacks_unjoined line [] lacks = tt
lacks_unjoined line (event ∷ all) lacks = (not_joined line event lacks.0, lacks_unjoined line all lacks.1)

-- two lists in turn
joins_lacks : (line : ℕ) (a b : List OwnEvent) → Lacks line a → JoinsFirst line b → JoinsFirst line (a ++ b)
joins_lacks line [] b lacks first = first
joins_lacks line (event ∷ a) b lacks first = (λ it. absurd (true≢false (sym it ∙ lacks.0)), joins_lacks line a b lacks.1 first)

joins_unjoined : (line : ℕ) (a b : List OwnEvent) → JoinsFirst line a → Unjoined line b → JoinsFirst line b → JoinsFirst line (a ++ b)
joins_unjoined line [] b first none next = next
joins_unjoined line (event ∷ a) b first none next = (λ it. unjoined_append line a b (first.0 it) none, joins_unjoined line a b first.1 none next)

pub joins_before : (line : ℕ) (a b : List OwnEvent) → JoinsFirst line (a ++ b) → JoinsFirst line a
joins_before line [] b all = tt
joins_before line (event ∷ a) b all = (λ it. unjoined_before a (all.0 it), joins_before line a b all.1)
  where
    unjoined_before : (a : List OwnEvent) → Unjoined line (a ++ b) → Unjoined line a
    unjoined_before [] none = tt
    unjoined_before (event ∷ a) none = (none.0, unjoined_before a none.1)

-- nothing was heard of a line that joins
pub nothing_before : (line other at : ℕ) (a : List OwnEvent) → other ≡ line → JoinsFirst line (a ++ joins other at ∷ []) → Lacks line a
nothing_before line other at [] same all = tt
nothing_before line other at (event ∷ a) same all = (by_test (is_of line event) (λ it. absurd (last a (all.0 it))) (λ lacks. lacks), nothing_before line other at a same all.1)
  where
    last : (a : List OwnEvent) → Unjoined line (a ++ joins other at ∷ []) → ⊥
    last [] none = true≢false (sym (eq-eqb other line same) ∙ none.0)
    last (event ∷ a) none = last a none.1

-- The items of a line after the first one.
items_unjoined : (line other at : ℕ) (items : List Item) → Unjoined line (map (says other at) items)
items_unjoined line other at [] = tt
items_unjoined line other at (item ∷ items) = (refl, items_unjoined line other at items)

items_first : (line other at : ℕ) (items : List Item) → JoinsFirst line (map (says other at) items)
items_first line other at [] = tt
items_first line other at (item ∷ items) = (λ it. items_unjoined line other at items, items_first line other at items)

chosen_first : (line : ℕ) (test : Bool) (all : List OwnEvent) → JoinsFirst line all → JoinsFirst line (if test then all else [])
chosen_first line true all first = first
chosen_first line false all first = tt

chosen_unjoined : (line : ℕ) (test : Bool) (all : List OwnEvent) → Unjoined line all → Unjoined line (if test then all else [])
chosen_unjoined line true all none = none
chosen_unjoined line false all none = tt

-- what a table hears of one event
first_heard : (tables table line other at : ℕ) (items : List Item) → JoinsFirst line (heard_first tables table other at items)
first_heard tables table line other at [] = tt
first_heard tables table line other at (item ∷ items) =
    chosen_first line (is_for table (requested tables item)) (joins other at ∷ map (says other at) items) (λ it. items_unjoined line other at items, items_first line other at items)

piece_heard : (tables table line other at : ℕ) (bytes : List ℕ) (one : HallLine) → JoinsFirst line (heard_of_piece tables table one other at bytes)
piece_heard tables table line other at bytes (silent rest) = first_heard tables table line other at (cut message_limit rest bytes).items
piece_heard tables table line other at bytes (asks asked rest) =
    let items = (cut message_limit rest bytes).items in
    chosen_first line (asked == table) (arrives other at ∷ map (says other at) items) (λ it. items_unjoined line other at items, items_first line other at items)
piece_heard tables table line other at bytes over = tt

end_heard : (table line other at : ℕ) (one : HallLine) → JoinsFirst line (heard_of_end table one other at)
end_heard table line other at (silent rest) = tt
end_heard table line other at (asks asked rest) = chosen_first line (asked == table) (leaves other at ∷ []) (λ it. tt, tt)
end_heard table line other at over = tt

heard_joins : (tables table line : ℕ) (lines : ℕ → HallLine) (event : AbstractEvent) → JoinsFirst line (heard_of tables table lines event)
heard_joins tables table line lines (piece other at bytes) = piece_heard tables table line other at bytes (lines other)
heard_joins tables table line lines (end_of_stream other at) = end_heard table line other at (lines other)
heard_joins tables table line lines (moment_alone at) = (λ it. tt, tt)

-- A line that has asked for a table doesn't join it again.
module _ (tables table line at : ℕ) where
  asking_unjoined : (one : Option ℕ) (rest : Rest) (bytes : List ℕ) → Unjoined line (heard_of_piece tables table (asking one rest) line at bytes)
  asking_unjoined (Some other) rest bytes =
      let items = (cut message_limit rest bytes).items in
      chosen_unjoined line (other == table) (arrives line at ∷ map (says line at) items) (refl, items_unjoined line line at items)
  asking_unjoined None rest bytes = tt

  cut_unjoined : (items : List Item) (rest : Rest) (bytes : List ℕ) → is_for table (first_request tables items) ≡ true → Unjoined line (heard_of_piece tables table (line_cut tables items rest) line at bytes)
  cut_unjoined [] rest bytes asked = absurd (true≢false (sym asked))
  cut_unjoined (item ∷ items) rest bytes asked = asking_unjoined (requested tables item) rest bytes

  piece_unjoined : (ended there : Bool) (c : Cut) (bytes : List ℕ) → is_for table (first_request tables c.items) ≡ true → Unjoined line (heard_of_piece tables table (standing ended there tables c) line at bytes)
  piece_unjoined true there c bytes asked = tt
  piece_unjoined false true c bytes asked = cut_unjoined c.items c.rest bytes asked
  piece_unjoined false false c bytes asked = tt

-- of another line, nothing is that it joins
others_unjoined : (line other at : ℕ) (items : List Item) → (other == line) ≡ false → Unjoined line (joins other at ∷ map (says other at) items)
others_unjoined line other at items differ = (differ, items_unjoined line other at items)

first_of_other : (tables table line other at : ℕ) (items : List Item) → (other == line) ≡ false → Unjoined line (heard_first tables table other at items)
first_of_other tables table line other at [] differ = tt
first_of_other tables table line other at (item ∷ items) differ =
    chosen_unjoined line (is_for table (requested tables item)) (joins other at ∷ map (says other at) items) (others_unjoined line other at items differ)

piece_of_other : (tables table line other at : ℕ) (bytes : List ℕ) (one : HallLine) → (other == line) ≡ false → Unjoined line (heard_of_piece tables table one other at bytes)
piece_of_other tables table line other at bytes (silent rest) differ = first_of_other tables table line other at (cut message_limit rest bytes).items differ
piece_of_other tables table line other at bytes (asks asked rest) differ =
    let items = (cut message_limit rest bytes).items in
    chosen_unjoined line (asked == table) (arrives other at ∷ map (says other at) items) (refl, items_unjoined line other at items)
piece_of_other tables table line other at bytes over differ = tt

end_unjoined : (table line other at : ℕ) (one : HallLine) → Unjoined line (heard_of_end table one other at)
end_unjoined table line other at (silent rest) = tt
end_unjoined table line other at (asks asked rest) = chosen_unjoined line (asked == table) (leaves other at ∷ []) (refl, tt)
end_unjoined table line other at over = tt

heard_unjoined : (tables table line : ℕ) (before : List AbstractEvent) (event : AbstractEvent) → asks_in tables table line before ≡ true → Unjoined line (heard_of tables table (λ one. line_after tables one before) event)
heard_unjoined tables table line before (piece other at bytes) asked = by_test (other == line)
    (λ test. subst (λ one. Unjoined line (heard_of_piece tables table (line_after tables one before) one at bytes)) (sym (eqb-true other line test))
    (piece_unjoined tables table line at (has_ended line before) (nat_lt line lines_in_all) (stream_of line before) bytes asked))
    (λ test. piece_of_other tables table line other at bytes (line_after tables other before) test)
heard_unjoined tables table line before (end_of_stream other at) asked = end_unjoined table line other at (line_after tables other before)
heard_unjoined tables table line before (moment_alone at) asked = (refl, tt)

after_unjoined : (tables table line : ℕ) (before all : List AbstractEvent) → asks_in tables table line before ≡ true → Unjoined line (own_after tables table before all)
after_unjoined tables table line before [] asked = tt
after_unjoined tables table line before (event ∷ all) asked =
    unjoined_append line (heard_of tables table (λ one. line_after tables one before) event) (own_after tables table (before ++ event ∷ []) all)
    (heard_unjoined tables table line before event asked)
    (after_unjoined tables table line (before ++ event ∷ []) all (asked_later tables table line before (event ∷ []) asked))

after_joins : (tables table line : ℕ) (before all : List AbstractEvent) → JoinsFirst line (own_after tables table before all)
after_joins tables table line before [] = tt
after_joins tables table line before (event ∷ all) =
    let heard = heard_of tables table (λ one. line_after tables one before) event in
    let later = own_after tables table (before ++ event ∷ []) all in
    by_test (asks_in tables table line (before ++ event ∷ []))
    (λ asked. joins_unjoined line heard later (heard_joins tables table line (λ one. line_after tables one before) event)
    (after_unjoined tables table line (before ++ event ∷ []) all asked) (after_joins tables table line (before ++ event ∷ []) all))
    (λ unasked. joins_lacks line heard later (heard_lacks tables table line before event unasked) (after_joins tables table line (before ++ event ∷ []) all))

-- Of each line, joining is the first that a table hears.
pub own_joins : (tables table line : ℕ) (all : List AbstractEvent) → JoinsFirst line (own tables table all)
own_joins tables table line all = after_joins tables table line [] all

-- nothing is refused to a line of which nothing is heard
pub lacks_early : (line : ℕ) (all : List OwnEvent) → Lacks line all → flat_map (early_refusal line) all ≡ []
lacks_early line [] lacks = refl
lacks_early line (event ∷ all) lacks = ap (λ first. first ++ flat_map (early_refusal line) all) (one event lacks.0) ∙ lacks_early line all lacks.1
  where
    one : (event : OwnEvent) → is_of line event ≡ false → early_refusal line event ≡ []
    one (clock at) none = refl
    one (joins other at) none = refl
    one (arrives other at) none = refl
    one (says other at item) none = ap (λ test. if test then spelling (refusal_message OutOfTurn) else []) none
    one (leaves other at) none = refl

none_begun : {playing : MatchState} {P : Type 0} → Some playing ≡ None → P
none_begun {playing} is = absurd (none-some playing (sym is))

play_begun : {old new : TableState} {told : List Telling} {event : AbstractEvent} {P : Type 0} → Plays old event new told → new.begun ≡ None → P
play_begun play none = absurd (none-some play.after (sym none ∙ ap (λ (one : TableState). one.begun) play.is))

-- what one more event adds for a line that has a seat then
module _ (line : ℕ) {game : AbstractGame} {text : List ℕ} {config : Config} {heard : List OwnEvent} {old : TableState} {told : List Telling} (run : TableRun game text config heard old told) (before : (index : ℕ) → SitsAt old line index → bytes_to line told ≡ flat_map (early_refusal line) heard) where
  abbrev Told : OwnEvent → (next : List Telling) → Type 0
  Told event next = bytes_to line (told ++ next) ≡ flat_map (early_refusal line) (heard ++ event ∷ [])

  both_more : (event : OwnEvent) (next : List Telling) → bytes_to line told ≡ flat_map (early_refusal line) heard → bytes_to line next ≡ early_refusal line event → Told event next
  both_more event next had has =
      bytes_to-append line told next
      ∙ (λ i. had i ++ (has ∙ sym (append-nil (early_refusal line event))) i)
      ∙ sym (flat_map-append (early_refusal line) heard (event ∷ []))

  same_seat : (one other : ℕ) → Some (Some one) ≡ Some (Some other) → one ≡ other
  same_seat one other is = cc

  -- one that sits down
  seated_now : (other at place index : ℕ) → JoinsFirst line (heard ++ joins other at ∷ []) → slice_get (set old.seats place (Some other)) index ≡ Some (Some line) → Told (joins other at) []
  seated_now other at place index first there = elim (set_cases old.seats place index (Some other) (Some line) there) [
    | inl here ↦ (let lacks = nothing_before line other at heard (same_seat other line (ap Some (sym here.1))) first in
        both_more (joins other at) [] ((all_unmoved line run lacks).1 ∙ sym (lacks_early line heard lacks)) refl)
    | inr away ↦ both_more (joins other at) [] (before index away.1) refl
  ]

  freed_now : (other at place index : ℕ) → slice_get (set old.seats place None) index ≡ Some (Some line) → Told (leaves other at) []
  freed_now other at place index there = elim (set_cases old.seats place index None (Some line) there) [
    | inl here ↦ absurd (none-some line (sym here.1))
    | inr away ↦ both_more (leaves other at) [] (before index away.1) refl
  ]

  -- one that is refused a seat
  refused_now : (other at index : ℕ) (bytes : List ℕ) → SitsNowhere other old.seats → SitsAt old line index → Told (joins other at) (telling other bytes)
  refused_now other at index bytes nowhere there =
      both_more (joins other at) (telling other bytes) (before index there) (bytes_to-other line other bytes (λ same. nowhere index (there ∙ ap (λ (n : ℕ). Some (Some n)) (sym same))))

  early_now : (other at index : ℕ) (item : Item) → SitsAt old line index → Told (says other at item) (telling other (spelling (refusal_message OutOfTurn)))
  early_now other at index item there = both_more (says other at item) (telling other (spelling (refusal_message OutOfTurn))) (before index there) (append-nil (if other == line then spelling (refusal_message OutOfTurn) else []))

  unheard_now : (other at index : ℕ) (item : Item) → SitsNowhere other old.seats → SitsAt old line index → Told (says other at item) []
  unheard_now other at index item nowhere there =
      both_more (says other at item) [] (before index there)
      (sym (ap (λ test. if test then spelling (refusal_message OutOfTurn) else []) (ne_eqb other line (λ same. nowhere index (there ∙ ap (λ (n : ℕ). Some (Some n)) (sym same))))))

  one_early : {event : OwnEvent} {new : TableState} {next : List Telling} → Hears old event new next → new.begun ≡ None → JoinsFirst line (heard ++ event ∷ []) → (index : ℕ) → SitsAt new line index → Told event next
  one_early (waits none) still first index there = both_more _ [] (before index there) refl
  one_early (ticks play) still first index there = play_begun play still
  one_early (sits {line = other} {at} place last none nowhere free left) still first index there = seated_now other at place index first there
  one_early (begins place none nowhere free taken opens) still first index there = none_begun still
  one_early (is_full {line = other} {at} nowhere taken) still first index there = refused_now other at index _ nowhere there
  one_early (comes_late nowhere begun) still first index there = none_begun (sym begun ∙ still)
  one_early (stays seat) still first index there = both_more _ [] (before index there) refl
  one_early (waits_too none) still first index there = both_more _ [] (before index there) refl
  one_early (stirs place seat play) still first index there = play_begun play still
  one_early (is_early {line = other} {at} {item} place seat none) still first index there = early_now other at index item there
  one_early (plays place seat play) still first index there = play_begun play still
  one_early (frees {line = other} {at} place seat none) still first index there = freed_now other at place index there
  one_early (goes place seat play) still first index there = play_begun play still
  one_early (is_moment_for_none nowhere) still first index there = both_more _ [] (before index there) refl
  one_early (is_unheard {line = other} {at} {item} nowhere) still first index there = unheard_now other at index item nowhere there
  one_early (goes_unheard nowhere) still first index there = both_more _ [] (before index there) refl

-- Before the match begins, a line that has a seat was told for each of its items that it is out of turn, and nothing else.
pub early_told : {game : AbstractGame} {text : List ℕ} {config : Config} {heard : List OwnEvent} {state : TableState} {told : List Telling} (line : ℕ) → TableRun game text config heard state told → state.begun ≡ None → JoinsFirst line heard → (index : ℕ) → SitsAt state line index → bytes_to line told ≡ flat_map (early_refusal line) heard
early_told line tables.none still first index there = refl
early_told line (tables.more {events = heard} {event} run hears) still first index there =
    one_early line run (λ place seat. early_told line run (waited_before hears still) (joins_before line heard (event ∷ []) first) place seat) hears still first index there
