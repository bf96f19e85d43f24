-- Lemmas on the records of a hall that was served.
use Rattle.rbg_base.proofs.Common.{◌≡◌, ℕ, suc, ◌+◌, ◌<◌, ◌≤◌, List, [], ◌∷◌, ◌++◌, Option, Some, None, length, map, take, slice_get, false, ap, sym, ◌∙◌, refl, subst, append-nil, arith, slice_index_or, slice_get-get_or, slice_get_within, get_or_from_slice_get}
use Rattle.std.proofs.lemmas.List.{length-map, length-take-le, take_more, take_all}
use Rattle.rbg_base.proofs.CallerLemmas.{slice_get-map_at}
use Rattle.rbg_hall.proofs.Common.{AbstractTable, HallState, begun_at, begun_of}
use Rattle.rbg_hall.proofs.Beginnings.{begun_matches_hold_transcripts}
use Rattle.rbg_hall.proofs.HallRunning.{EachRuns, run_of, run_stands}
use Rattle.rbg_hall.proofs.HallRunning as running
use Rattle.rbg_hall.proofs.TableCommon.{TableState, OwnEvent, Telling}
use Rattle.rbg_match.specs.Matches.{MatchState}
use Rattle.rbg_record.specs.Right.{IsRightRecord}
use Rattle.rbg_serving.proofs.Common.{Told, TellEach, nothing_told}
use Rattle.rbg_hosting.specs.Records.{match_line, IsPrintedMatch, ArePrintedMatches, HasEnded}
use Rattle.rbg_hosting.specs.Records.IsPrintedMatch.{not_begun, begun}
use Rattle.rbg_hosting.specs.Records.ArePrintedMatches.{one_more}
use Rattle.rbg_hosting.specs.internal.Writing.{AppendsMatch}

-- what a line may have told that keeps no record, where its failures are counted
abbrev pub told_by : {L : Type 0} → (failure_count : L → ℕ) → L → Told
told_by failure_count line = record nothing_told { failures = failure_count line }

-- lines that keep no record tell something
pub all_tell : {L : Type 0} (told : L → Told → Type 0) (failure_count : L → ℕ) → ((line : L) (so_far : Told) → told line so_far) → (lines : List L) → TellEach told failure_count lines (map (told_by failure_count) lines)
all_tell told failure_count any lines = record {
  as_many = length-map lines (told_by failure_count);
  each = λ index line there. record {
    record_of = any line (slice_index_or (map (told_by failure_count) lines) index nothing_told);
    counted = sym (ap (λ (one : Told). one.failures) (get_or_from_slice_get (map (told_by failure_count) lines) index (told_by failure_count line) nothing_told (slice_get-map_at (told_by failure_count) lines index line there)));
  };
}

-- the match of a table is printed
match_so : (table : ℕ) (start : AbstractTable) (match_at : Option MatchState) (old new : List ℕ) → ((playing : MatchState) → match_at ≡ Some playing → (playing.failed ≡ false) × (playing.game ≡ start.game)) → AppendsMatch table match_at old new → (one : List ℕ) × IsPrintedMatch table start match_at one × (new ≡ old ++ one)
match_so table start None old new works appends = ([], not_begun, appends ∙ sym (append-nil old))
match_so table start (Some playing) old new works appends =
    let known = works playing refl in
    let adds = appends known.0 in
    (match_line table ++ adds.told, begun playing adds.told (record { spells = adds.spells; right = subst (λ game. IsRightRecord game adds.told) known.1 adds.right }), adds.adds)

-- the first items, and one more
taken_more : {A : Type 0} (items : List A) (index : ℕ) (item : A) → slice_get items index ≡ Some item → take index items ++ item ∷ [] ≡ take (index + 1) items
taken_more items index item there =
    sym (take_more items index item (slice_get_within items index item there)
    ∙ ap (λ one. take index items ++ one ∷ []) (get_or_from_slice_get items index item item there))

-- a table of that number is there
start_at : (starts : List AbstractTable) (index : ℕ) → index < length starts → (start : AbstractTable) × (slice_get starts index ≡ Some start)
start_at [] index within = absurd (omega (arith, within))
start_at (start ∷ starts) index within = (_, slice_get-get_or (start ∷ starts) index start within)

-- there are as many tables as began
tables_count : {heard : (table : ℕ) → List OwnEvent} {table : ℕ} {starts : List AbstractTable} {states : List TableState} {tolds : List (List Telling)} → EachRuns heard table starts states tolds → length states ≡ length starts
tables_count running.no_table = refl
tables_count (running.one_more run runs) = ap suc (tables_count runs)

pub as_many_tables : {starts : List AbstractTable} {state : HallState} → HasEnded starts state → length state.tables ≡ length starts
as_many_tables ended = tables_count (run_stands ended.run.run).runs

-- the match of one more table is printed
pub match_more : (starts : List AbstractTable) (state : HallState) (index : ℕ) (old new : List ℕ) → HasEnded starts state → index < length starts → AppendsMatch (index + 1) (begun_at state.tables (index + 1)) old new → ArePrintedMatches (take index starts) (take index state.tables) old → ArePrintedMatches (take (index + 1) starts) (take (index + 1) state.tables) new
match_more starts state index old new ended within appends so_far =
    let first = start_at starts index within in
    let start = first.0 in
    let found = run_of index start (run_stands ended.run.run).runs first.1 in
    let table = found.0 in
    let number : index + 1 ≡ suc index = omega arith in
    let is : begun_at state.tables (index + 1) ≡ table.begun = ap (begun_at state.tables) number ∙ ap begun_of found.1 in
    let one = match_so (index + 1) start table.begun old new
    (λ playing has.
    let holds = (begun_matches_hold_transcripts starts ended.events state ended.run.told ended.run.run index start table playing first.1 found.1 has).holds in
    (holds.works, holds.of_game))
    (subst (λ match_at. AppendsMatch (index + 1) match_at old new) is appends) in
    let there : index ≤ length state.tables = omega (arith, slice_get_within state.tables index table found.1) in
    let count : index + 1 ≡ length (take index state.tables) + 1 = ap (λ n. n + 1) (sym (length-take-le index state.tables there)) in
    let more = one_more (take index starts) (take index state.tables) start table old one.0 so_far (subst (λ n. IsPrintedMatch n start table.begun one.0) count one.1) in
    subst (λ text. ArePrintedMatches (take (index + 1) starts) (take (index + 1) state.tables) text) (sym one.2)
    (subst (λ these. ArePrintedMatches these (take (index + 1) state.tables) (old ++ one.0)) (taken_more starts index start first.1)
    (subst (λ these. ArePrintedMatches (take index starts ++ start ∷ []) these (old ++ one.0)) (taken_more state.tables index table found.1) more))

-- the matches of all tables are printed
pub all_matches : (starts : List AbstractTable) (state : HallState) (count : ℕ) (printed : List ℕ) → length starts ≤ count → HasEnded starts state → ArePrintedMatches (take count starts) (take count state.tables) printed → ArePrintedMatches starts state.tables printed
all_matches starts state count printed few ended so_far =
    let many = as_many_tables ended in
    subst (λ these. ArePrintedMatches starts these printed) (take_all count state.tables (omega (arith, many, few)))
    (subst (λ these. ArePrintedMatches these (take count state.tables) printed) (take_all count starts few) so_far)
