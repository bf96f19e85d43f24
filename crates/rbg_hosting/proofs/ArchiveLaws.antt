-- The laws of what a hall hands to an archive.
use Rattle.rbg_base.proofs.Common.{◌≡◌, ◌⊎◌, inl, inr, ◌==◌, ℕ, zero, suc, ◌+◌, ◌<◌, ◌≤◌, List, [], ◌∷◌, ◌++◌, Bool, true, false, cond, Option, Some, None, is_some, Contains, Contains-append_cases, Contains-push_cases, count_by, sum_by-append, ap, sym, ◌∙◌, refl, subst, none-some, same_Some, arith, cases_eq, eq-eqb, zero-add}
use Rattle.std.proofs.lemmas.Bool.{ne_eqb}
use Rattle.rbg_match.specs.Matches.{MatchState}
use Rattle.rbg_hall.proofs.Common.{AbstractTable, HallState, begun_at}
use Rattle.rbg_script.specs.Events.{AbstractEvent}
use Rattle.rbg_hall.specs.Serving.{has_ended}
use Rattle.rbg_hall.specs.Tables.{TableState}
use Rattle.rbg_network.specs.Archives.{Handed, kept}
use Rattle.rbg_record.specs.OfMatch.{record_of}
use Rattle.rbg_record.specs.Records.{texts_of, timed}
use Rattle.rbg_wire.specs.Lines.{lines_of}
use Rattle.rbg_hosting.specs.Archives.{AreHandedOver, IsArchivedRun, IsHandedFor, IsHandedOver}
use Rattle.rbg_hosting.specs.Archives.AreHandedOver.{nothing, one_more}
use Rattle.rbg_hosting.specs.Archives.IsArchivedRun.{begins, hears}
use Rattle.rbg_hosting.specs.Archives.IsHandedFor.{is_kept, is_lost}
use Rattle.rbg_hosting.specs.Archives.IsHandedOver.{ends, goes_on, had_ended}
use Rattle.rbg_hosting.specs.Laws.{EachIsHandedOnce, KeptRecordsArePrinted, is_of, times}
use Rattle.rbg_hosting.specs.Records.{IsPrintedMatch, IsRecordOf, match_line}
use Rattle.rbg_hosting.specs.Records.IsPrintedMatch.{begun}
use Rattle.rbg_hosting.specs.internal.Recorded.{StandAfter}
use Rattle.rbg_hosting.proofs.RecordedLemmas.{unbegun}
use Rattle.rbg_hosting.proofs.StandingLemmas.{hall_stands, stays_ended}

-- The match of a number has ended, and these bytes are its record.
record KeptAt (tables : List TableState) (number : ℕ) (bytes : List ℕ) : Type 0 where
  playing : MatchState
  is : begun_at tables number ≡ Some playing
  ended : is_some playing.play.outcome ≡ true
  record_so : IsRecordOf playing.game playing bytes

-- the same of one match
record KeptFor (number other : ℕ) (begun : Option MatchState) (bytes : List ℕ) : Type 0 where
  playing : MatchState
  is : begun ≡ Some playing
  ended : is_some playing.play.outcome ≡ true
  same : other ≡ number
  record_so : IsRecordOf playing.game playing bytes

none_in : {X : Type 0} (x : X) → Contains [] x → ⊥
none_in x there = omega (arith, there.1)

from_kept : (number other : ℕ) (playing : MatchState) (bytes : List ℕ) → IsHandedFor number playing (kept other bytes) → (other ≡ number) × IsRecordOf playing.game playing bytes
from_kept number _ playing _ (is_kept bytes is) = (refl, is)

over_kept : (number other : ℕ) (before : Bool) (match_at : Option MatchState) (more : List Handed) (bytes : List ℕ) → IsHandedOver number before match_at more → Contains more (kept other bytes) → KeptFor number other match_at bytes
over_kept number other _ _ _ bytes had_ended there = absurd (none_in _ there)
over_kept number other _ _ _ bytes (goes_on going) there = absurd (none_in _ there)
over_kept number other _ _ _ bytes (ends playing one ended is) there =
    elim (Contains-push_cases [] one (kept other bytes) there) [
      | inl absent ↦ absurd (none_in _ absent)
      | inr same ↦
          let has = from_kept number other playing bytes (subst (IsHandedFor number playing) same is) in
          record { playing = playing; is = refl; ended = ended; same = has.0; record_so = has.1 }
    ]

all_kept : {old new : List TableState} {matches : ℕ} {more : List Handed} → AreHandedOver old new matches more → (number : ℕ) (bytes : List ℕ) → Contains more (kept number bytes) → KeptAt new number bytes
all_kept nothing number bytes there = absurd (none_in _ there)
all_kept {new = new} (one_more {matches} {handed} {more} are over) number bytes there =
    elim (Contains-append_cases handed more (kept number bytes) there) [
      | inl earlier ↦ all_kept are number bytes earlier
      | inr here ↦
          let found = over_kept (suc matches) number _ (begun_at new (suc matches)) more bytes over here in
          record { playing = found.playing; is = subst (λ n. begun_at new n ≡ Some found.playing) (sym found.same) found.is; ended = found.ended; record_so = found.record_so }
    ]

-- a match that has ended stays as it is
carried : {old new : List TableState} → StandAfter old new → (number : ℕ) (bytes : List ℕ) → KeptAt old number bytes → KeptAt new number bytes
carried stand zero bytes at = absurd (none-some at.playing at.is)
carried stand (suc index) bytes at = record {
  playing = at.playing;
  is = stays_ended (stand index) (ap has_ended at.is ∙ at.ended) ∙ at.is;
  ended = at.ended;
  record_so = at.record_so;
}

kept_stands : {starts : List AbstractTable} {matches : ℕ} {events : List AbstractEvent} {state : HallState} {queues : List (List ℕ)} {handed : List Handed} → IsArchivedRun starts matches events state queues handed → (number : ℕ) (bytes : List ℕ) → Contains handed (kept number bytes) → KeptAt state.tables number bytes
kept_stands begins number bytes there = absurd (none_in _ there)
kept_stands (hears {handed = handed} {more = more} run heard are) number bytes there =
    elim (Contains-append_cases handed more (kept number bytes) there) [
      | inl earlier ↦ carried (hall_stands heard) number bytes (kept_stands run number bytes earlier)
      | inr now ↦ all_kept are number bytes now
    ]

printed_so : (number : ℕ) (start : AbstractTable) (match_at : Option MatchState) (playing : MatchState) (printed bytes : List ℕ) → match_at ≡ Some playing → IsRecordOf playing.game playing bytes → IsPrintedMatch number start match_at printed → printed ≡ match_line number ++ bytes
printed_so number start _ playing _ bytes is record_so (begun other printed other_record) =
    ap (λ text. match_line number ++ text)
    (other_record.spells.is ∙ ap (λ (m : MatchState). lines_of (texts_of (timed (record_of m)))) (same_Some _ _ is) ∙ sym record_so.spells.is)
printed_so number start _ playing _ bytes is record_so IsPrintedMatch.not_begun = absurd (none-some playing is)

pub kept_records_are_printed : KeptRecordsArePrinted
kept_records_are_printed starts matches events state queues handed number bytes run there start printed shown =
    let at = kept_stands run number bytes there in
    printed_so number start (begun_at state.tables number) at.playing printed bytes at.is at.record_so shown

-- how often a match is handed over after an event, by whether it had ended, and whether it has
since : (before after : Bool) → ℕ
since true after = 0
since false after = times after

since_none : (before : Bool) → since before false ≡ 0
unfolding since
since_none true = refl
since_none false = refl

-- how often one thing passes a test
count_one : (p : Handed → Bool) (one : Handed) → count_by p (one ∷ []) ≡ cond (p one) 1 0
count_one p one = zero-add (cond (p one) 1 0)

-- what is handed of a match has its number
handed_number : (number : ℕ) (playing : MatchState) (one : Handed) → IsHandedFor number playing one → (other : ℕ) → is_of other one ≡ (number == other)
handed_number number playing _ (is_kept bytes is) other = refl
handed_number number playing _ is_lost other = refl

over_count : (number : ℕ) (before : Bool) (match_at : Option MatchState) (more : List Handed) → IsHandedOver number before match_at more → count_by (is_of number) more ≡ since before (has_ended match_at)
unfolding since
over_count number _ _ _ had_ended = refl
over_count number before _ _ (goes_on going) = sym (ap (since before) going ∙ since_none before)
over_count number _ _ _ (ends playing one ended is) =
    count_one (is_of number) one ∙ ap (λ (b : Bool). cond b 1 0) (handed_number number playing one is number ∙ eq-eqb number number refl) ∙ sym (ap times ended)

other_count : (number other : ℕ) (before : Bool) (match_at : Option MatchState) (more : List Handed) → ¬ (number ≡ other) → IsHandedOver number before match_at more → count_by (is_of other) more ≡ 0
other_count number other _ _ _ differs had_ended = refl
other_count number other _ _ _ differs (goes_on going) = refl
other_count number other _ _ _ differs (ends playing one ended is) =
    count_one (is_of other) one ∙ ap (λ (b : Bool). cond b 1 0) (handed_number number playing one is other ∙ ne_eqb number other differs)

count-append : (number : ℕ) (handed more : List Handed) → count_by (is_of number) (handed ++ more) ≡ count_by (is_of number) handed + count_by (is_of number) more
count-append number handed more = sum_by-append (λ one. cond (is_of number one) 1 0) handed more

above_count : {old new : List TableState} {matches : ℕ} {more : List Handed} → AreHandedOver old new matches more → (index : ℕ) → matches ≤ index → count_by (is_of (suc index)) more ≡ 0
above_count nothing index above = refl
above_count (one_more {matches} {handed} {more} are over) index above =
    let earlier = above_count are index (omega (arith, above)) in
    let here = other_count (suc matches) (suc index) _ _ more (λ same. omega (arith, above, same)) over in
    omega (arith, count-append (suc index) handed more, earlier, here)

all_count : {old new : List TableState} {matches : ℕ} {more : List Handed} → AreHandedOver old new matches more → (index : ℕ) → index < matches → count_by (is_of (suc index)) more ≡ since (has_ended (begun_at old (suc index))) (has_ended (begun_at new (suc index)))
all_count nothing index below = absurd (omega (arith, below))
all_count {old = old} {new = new} (one_more {matches} {handed} {more} are over) index below =
    count-append (suc index) handed more ∙
    elim (cases_eq index matches) [
      | inl same ↦
          subst (λ n. count_by (is_of (suc n)) handed + count_by (is_of (suc n)) more ≡ since (has_ended (begun_at old (suc n))) (has_ended (begun_at new (suc n)))) (sym same)
          (ap (λ n. n + count_by (is_of (suc matches)) more) (above_count are matches (omega arith)) ∙ zero-add (count_by (is_of (suc matches)) more) ∙ over_count (suc matches) _ (begun_at new (suc matches)) more over)
      | inr differs ↦
          let here = other_count (suc matches) (suc index) _ _ more (λ same. differs (omega (arith, same))) over in
          let earlier = all_count are index (omega (arith, below, differs)) in
          omega (arith, here, earlier)
    ]

-- a match that had ended has ended
times_since : (before after : Bool) → (before ≡ true → after ≡ true) → times before + since before after ≡ times after
unfolding since
times_since true after stays = sym (ap times (stays refl))
times_since false after stays = zero-add (times after)

run_count : {starts : List AbstractTable} {matches : ℕ} {events : List AbstractEvent} {state : HallState} {queues : List (List ℕ)} {handed : List Handed} → IsArchivedRun starts matches events state queues handed → (index : ℕ) → index < matches → count_by (is_of (suc index)) handed ≡ times (has_ended (begun_at state.tables (suc index)))
run_count {starts = starts} begins index below = sym (ap times (unbegun starts index))
run_count (hears {old = old} {new = new} {handed = handed} {more = more} run heard are) index below =
    count-append (suc index) handed more
    ∙ ap (λ n. n + count_by (is_of (suc index)) more) (run_count run index below)
    ∙ ap (λ n. times (has_ended (begun_at old.tables (suc index))) + n) (all_count are index below)
    ∙ times_since (has_ended (begun_at old.tables (suc index))) (has_ended (begun_at new.tables (suc index)))
    (λ ended. ap has_ended (stays_ended (hall_stands heard index) ended) ∙ ended)

pub each_is_handed_once : EachIsHandedOnce
each_is_handed_once starts matches events state queues handed index run below = run_count run index below
