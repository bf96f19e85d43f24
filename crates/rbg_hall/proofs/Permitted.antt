-- What a run of a hall leaves in the queues is allowed.
use Rattle.rbg_base.proofs.Common.{◌≡◌, ℕ, zero, suc, ◌+◌, ◌-◌, ◌<◌, List, [], ◌∷◌, ◌++◌, length, refl, sym, ap, ◌∙◌, subst, append-nil, arith, Option, Some, None, get_or, replicate, length-replicate, get_or-replicate, slice_get}
use Rattle.rbg_wire.specs.declared.message.Reason.TheVariants.{NoSeat}
use Rattle.rbg_wire.proofs.Common.{refusal_message, spelling, Item}
use Rattle.rbg_hall.proofs.TableCommon.{lines_in_all, HallOf, Telling, bytes_to, told_from, told_to}
use Rattle.rbg_hall.proofs.Telling.{length-told_to}
use Rattle.rbg_hall.proofs.Common.{IsAllowed, bytes_by, bytes_for, AbstractTable, HallState, RunIsAllowed, stream_of, first_request, own, requested}
use Rattle.rbg_script.specs.Events.{AbstractEvent}
use Rattle.rbg_hall.proofs.HallRunning.{Stands, refusal_for, refusal_by, told_by, run_of, run_stands}

-- what a line has after this was told
told_from_at : (first : ℕ) (queues : List (List ℕ)) (told : List Telling) (index : ℕ) → index < length queues → get_or (told_from first queues told) index [] ≡ get_or queues index [] ++ bytes_to (first + index) told
told_from_at first [] told index within = absurd (omega arith)
told_from_at first (bytes ∷ others) told zero within = ap (λ line. bytes ++ bytes_to line told) number
  where
    number : first ≡ first + 0
    number = omega arith
told_from_at first (bytes ∷ others) told (suc index) within =
    told_from_at (suc first) others told index (omega arith) ∙ ap (λ line. get_or others index [] ++ bytes_to line told) number
  where
    number : suc first + index ≡ first + suc index
    number = omega arith

pub told_to_at : (queues : List (List ℕ)) (told : List Telling) (line : ℕ) → line < length queues → get_or (told_to queues told) line [] ≡ get_or queues line [] ++ bytes_to line told
told_to_at queues told line within = told_from_at 0 queues told line within ∙ ap (λ one. get_or queues line [] ++ bytes_to one told) number
  where
    number : 0 + line ≡ line
    number = omega arith

abbrev told_of : List (List Telling) → (table : ℕ) → List Telling
told_of tolds table = get_or tolds (table - 1) []

all_bytes : (tables : ℕ) (tolds : List (List Telling)) (line : ℕ) (items : List Item) → refusal_for tables items ++ told_by tolds line (first_request tables items) ≡ bytes_for tables (told_of tolds) line items
all_bytes tables tolds line [] = refl
all_bytes tables tolds line (item ∷ items) = by_asked (requested tables item)
  where
    by_asked : (asked : Option ℕ) → refusal_by asked ++ told_by tolds line asked ≡ bytes_by (told_of tolds) line asked
    by_asked (Some table) = refl
    by_asked None = append-nil (spelling (refusal_message NoSeat))

pub allowed : {starts : List AbstractTable} {events : List AbstractEvent} {state : HallState} {told : List Telling} → Stands starts events state told → IsAllowed starts events (told_to (replicate lines_in_all []) told)
allowed {starts} {events} {state} {told} stands = record {
  told = told_of stands.tolds;
  by_table = by_table;
  all_lines = length-told_to (replicate lines_in_all []) told ∙ length-replicate {A = List ℕ} lines_in_all [];
  by_line = λ line within.
      told_to_at (replicate lines_in_all []) told line (subst (λ count. line < count) (sym (length-replicate {A = List ℕ} lines_in_all [])) within)
      ∙ ap (λ had. had ++ bytes_to line told) (get_or-replicate {A = List ℕ} lines_in_all line [] [] within)
      ∙ stands.bytes line within
      ∙ all_bytes (length starts) stands.tolds line (stream_of line events).items;
}
  where
    by_table : (index : ℕ) (start : AbstractTable) → slice_get starts index ≡ Some start → HallOf start.game start.text start.config (own (length starts) (index + 1) events) (told_of stands.tolds (index + 1))
    by_table index start there =
        let found = run_of index start stands.runs there in
        let number : 1 + index ≡ index + 1 = omega arith in
        let place : index ≡ (index + 1) - 1 = omega arith in
        subst (λ one. HallOf start.game start.text start.config (own (length starts) (index + 1) events) (get_or stands.tolds one [])) place
        (subst (λ one. HallOf start.game start.text start.config (own (length starts) one events) (get_or stands.tolds index [])) number
        (record { state = found.0; runs = found.2 }))

pub run_is_allowed : RunIsAllowed
run_is_allowed starts events state told run = allowed (run_stands run)
