-- Lemmas on lines over memory.
use Rattle.rbg_base.proofs.Common.{◌≡◌, ◌<◌, ◌≤◌, ℕ, ◌+◌, ◌-◌, List, [], ◌∷◌, ◌++◌, length, take, drop, get_or, ap, sym, ◌∙◌, arith, append_assoc, append-nil, refl, zero, suc, true, false, min, flat_map, count_by, flat_map-append, sum_by-append}
use Rattle.std.proofs.Math.Seq.{take-add}
use Rattle.std.proofs.lemmas.List.{take_all, take_more, take-append-drop}
use Rattle.rbg_serving.proofs.Common.{Give, Nothing, Ended, Failed, with_failure, Polled, Got, Put, MemoryLine, bytes_in, is_bytes, is_end, memory_told, GivesNext, gives_part, gives_rest, IsPolled, TakesNext, IsPut, Told}
use Rattle.rbg_serving.proofs.HeardLemmas.{one_if}

-- a poll after which only what was given is another
pub only_gives : {old new : MemoryLine} {result : Polled} {buffer : List ℕ} →
    GivesNext old.gives.items old.whole old.offset result buffer new.whole new.offset →
    new.gives ≡ old.gives → new.takes ≡ old.takes → new.puts ≡ old.puts → new.taken ≡ old.taken → new.room ≡ old.room →
    IsPolled old new result buffer
only_gives next gives takes puts taken room =
    record { gives_next = next; gives = gives; takes = takes; puts = puts; taken = taken; room = room }

-- a put after which only what was taken is another
pub only_takes : {old new : MemoryLine} {result : Put} {bytes : List ℕ} (took : List ℕ) →
    TakesNext old.takes.items (old.room - length old.taken.items) bytes old.puts result took new.puts →
    new.taken.items ≡ old.taken.items ++ took →
    new.gives ≡ old.gives → new.whole ≡ old.whole → new.offset ≡ old.offset → new.takes ≡ old.takes → new.room ≡ old.room →
    IsPut old new result bytes
only_takes took next taken gives whole offset takes room =
    record { took = took; takes_next = next; taken = taken; gives = gives; whole = whole; offset = offset; takes = takes; room = room }

-- the bytes of one more give
bytes_more : (gives : List Give) (whole : ℕ) → whole < length gives →
    flat_map bytes_in (take (whole + 1) gives) ≡ flat_map bytes_in (take whole gives) ++ bytes_in (get_or gives whole Nothing)
bytes_more gives whole there =
    ap (flat_map bytes_in) (take_more gives whole Nothing there)
    ∙ flat_map-append bytes_in (take whole gives) (get_or gives whole Nothing ∷ [])
    ∙ ap (λ bytes. flat_map bytes_in (take whole gives) ++ bytes) (append-nil (bytes_in (get_or gives whole Nothing)))

-- the ends of one more give
ends_more : (gives : List Give) (whole : ℕ) → whole < length gives →
    count_by is_end (take (whole + 1) gives) ≡ count_by is_end (take whole gives) + one_if (is_end (get_or gives whole Nothing))
ends_more gives whole there =
    let all = sum_by-append (λ x. one_if (is_end x)) (take whole gives) (get_or gives whole Nothing ∷ []) in
    let more = ap (count_by is_end) (take_more gives whole Nothing there) in
    more ∙ omega (arith, all)

take_none : (n : ℕ) → take {A = ℕ} n [] ≡ []
take_none zero = refl
take_none (suc n) = refl

-- a give without bytes was passed
pub passed : (gives : List Give) (whole offset : ℕ) (taken : List ℕ) (stalls failures : ℕ) (give : Give) →
    whole < length gives →
    get_or gives whole Nothing ≡ give →
    bytes_in give ≡ [] →
    memory_told gives (whole + 1) 0 taken stalls failures
    ≡ record (memory_told gives whole offset taken stalls failures) { ends = count_by is_end (take whole gives) + one_if (is_end give) }
passed gives whole offset taken stalls failures give there is empty = λ i. record {
  given = given i;
  ends = (ends_more gives whole there ∙ ap (λ x. count_by is_end (take whole gives) + one_if (is_end x)) is) i;
  taken = taken;
  stalls = stalls;
  failures = failures;
}
  where
    none : bytes_in (get_or gives whole Nothing) ≡ []
    none = ap bytes_in is ∙ empty

    given : flat_map bytes_in (take (whole + 1) gives) ++ take 0 (bytes_in (get_or gives (whole + 1) Nothing))
        ≡ flat_map bytes_in (take whole gives) ++ take offset (bytes_in (get_or gives whole Nothing))
    given =
        append-nil (flat_map bytes_in (take (whole + 1) gives))
        ∙ bytes_more gives whole there
        ∙ ap (λ bytes. flat_map bytes_in (take whole gives) ++ bytes)
        (none ∙ sym (take_none offset) ∙ ap (take offset) (sym none))

-- bytes were given, and more are left
pub given_some : (gives : List Give) (whole offset count : ℕ) (taken : List ℕ) (stalls failures : ℕ) (bytes given : List ℕ) →
    bytes_in (get_or gives whole Nothing) ≡ bytes →
    given ≡ take count (drop offset bytes) →
    record (memory_told gives whole offset taken stalls failures) {
      given = (memory_told gives whole offset taken stalls failures).given ++ given;
    }
    ≡ memory_told gives whole (offset + count) taken stalls failures
given_some gives whole offset count taken stalls failures bytes given is are =
    ap (λ all. record (memory_told gives whole offset taken stalls failures) { given = all }) (
    append_assoc (flat_map bytes_in (take whole gives)) (take offset now) given
    ∙ ap (λ all. flat_map bytes_in (take whole gives) ++ all) (
    ap (λ more. take offset now ++ more) (are ∙ ap (λ all. take count (drop offset all)) (sym is))
    ∙ sym (take-add offset count now)))
  where
    now : List ℕ
    now = bytes_in (get_or gives whole Nothing)

-- the rest was given
pub given_rest : (gives : List Give) (whole offset : ℕ) (taken : List ℕ) (stalls failures : ℕ) (bytes given : List ℕ) (give : Give) →
    whole < length gives →
    get_or gives whole Nothing ≡ give →
    bytes_in give ≡ bytes →
    is_end give ≡ false →
    given ≡ drop offset bytes →
    record (memory_told gives whole offset taken stalls failures) {
      given = (memory_told gives whole offset taken stalls failures).given ++ given;
    }
    ≡ memory_told gives (whole + 1) 0 taken stalls failures
given_rest gives whole offset taken stalls failures bytes given give there is holds no_end are = λ i. record {
  given = all i;
  ends = ends i;
  taken = taken;
  stalls = stalls;
  failures = failures;
}
  where
    now_is : bytes_in (get_or gives whole Nothing) ≡ bytes
    now_is = ap bytes_in is ∙ holds

    ends : count_by is_end (take whole gives) ≡ count_by is_end (take (whole + 1) gives)
    ends =
        let more = ends_more gives whole there in
        let none = ap (λ x. one_if (is_end x)) is ∙ ap one_if no_end in
        omega (arith, more, none)

    all : (flat_map bytes_in (take whole gives) ++ take offset (bytes_in (get_or gives whole Nothing))) ++ given
        ≡ flat_map bytes_in (take (whole + 1) gives) ++ take 0 (bytes_in (get_or gives (whole + 1) Nothing))
    all =
        append_assoc (flat_map bytes_in (take whole gives)) (take offset (bytes_in (get_or gives whole Nothing))) given
        ∙ ap (λ rest. flat_map bytes_in (take whole gives) ++ rest) (
        ap (λ rest. take offset (bytes_in (get_or gives whole Nothing)) ++ rest) (are ∙ ap (drop offset) (sym now_is))
        ∙ take-append-drop offset (bytes_in (get_or gives whole Nothing)))
        ∙ sym (bytes_more gives whole there)
        ∙ sym (append-nil (flat_map bytes_in (take (whole + 1) gives)))

plus_nothing : (n : ℕ) → n + 0 ≡ n
plus_nothing n = omega arith

-- a line that gave nothing
pub gave_nothing : (gives : List Give) (whole offset : ℕ) (taken : List ℕ) (stalls failures : ℕ) (so_far : Told) →
    whole < length gives →
    get_or gives whole Nothing ≡ Nothing →
    so_far ≡ memory_told gives whole offset taken stalls failures →
    so_far ≡ memory_told gives (whole + 1) 0 taken stalls failures
gave_nothing gives whole offset taken stalls failures so_far there is told =
    told
    ∙ (λ i. record (memory_told gives whole offset taken stalls failures) { ends = sym (plus_nothing (count_by is_end (take whole gives))) i })
    ∙ sym (passed gives whole offset taken stalls failures Nothing there is refl)

-- a line that ended
pub told_end : (gives : List Give) (whole offset : ℕ) (taken : List ℕ) (stalls failures : ℕ) (so_far : Told) →
    whole < length gives →
    get_or gives whole Nothing ≡ Ended →
    so_far ≡ memory_told gives whole offset taken stalls failures →
    record so_far { ends = so_far.ends + 1 } ≡ memory_told gives (whole + 1) 0 taken stalls failures
told_end gives whole offset taken stalls failures so_far there is told =
    ap (λ (t : Told). record t { ends = t.ends + 1 }) told ∙ sym (passed gives whole offset taken stalls failures Ended there is refl)

-- a line that failed
pub told_failure : (gives : List Give) (whole offset : ℕ) (taken : List ℕ) (stalls failures : ℕ) (so_far : Told) →
    whole < length gives →
    get_or gives whole Nothing ≡ Failed →
    so_far ≡ memory_told gives whole offset taken stalls failures →
    with_failure so_far ≡ memory_told gives (whole + 1) 0 taken stalls (failures + 1)
told_failure gives whole offset taken stalls failures so_far there is told =
    ap with_failure told
    ∙ (λ i. record (memory_told gives whole offset taken stalls (failures + 1)) { ends = sym (plus_nothing (count_by is_end (take whole gives))) i })
    ∙ sym (passed gives whole offset taken stalls (failures + 1) Failed there is refl)

-- all of a list
pub take_most : (bytes : List ℕ) (count room : ℕ) → count ≡ min (length bytes) room → length bytes ≤ count → take count bytes ≡ bytes
take_most bytes count room is all = take_all count bytes all

-- the give at hand
pub give_at : {gives items : List Give} {found give : Give} (whole : ℕ) (default : Give) →
    found ≡ get_or items whole default → items ≡ gives → found ≡ give → get_or gives whole default ≡ give
give_at whole default first list is = sym (first ∙ ap (λ items. get_or items whole default) list) ∙ is

-- a poll that gives a part of the bytes at hand, and one that gives the rest of them
module _ (gives : List Give) (whole offset n : ℕ) (buffer rest : List ℕ) (give : Give) (is : get_or gives whole Nothing ≡ give)
    (has : is_bytes give ≡ true) (from : rest ≡ drop offset (bytes_in give)) (most : n ≡ min (length rest) (length buffer))
    (copied : take n buffer ≡ take n rest) where
  pub part_given : n < length rest → GivesNext gives whole offset (Got n) buffer whole (offset + n)
  part_given short =
      gives_part (ap is_bytes is ∙ has) rest (from ∙ ap (λ one. drop offset (bytes_in one)) (sym is)) (omega (arith, most, short)) short copied

  pub rest_given : length rest ≤ n → GivesNext gives whole offset (Got n) buffer (whole + 1) 0
  rest_given all =
      gives_rest (ap is_bytes is ∙ has) rest (from ∙ ap (λ one. drop offset (bytes_in one)) (sym is)) (omega (arith, most, all))
      (copied ∙ take_most rest n (length buffer) most all)
