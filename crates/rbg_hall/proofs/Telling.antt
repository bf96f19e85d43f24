-- What each line has, as more is queued, and as it is taken back.
use Rattle.rbg_base.proofs.Common.{◌≡◌, ◌≢◌, ℕ, zero, suc, ◌+◌, ◌<◌, ◌≤◌, List, [], ◌∷◌, ◌++◌, length, map, take, get_or, set, refl, sym, ap, ◌∙◌, subst, arith, append_assoc, Vec, Result, Ok, Err, Option, OnOk, is_ok, if◌then◌else◌, take-append_seam}
use Rattle.std.proofs.lemmas.List.{append-nil, set-get_or, get_or-set_same, get_or-map, map-set, length-map}
use Rattle.std.proofs.lemmas.List.Concat.{flat_map-append}
use Rattle.std.proofs.lemmas.Bool.{eq-eqb, ne_eqb}
use Rattle.rbg_hall.proofs.TableCommon.{Telling, bytes_to, told_from, told_to, telling, told_on, to_lines, QueueMark, cut_back, undone}

-- what one queue has, where each of them gets more by its number
pub extended_at : (more : ℕ → List ℕ) (extended : ℕ → List (List ℕ) → List (List ℕ)) → ((number : ℕ) (queue : List ℕ) (others : List (List ℕ)) → extended number (queue ∷ others) ≡ (queue ++ more number) ∷ extended (suc number) others) → (first : ℕ) (queues : List (List ℕ)) (index : ℕ) → index < length queues → get_or (extended first queues) index [] ≡ get_or queues index [] ++ more (first + index)
extended_at more extended step first [] index within = absurd (omega arith)
extended_at more extended step first (queue ∷ others) zero within =
    ap (λ all. get_or all 0 []) (step first queue others) ∙ ap (λ number. queue ++ more number) here
  where
    here : first ≡ first + 0
    here = omega arith
extended_at more extended step first (queue ∷ others) (suc index) within =
    ap (λ all. get_or all (suc index) []) (step first queue others)
    ∙ (extended_at more extended step (suc first) others index (omega arith) ∙ ap (λ number. get_or others index [] ++ more number) further)
  where
    further : suc first + index ≡ first + suc index
    further = omega arith

pub bytes_to-append : (line : ℕ) (a b : List Telling) → bytes_to line (a ++ b) ≡ bytes_to line a ++ bytes_to line b
bytes_to-append line a b = flat_map-append _ a b

told_from-append : (line : ℕ) (queues : List (List ℕ)) (a b : List Telling) → told_from line (told_from line queues a) b ≡ told_from line queues (a ++ b)
told_from-append line [] a b = refl
told_from-append line (bytes ∷ others) a b = rw (told_from-append (suc line) others a b, bytes_to-append line a b, append_assoc) refl

-- what is told in two goes is told in one
pub told_to-append : (queues : List (List ℕ)) (a b : List Telling) → told_to (told_to queues a) b ≡ told_to queues (a ++ b)
told_to-append queues a b = told_from-append 0 queues a b

told_from-none : (line : ℕ) (queues : List (List ℕ)) → told_from line queues [] ≡ queues
told_from-none line [] = refl
told_from-none line (bytes ∷ others) = rw (told_from-none (suc line) others, append-nil bytes) refl

pub told_to-none : (queues : List (List ℕ)) → told_to queues [] ≡ queues
told_to-none queues = told_from-none 0 queues

length-told_from : (line : ℕ) (queues : List (List ℕ)) (told : List Telling) → length (told_from line queues told) ≡ length queues
length-told_from line [] told = refl
length-told_from line (bytes ∷ others) told = ap suc (length-told_from (suc line) others told)

pub length-told_to : (queues : List (List ℕ)) (told : List Telling) → length (told_to queues told) ≡ length queues
length-told_to queues told = length-told_from 0 queues told

-- the bytes for one line, for it and for another
pub bytes_to-same : (line : ℕ) (bytes : List ℕ) → bytes_to line (telling line bytes) ≡ bytes
bytes_to-same line bytes = rw (eq-eqb line line refl) (append-nil bytes)

pub bytes_to-other : (line other : ℕ) (bytes : List ℕ) → other ≢ line → bytes_to line (telling other bytes) ≡ []
bytes_to-other line other bytes differ = rw (ne_eqb other line differ) refl

-- bytes for a line before these, and for one after them
told_from-before : (first : ℕ) (queues : List (List ℕ)) (line : ℕ) (bytes : List ℕ) → line < first → told_from first queues (telling line bytes) ≡ queues
told_from-before first [] line bytes before = refl
told_from-before first (queue ∷ others) line bytes before =
    let differ : line ≢ first = omega arith in
    let later : line < suc first = omega arith in
    rw (bytes_to-other first line bytes differ, told_from-before (suc first) others line bytes later, append-nil queue) refl

told_from-past : (first : ℕ) (queues : List (List ℕ)) (line : ℕ) (bytes : List ℕ) → first + length queues ≤ line → told_from first queues (telling line bytes) ≡ queues
told_from-past first [] line bytes past = refl
told_from-past first (queue ∷ others) line bytes past =
    let differ : line ≢ first = omega arith in
    rw (bytes_to-other first line bytes differ, told_from-past (suc first) others line bytes (omega arith), append-nil queue) refl

told_from-one : (first : ℕ) (queues : List (List ℕ)) (index : ℕ) (bytes : List ℕ) → index < length queues → told_from first queues (telling (first + index) bytes) ≡ set queues index (get_or queues index [] ++ bytes)
told_from-one first [] index bytes within = absurd (omega arith)
told_from-one first (queue ∷ others) zero bytes within =
    let here : first + 0 ≡ first = omega arith in
    let before : first < suc first = omega arith in
    rw (here, bytes_to-same first bytes, told_from-before (suc first) others first bytes before) refl
told_from-one first (queue ∷ others) (suc index) bytes within =
    let further : first + suc index ≡ suc first + index = omega arith in
    let differ : suc first + index ≢ first = omega arith in
    rw (further, bytes_to-other first (suc first + index) bytes differ, append-nil queue, told_from-one (suc first) others index bytes (omega arith)) refl

-- bytes for a line stand after what it has
pub told_to-one : (queues : List (List ℕ)) (line : ℕ) (bytes : List ℕ) → line < length queues → told_to queues (telling line bytes) ≡ set queues line (get_or queues line [] ++ bytes)
told_to-one queues line bytes within =
    let same : 0 + line ≡ line = omega arith in
    subst (λ number. told_from 0 queues (telling number bytes) ≡ set queues line (get_or queues line [] ++ bytes)) same (told_from-one 0 queues line bytes within)

-- there is no such line
pub told_to-past : (queues : List (List ℕ)) (line : ℕ) (bytes : List ℕ) → length queues ≤ line → told_to queues (telling line bytes) ≡ queues
told_to-past queues line bytes past = told_from-past 0 queues line bytes (omega (arith, past))

-- the last mark is undone first
pub undone-more : (queues : List (List ℕ)) (marks : List QueueMark) (mark : QueueMark) → undone queues (marks ++ mark ∷ []) ≡ undone (cut_back queues mark) marks
undone-more queues [] mark = refl
undone-more queues (first ∷ marks) mark = ap (λ later. cut_back later first) (undone-more queues marks mark)

set-set : {X : Type 0} (xs : List X) (i : ℕ) (x y : X) → set (set xs i x) i y ≡ set xs i y
set-set [] i x y = refl
set-set (z ∷ xs) zero x y = refl
set-set (z ∷ xs) (suc i) x y = ap (λ others. z ∷ others) (set-set xs i x y)

-- a queue that grew is cut back to what it was
pub cut_back-grown : (queues : List (List ℕ)) (mark : QueueMark) (bytes : List ℕ) → mark.line < length queues → mark.len ≡ length (get_or queues mark.line []) → cut_back (set queues mark.line (get_or queues mark.line [] ++ bytes)) mark ≡ queues
cut_back-grown queues mark bytes within is =
    let had : List ℕ = get_or queues mark.line [] in
    rw (get_or-set_same queues mark.line (had ++ bytes) [] within, is, take-append_seam had bytes, set-set queues mark.line (had ++ bytes) had) (set-get_or queues mark.line [])

pub cut_back-same : (queues : List (List ℕ)) (mark : QueueMark) → mark.line < length queues → mark.len ≡ length (get_or queues mark.line []) → cut_back queues mark ≡ queues
cut_back-same queues mark within is =
    let had : List ℕ = get_or queues mark.line [] in
    let whole : take (length had) had ≡ had = ap (λ xs. take (length had) xs) (sym (append-nil had)) ∙ take-append_seam had [] in
    rw (is, whole) (set-get_or queues mark.line [])

-- the same of vectors of bytes, of which one grows
module _ {Z : Type 0} (queues : List (Vec ℕ Z)) (line : ℕ) (was is : Vec ℕ Z) (within : line < length queues) (found : was ≡ get_or queues line was) where
  abbrev pub items : Vec ℕ Z → List ℕ
  items queue = queue.items

  had : get_or (map items queues) line [] ≡ was.items
  had = get_or-map items queues line was [] within ∙ ap items (sym found)

  within_all : line < length (map items queues)
  within_all = rw (length-map queues items) within

  grown : (bytes : List ℕ) → is.items ≡ was.items ++ bytes → map items (set queues line is) ≡ set (map items queues) line (get_or (map items queues) line [] ++ bytes)
  grown bytes more = map-set items queues line is ∙ ap (λ one. set (map items queues) line one) (more ∙ ap (λ front. front ++ bytes) (sym had))

  pub appended : {E : Type 0} (bytes : List ℕ) (result : Result (Unit {0}) E) → is.items ≡ (if is_ok result then was.items ++ bytes else was.items) → OnOk result (map items (set queues line is) ≡ told_to (map items queues) (telling line bytes))
  appended bytes (Ok done) more = grown bytes more ∙ sym (told_to-one (map items queues) line bytes within_all)
  appended bytes (Err error) more = tt

  cut_again : (mark : QueueMark) → mark.line ≡ line → mark.len ≡ length was.items → (bytes : List ℕ) → is.items ≡ was.items ++ bytes → cut_back (map items (set queues line is)) mark ≡ map items queues
  cut_again mark at len bytes more =
      let whole : set (map items queues) line (get_or (map items queues) line [] ++ bytes) ≡ set (map items queues) mark.line (get_or (map items queues) mark.line [] ++ bytes) = rw at refl in
      let there : mark.line < length (map items queues) = rw at within_all in
      let long : mark.len ≡ length (get_or (map items queues) mark.line []) = rw (at, had) len in
      ap (λ one. cut_back one mark) (grown bytes more ∙ whole) ∙ cut_back-grown (map items queues) mark bytes there long

  pub append_undone : {E : Type 0} (bytes : List ℕ) (result : Result (Unit {0}) E) (marks news : List QueueMark) (mark : QueueMark) → is.items ≡ (if is_ok result then was.items ++ bytes else was.items) → mark.line ≡ line → mark.len ≡ length was.items → news ≡ marks ++ mark ∷ [] → undone (map items (set queues line is)) news ≡ undone (map items queues) marks
  append_undone bytes (Ok done) marks news mark more at len pushed =
      ap (undone (map items (set queues line is))) pushed ∙ undone-more (map items (set queues line is)) marks mark ∙ ap (λ one. undone one marks) (cut_again mark at len bytes more)
  append_undone bytes (Err error) marks news mark more at len pushed =
      ap (undone (map items (set queues line is))) pushed ∙ undone-more (map items (set queues line is)) marks mark ∙ ap (λ one. undone one marks) (cut_again mark at len [] (more ∙ sym (append-nil was.items)))

  -- one is cut back
  pub cut_one : (mark : QueueMark) → mark.line ≡ line → is.items ≡ take mark.len was.items → map items (set queues line is) ≡ cut_back (map items queues) mark
  cut_one mark at less =
      let same : set (map items queues) line (take mark.len (get_or (map items queues) line [])) ≡ cut_back (map items queues) mark = rw at refl in
      map-set items queues line is ∙ ap (λ one. set (map items queues) line one) (less ∙ ap (take mark.len) (sym had)) ∙ same

-- the bytes of one more seat
pub to_lines-more : (seats : List (Option ℕ)) (queues : List (List ℕ)) (index : ℕ) (seat : Option ℕ) → length seats ≡ length queues → index < length seats → to_lines (take (index + 1) seats) queues ≡ to_lines (take index seats) queues ++ told_on (get_or seats index seat) (get_or queues index [])
to_lines-more [] queues index seat same within = absurd (omega arith)
to_lines-more (one ∷ seats) [] index seat same within = absurd (omega arith)
to_lines-more (one ∷ seats) (bytes ∷ queues) zero seat same within = append-nil (told_on one bytes)
to_lines-more (one ∷ seats) (bytes ∷ queues) (suc index) seat same within =
    let further : suc index + 1 ≡ suc (index + 1) = omega arith in
    rw further (ap (λ rest. told_on one bytes ++ rest) (to_lines-more seats queues index seat (omega (arith, same)) (omega (arith, within)))
    ∙ sym (append_assoc (told_on one bytes) (to_lines (take index seats) queues) (told_on (get_or seats index seat) (get_or queues index []))))

-- the step of a loop over the seats
pub told_more : (initial middle new : List (List ℕ)) (seats : List (Option ℕ)) (queues : List (List ℕ)) (index : ℕ) (seat : Option ℕ) → length seats ≡ length queues → index < length seats → middle ≡ told_to initial (to_lines (take index seats) queues) → new ≡ told_to middle (told_on (get_or seats index seat) (get_or queues index [])) → new ≡ told_to initial (to_lines (take (index + 1) seats) queues)
told_more initial middle new seats queues index seat same within before after =
    after
    ∙ ap (λ one. told_to one (told_on (get_or seats index seat) (get_or queues index []))) before
    ∙ told_to-append initial (to_lines (take index seats) queues) (told_on (get_or seats index seat) (get_or queues index []))
    ∙ ap (told_to initial) (sym (to_lines-more seats queues index seat same within))
