-- What each seat had is taken back by how long it was.
use Rattle.rbg_base.proofs.Common.{◌≡◌, ◌≢◌, ℕ, zero, suc, ◌+◌, ◌<◌, List, [], ◌∷◌, ◌++◌, length, map, take, get_or, set, refl, sym, ap, ◌∙◌, arith, inl, inr, Vec, cases_lt, take-append_seam}
use Rattle.std.proofs.lemmas.List.{ext_get_or, get_or-map, length-map, get_or-set_same, get_or-set_other}
use Rattle.rbg_match.specs.Deliveries.{AreMarks, Delivery, bytes_for, delivered_from, delivered}
use Rattle.rbg_match.proofs.Delivering.{length-delivered}

-- what one seat has then
get_or-delivered_from : (first : ℕ) (outbox : List (List ℕ)) (outgoing : List Delivery) (i : ℕ) → i < length outbox → get_or (delivered_from first outbox outgoing) i [] ≡ get_or outbox i [] ++ bytes_for (first + i) outgoing
get_or-delivered_from first [] outgoing i within = absurd (omega arith)
get_or-delivered_from first (bytes ∷ others) outgoing zero within = let same : first + 0 ≡ first = omega arith in rw same refl
get_or-delivered_from first (bytes ∷ others) outgoing (suc i) within =
    let same : first + suc i ≡ suc first + i = omega arith in
    rw same (get_or-delivered_from (suc first) others outgoing i (omega arith))

-- one more mark
pub mark_more : {Z : Type 0} (marks : List ℕ) (queues : List (Vec ℕ Z)) (index mark : ℕ) → index < length marks → ((d : Vec ℕ Z) → mark ≡ length (get_or queues index d).items) → ((i : ℕ) (d : Vec ℕ Z) → i < index → get_or marks i 0 ≡ length (get_or queues i d).items) → (i : ℕ) (d : Vec ℕ Z) → i < index + 1 → get_or (set marks index mark) i 0 ≡ length (get_or queues i d).items
mark_more marks queues index mark room here earlier i d below =
    elim (cases_lt i index) [
      | inl before ↦ let other : i ≢ index = omega arith in rw get_or-set_other (earlier i d before)
      | inr after ↦ let same : i ≡ index = omega arith in rw (same, get_or-set_same marks index mark 0 room) (here d)
    ]

-- the marks of the vectors are those of what they hold
pub marks_of_items : {Z : Type 0} (queues : List (Vec ℕ Z)) (marks : List ℕ) → ((i : ℕ) (d : Vec ℕ Z) → i < length queues → get_or marks i 0 ≡ length (get_or queues i d).items) → AreMarks (map (λ queue. queue.items) queues) marks
marks_of_items [] marks are i within = absurd (omega arith)
marks_of_items {Z} (queue ∷ queues) marks are i within =
    let items : Vec ℕ Z → List ℕ = λ one. one.items in
    let there : i < length (queue ∷ queues) = rw (length-map (queue ∷ queues) items) at within in
    are i queue there ∙ ap length (sym (get_or-map items (queue ∷ queues) i queue [] there))

-- the fronts by the marks are what each seat had
pub taken_back : {Z : Type 0} (old new : List (Vec ℕ Z)) (marks : List ℕ) (before : List (List ℕ)) (outgoing : List Delivery) → length new ≡ length old → ((i : ℕ) (d : Vec ℕ Z) → i < length old → (get_or new i d).items ≡ take (get_or marks i 0) (get_or old i d).items) → map (λ queue. queue.items) old ≡ delivered before outgoing → AreMarks before marks → map (λ queue. queue.items) new ≡ before
taken_back {Z} old new marks before outgoing same_length cut beyond are =
    let items : Vec ℕ Z → List ℕ = λ one. one.items in
    let seats : length old ≡ length before = sym (length-map old items) ∙ ap length beyond ∙ length-delivered before outgoing in
    ext_get_or [] (map items new) before (length-map new items ∙ same_length ∙ seats)
    (λ i within.
    let in_new : i < length new = rw (length-map new items) at within in
    let in_old : i < length old = omega arith in
    let in_before : i < length before = omega arith in
    taken_at old new marks before outgoing cut beyond are i in_new in_old in_before)
  where
    taken_at : (old new : List (Vec ℕ Z)) (marks : List ℕ) (before : List (List ℕ)) (outgoing : List Delivery) → ((i : ℕ) (d : Vec ℕ Z) → i < length old → (get_or new i d).items ≡ take (get_or marks i 0) (get_or old i d).items) → map (λ queue. queue.items) old ≡ delivered before outgoing → AreMarks before marks → (i : ℕ) → i < length new → i < length old → i < length before → get_or (map (λ queue. queue.items) new) i [] ≡ get_or before i []
    taken_at old [] marks before outgoing cut beyond are i in_new in_old in_before = absurd (omega arith)
    taken_at old (queue ∷ new) marks before outgoing cut beyond are i in_new in_old in_before =
        let items : Vec ℕ Z → List ℕ = λ one. one.items in
        let had : (get_or old i queue).items ≡ get_or before i [] ++ bytes_for (1 + i) outgoing =
        sym (get_or-map items old i queue [] in_old) ∙ ap (λ outbox. get_or outbox i []) beyond ∙ get_or-delivered_from 1 before outgoing i in_before in
        get_or-map items (queue ∷ new) i queue [] in_new ∙ cut i queue in_old ∙ rw (had, are i in_before) (take-append_seam (get_or before i []) (bytes_for (1 + i) outgoing))
