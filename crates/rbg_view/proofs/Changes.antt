-- What has changed between two lists.
use Rattle.rbg_base.proofs.Common.{◌≡◌, ℕ, suc, ◌+◌, ◌<◌, Bool, true, false, List, [], ◌∷◌, ◌++◌, length, take, Some, slice_get, get_or, if◌then◌else◌, refl, ap, sym, ◌∙◌, append_assoc, append-nil, arith, ◌==◌, flat_map, slice_get_within, slice_get-get_or}
use Rattle.std.proofs.lemmas.List.{length-append, length-take-le, set_at}
use Rattle.std.proofs.lemmas.List.Concat.{flat_map-append}
use Rattle.std.proofs.lemmas.Bool.{eqb-true}
use Rattle.rbg_view.specs.Places.{change_at, change_text, changed, changes_from, changes_text}
use Rattle.rbg_view.proofs.Writing.{take_next}

-- the changes of two lists with one item more
changes_push : (index : ℕ) (before after : List ℕ) (x y : ℕ) → length before ≡ length after → changes_from index (before ++ x ∷ []) (after ++ y ∷ []) ≡ changes_from index before after ++ change_at (index + length before) x y
changes_push index [] [] x y same = let here : index + 0 ≡ index = omega arith in rw here (append-nil (change_at index x y))
changes_push index [] (b ∷ after) x y same = absurd (omega (arith, same))
changes_push index (a ∷ before) [] x y same = absurd (omega (arith, same))
changes_push index (a ∷ before) (b ∷ after) x y same =
    let there : index + suc (length before) ≡ (index + 1) + length before = omega arith in
    rw there
    (ap (λ rest. change_at index a b ++ rest) (changes_push (index + 1) before after x y (omega (arith, same)))
    ∙ sym (append_assoc (change_at index a b) (changes_from (index + 1) before after) (change_at ((index + 1) + length before) x y)))

-- the text of the changes so far, and of the next one
pub changes_more : (old mid new before after : List ℕ) (i x y : ℕ) → length before ≡ length after → mid ≡ old ++ changes_text (take i before) (take i after) → slice_get before i ≡ Some x → slice_get after i ≡ Some y → new ≡ mid ++ flat_map change_text (change_at i x y) → new ≡ old ++ changes_text (take (i + 1) before) (take (i + 1) after)
changes_more old mid new before after i x y same so_far x_at y_at written =
    let within : i < length before = slice_get_within before i x x_at in
    let short : length (take i before) ≡ i = length-take-le i before (omega (arith, within)) in
    let short' : length (take i after) ≡ i = length-take-le i after (omega (arith, within, same)) in
    let alike : length (take i before) ≡ length (take i after) = short ∙ sym short' in
    let count : 0 + length (take i before) ≡ i = omega (arith, short) in
    let pushed : changes_from 0 (take (i + 1) before) (take (i + 1) after) ≡ changes_from 0 (take i before) (take i after) ++ change_at i x y =
    (λ k. changes_from 0 (take_next before i x x_at k) (take_next after i y y_at k))
    ∙ (changes_push 0 (take i before) (take i after) x y alike ∙ ap (λ n. changes_from 0 (take i before) (take i after) ++ change_at n x y) count) in
    let told : changes_text (take (i + 1) before) (take (i + 1) after) ≡ changes_text (take i before) (take i after) ++ flat_map change_text (change_at i x y) =
    ap (flat_map change_text) pushed ∙ flat_map-append change_text (changes_from 0 (take i before) (take i after)) (change_at i x y) in
    written
    ∙ (ap (λ m. m ++ flat_map change_text (change_at i x y)) so_far
    ∙ (append_assoc old (changes_text (take i before) (take i after)) (flat_map change_text (change_at i x y)) ∙ ap (λ t. old ++ t) (sym told)))

pub changes_step : (old mid new before after : List ℕ) (i x y : ℕ) → length before ≡ length after → i < length after → mid ≡ old ++ changes_text (take i before) (take i after) → x ≡ get_or before i 0 → y ≡ get_or after i 0 → new ≡ mid ++ flat_map change_text (change_at i x y) → new ≡ old ++ changes_text (take (i + 1) before) (take (i + 1) after)
changes_step old mid new before after i x y same within so_far x_is y_is written =
    changes_more old mid new before after i x y same so_far
    (slice_get-get_or before i 0 (omega (arith, same, within)) ∙ ap Some (sym x_is))
    (slice_get-get_or after i 0 within ∙ ap Some (sym y_is))
    written

-- an item that is the same, and one that is another
changed_by : (front before : List ℕ) (x y : ℕ) (changes : List (ℕ × ℕ)) (same : Bool) → (same ≡ true → x ≡ y) → changed (front ++ x ∷ before) ((if same then [] else (length front, y) ∷ []) ++ changes) ≡ changed (front ++ y ∷ before) changes
changed_by front before x y changes true is = ap (λ z. changed (front ++ z ∷ before) changes) (is refl)
changed_by front before x y changes false is = ap (λ zs. changed zs changes) (set_at front x before y (length front) refl)

changed_one : (front before : List ℕ) (x y : ℕ) (changes : List (ℕ × ℕ)) → changed (front ++ x ∷ before) (change_at (length front) x y ++ changes) ≡ changed (front ++ y ∷ before) changes
changed_one front before x y changes = changed_by front before x y changes (x == y) (eqb-true x y)

lead_from : (front before after : List ℕ) → length before ≡ length after → changed (front ++ before) (changes_from (length front) before after) ≡ front ++ after
lead_from front [] [] same = refl
lead_from front [] (y ∷ after) same = absurd (omega (arith, same))
lead_from front (x ∷ before) [] same = absurd (omega (arith, same))
lead_from front (x ∷ before) (y ∷ after) same =
    let longer : length (front ++ y ∷ []) ≡ length front + 1 = length-append front (y ∷ []) in
    let rest : changed ((front ++ y ∷ []) ++ before) (changes_from (length (front ++ y ∷ [])) before after) ≡ (front ++ y ∷ []) ++ after = lead_from (front ++ y ∷ []) before after (omega (arith, same)) in
    let moved : changed (front ++ y ∷ before) (changes_from (length front + 1) before after) ≡ front ++ y ∷ after =
    sym (λ k. changed (append_assoc front (y ∷ []) before k) (changes_from (longer k) before after)) ∙ (rest ∙ append_assoc front (y ∷ []) after) in
    changed_one front before x y (changes_from (length front + 1) before after) ∙ moved

pub lead_on : (before after : List ℕ) → length before ≡ length after → changed before (changes_from 0 before after) ≡ after
lead_on before after same = lead_from [] before after same
