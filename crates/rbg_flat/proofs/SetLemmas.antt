-- How sets change where a word is met, and where bits are closed.
use Rattle.rbg_base.proofs.Common.{◌≡◌, ℕ, ◌+◌, ◌-◌, ◌*◌, ◌%◌, ◌<◌, ◌≤◌, ◌^◌, ◌⊎◌, inl, inr, List, length, get_or, refl, sym, ap, subst, ◌∙◌, slice_set, arith, bit_or, bit_and, bit_at, bit_not, w64, bit_at-zero, and_le_l, sum_by-set, sum_by}
use Rattle.std.proofs.lemmas.List.{length-set}
use Rattle.rbg_flat.proofs.Common.{SetsOfVertices, sets_of, HasBitAt, IsInWord, MeetsWord, ClosesWord, AreSetsByPlace}
use Rattle.rbg_flat.proofs.WordLemmas.{added_to, added_old, added_new, taken_of, taken_gone, taken_left, known_or_new, new_in_word, or_at_most, less_left, of_word}

-- A word in column c of the row of position q, at its place. The sets are seen as `old`, and are now.
module _
    {old now : SetsOfVertices} (view : old ≡ now) (are : AreSetsByPlace old)
    (place q c : ℕ)
    (at : place ≡ q * now.columns + c)
    (column : c < now.columns)
    (there : place < length now.marks)
  where
    abbrev size : ℕ
    size = old.size

    abbrev columns : ℕ
    columns = old.columns

    abbrev marks : List ℕ
    marks = old.marks

    abbrev pending : List ℕ
    pending = old.pending

    is : place ≡ q * columns + c
    is = subst (λ (s : SetsOfVertices). place ≡ q * s.columns + c) (sym view) at

    below : c < columns
    below = subst (λ (s : SetsOfVertices). c < s.columns) (sym view) column

    in_marks : place < length marks
    in_marks = subst (λ (s : SetsOfVertices). place < length s.marks) (sym view) there

    in_pending : place < length pending
    in_pending = subst (λ (m : ℕ). place < m) (are.marks ∙ sym are.pendings) in_marks

    -- Its bits x are met, where it read r; n is what is new of them, and k what of that is to be opened.
    module _
        (x r n k opens : ℕ)
        (read : r ≡ get_or marks place 0)
        (only : (b : ℕ) → bit_at n b ≡ 1 → bit_at x b ≡ 1)
        (new_or_read : (b : ℕ) → b < 64 → bit_at x b ≡ 1 → (bit_at r b ≡ 1) ⊎ (bit_at n b ≡ 1))
        (opened_new : (b : ℕ) → bit_at k b ≡ 1 → bit_at n b ≡ 1)
        (opened : (b : ℕ) → bit_at k b ≡ 1 → bit_at opens b ≡ 1)
        (all_opened : (b : ℕ) → bit_at n b ≡ 1 → bit_at opens b ≡ 1 → bit_at k b ≡ 1)
        (few : k ≤ n)
      where
        all : (b : ℕ) → b < 64 → bit_at x b ≡ 1 → (bit_at (get_or marks place 0) b ≡ 1) ⊎ (bit_at n b ≡ 1)
        all = subst (λ (m : ℕ). (b : ℕ) → b < 64 → bit_at x b ≡ 1 → (bit_at m b ≡ 1) ⊎ (bit_at n b ≡ 1)) read new_or_read

        abbrev marks_then : List ℕ
        marks_then = slice_set marks place (bit_or (get_or marks place 0) n)

        abbrev pending_then : List ℕ
        pending_then = slice_set pending place (bit_or (get_or pending place 0) k)

        met_then : (v p : ℕ) → IsInWord q c x v p → HasBitAt columns marks_then v p
        met_then v p there = by_case (known_or_new columns marks place q c is below in_marks x n v p all there)
          where
            by_case : HasBitAt columns marks v p ⊎ IsInWord q c n v p → HasBitAt columns marks_then v p
            by_case (inl was) = added_old columns marks place q c is below in_marks n v p was
            by_case (inr new) = added_new columns marks place q c is below in_marks n v p new

        -- Marks take something off.
        marks_less : bit_or r n ≡ r + n → r + n < 2 ^ 64 → sum_by (λ (m : ℕ). 2 ^ 64 - m) marks_then + n ≡ sum_by (λ (m : ℕ). 2 ^ 64 - m) marks
        marks_less sum_read fits_read =
            let sum = subst (λ (m : ℕ). bit_or m n ≡ m + n) read sum_read in
            let fits = subst (λ (m : ℕ). m + n < 2 ^ 64) read fits_read in
            let put = sum_by-set (λ (m : ℕ). 2 ^ 64 - m) marks place (bit_or (get_or marks place 0) n) 0 in_marks in
            omega (arith, put, sum, fits)

        pending_more : sum_by (λ (m : ℕ). m) pending_then ≤ sum_by (λ (m : ℕ). m) pending + k
        pending_more =
            let put = sum_by-set (λ (m : ℕ). m) pending place (bit_or (get_or pending place 0) k) 0 in_pending in
            let most = or_at_most (get_or pending place 0) k in
            omega (arith, put, most)

        -- What is to be opened is new.
        new_opened : (v p : ℕ) → IsInWord q c k v p → IsInWord q c n v p
        new_opened v p there = record { position = there.position; column = there.column; set = opened_new (v % 64) there.set }

        to_open : (v p : ℕ) → IsInWord q c n v p → bit_at opens (v % 64) ≡ 1 → IsInWord q c k v p
        to_open v p new set = record { position = new.position; column = new.column; set = all_opened (v % 64) new.set set }

        -- Something is opened.
        pub meets_open : (waiting' touched' : List ℕ) → ((b : ℕ) → bit_at n b ≡ 1 → bit_at r b ≡ 0) → bit_or r n ≡ r + n → r + n < 2 ^ 64 → MeetsWord now (sets_of size columns marks_then pending_then waiting' touched') q c x opens
        meets_open waiting' touched' fresh sum fits = subst (λ (s : SetsOfVertices). MeetsWord s (sets_of size columns marks_then pending_then waiting' touched') q c x opens) view (record {
          size = refl;
          columns = refl;
          kept = added_old columns marks place q c is below in_marks n;
          met = met_then;
          only = λ v p has. by_marks v p (added_to columns marks place q c is below in_marks n v p has);
          still = added_old columns pending place q c is below in_pending k;
          no_other = λ v p has. by_pending v p (added_to columns pending place q c is below in_pending k v p has);
          lighter =
              let less = marks_less sum fits in
              let more = pending_more in
              omega (arith, less, more, few);
        })
          where
            by_marks : (v p : ℕ) → HasBitAt columns marks v p ⊎ IsInWord q c n v p → HasBitAt columns marks v p ⊎ (IsInWord q c x v p × (bit_at opens (v % 64) ≡ 1 → HasBitAt columns pending_then v p))
            by_marks v p (inl was) = inl was
            by_marks v p (inr new) = inr (new_in_word q c x n v p only new, λ set. added_new columns pending place q c is below in_pending k v p (to_open v p new set))

            not_both : {k : ℕ} → k ≡ 0 → k ≡ 1 → ⊥
            not_both none one = omega (arith, none, one)

            unknown : (v p : ℕ) → IsInWord q c n v p → ¬ HasBitAt columns marks v p
            unknown v p new has = not_both (ap (λ (m : ℕ). bit_at m (v % 64)) (sym read) ∙ fresh (v % 64) new.set) (sym (ap (λ (k : ℕ). bit_at (get_or marks k 0) (v % 64)) (of_word columns marks place q c is below in_marks n v p new)) ∙ has.set)

            by_pending : (v p : ℕ) → HasBitAt columns pending v p ⊎ IsInWord q c k v p → HasBitAt columns pending v p ⊎ (IsInWord q c x v p × (bit_at opens (v % 64) ≡ 1) × (¬ HasBitAt columns marks v p))
            by_pending v p (inl was) = inl was
            by_pending v p (inr there) =
                let new = new_opened v p there in
                inr (new_in_word q c x n v p only new, opened (v % 64) there.set, unknown v p new)

        -- Nothing is opened.
        pub meets_closed : (touched' : List ℕ) → k ≡ 0 → bit_or r n ≡ r + n → r + n < 2 ^ 64 → MeetsWord now (sets_of size columns marks_then pending old.waiting touched') q c x opens
        meets_closed touched' nothing sum fits = subst (λ (s : SetsOfVertices). MeetsWord s (sets_of size columns marks_then pending old.waiting touched') q c x opens) view (record {
          size = refl;
          columns = refl;
          kept = added_old columns marks place q c is below in_marks n;
          met = met_then;
          only = λ v p has. by_marks v p (added_to columns marks place q c is below in_marks n v p has);
          still = λ v p has. has;
          no_other = λ v p has. inl has;
          lighter = let less = marks_less sum fits in omega (arith, less);
        })
          where
            no_bit : (b : ℕ) → bit_at k b ≡ 1 → ⊥
            no_bit b set = let zero_bit : bit_at k b ≡ 0 = ap (λ (m : ℕ). bit_at m b) nothing ∙ bit_at-zero b in omega (arith, set, zero_bit)

            by_marks : (v p : ℕ) → HasBitAt columns marks v p ⊎ IsInWord q c n v p → HasBitAt columns marks v p ⊎ (IsInWord q c x v p × (bit_at opens (v % 64) ≡ 1 → HasBitAt columns pending v p))
            by_marks v p (inl was) = inl was
            by_marks v p (inr new) = inr (new_in_word q c x n v p only new, λ set. absurd (no_bit (v % 64) (all_opened (v % 64) new.set set)))

        -- What is open is still marked.
        pub sets_open : (waiting' touched' : List ℕ) → AreSetsByPlace (sets_of size columns marks_then pending_then waiting' touched')
        sets_open waiting' touched' = record {
          marks = length-set marks place (bit_or (get_or marks place 0) n) ∙ are.marks;
          pendings = length-set pending place (bit_or (get_or pending place 0) k) ∙ are.pendings;
          small = are.small;
          under = λ v p has. by_under v p (added_to columns pending place q c is below in_pending k v p has);
        }
          where
            by_under : (v p : ℕ) → HasBitAt columns pending v p ⊎ IsInWord q c k v p → HasBitAt columns marks_then v p
            by_under v p (inl was) = added_old columns marks place q c is below in_marks n v p (are.under v p was)
            by_under v p (inr there) = added_new columns marks place q c is below in_marks n v p (new_opened v p there)

        pub sets_closed : (touched' : List ℕ) → AreSetsByPlace (sets_of size columns marks_then pending old.waiting touched')
        sets_closed touched' = record {
          marks = length-set marks place (bit_or (get_or marks place 0) n) ∙ are.marks;
          pendings = are.pendings;
          small = are.small;
          under = λ v p has. added_old columns marks place q c is below in_marks n v p (are.under v p has);
        }

    -- Its bits x are closed.
    module _ (x : ℕ) (fits : x < 2 ^ 64) where
      abbrev pending_less : List ℕ
      pending_less = slice_set pending place (bit_and (get_or pending place 0) (bit_not w64 x))

      pub closes_word : (waiting' : List ℕ) → ClosesWord now (sets_of size columns marks pending_less waiting' old.touched) q c x
      closes_word waiting' = subst (λ (s : SetsOfVertices). ClosesWord s (sets_of size columns marks pending_less waiting' old.touched) q c x) view (record {
        size = refl;
        columns = refl;
        marks = refl;
        still = λ v p has. taken_left columns pending place q c is below in_pending x v p fits has;
        only = taken_of columns pending place q c is below in_pending x;
        gone = λ v p there. taken_gone columns pending place q c is below in_pending x v p fits there;
        lighter = let put = sum_put in let most = and_le_l (get_or pending place 0) (bit_not w64 x) in omega (arith, put, most);
        less = λ v was there.
            let put = sum_put in
            let same = of_word columns pending place q c is below in_pending x v q there in
            let bit : bit_at (get_or pending place 0) (v % 64) ≡ 1 = sym (ap (λ (k : ℕ). bit_at (get_or pending k 0) (v % 64)) same) ∙ was.set in
            let less = less_left (get_or pending place 0) x (v % 64) fits (omega arith) bit there.set in
            omega (arith, put, less);
      })
        where
          sum_put : sum_by (λ (m : ℕ). m) pending_less + get_or pending place 0 ≡ sum_by (λ (m : ℕ). m) pending + bit_and (get_or pending place 0) (bit_not w64 x)
          sum_put = sum_by-set (λ (m : ℕ). m) pending place (bit_and (get_or pending place 0) (bit_not w64 x)) 0 in_pending

      pub sets_less : (waiting' : List ℕ) → AreSetsByPlace (sets_of size columns marks pending_less waiting' old.touched)
      sets_less waiting' = record {
        marks = are.marks;
        pendings = length-set pending place (bit_and (get_or pending place 0) (bit_not w64 x)) ∙ are.pendings;
        small = are.small;
        under = λ v p has. are.under v p (taken_of columns pending place q c is below in_pending x v p has);
      }
