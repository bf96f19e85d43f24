-- Rows of bits stay right when a piece is put on a vertex.
use Rattle.rbg_base.proofs.Common.{◌≡◌, ◌≢◌, ℕ, ◌+◌, ◌*◌, ◌/◌, ◌%◌, ◌<◌, ◌^◌, ◌⊎◌, inl, inr, List, [], length, get_or, Some, sym, ap, subst, ◌∙◌, slice_set, replicate, arith, ◌↔◌, bit_or, bit_and, bit_at, bit_not, w64, div-mul-add, bit_at-zero, bit_at_set_same, bit_at_set_other, bit_at_clear_same, bit_at_clear_other, slice_get-get_or, get_or_from_slice_get, slice_get_within, ℕ_discrete}
use Rattle.std.proofs.lemmas.List.{length-set, get_or-set_same, get_or-set_other, get_or-replicate, length-replicate}
use Rattle.rbg_state.specs.Rows.{IsWordOf, word_of, HasBit, bit_in, AreRows, ChangesBit, ChangesWord}

-- a word that differs from the old one in one bit
changed_word : (words : List ℕ) (word bit value new : ℕ) → word < length words → bit_at new bit ≡ value → ((b : ℕ) → b < 64 → b ≢ bit → bit_at new b ≡ bit_at (get_or words word 0) b) → ChangesWord words (slice_set words word new) word bit value
changed_word words word bit value new within here others = record {
  size = length-set words word new;
  here = ap (λ (n : ℕ). bit_at n bit) (get_or-set_same words word new 0 within) ∙ here;
  others = λ i b small differs. elim (ℕ_discrete i word) [
    | yes is ↦
        let same : get_or (slice_set words word new) i 0 ≡ new = ap (λ (k : ℕ). get_or (slice_set words word new) k 0) is ∙ get_or-set_same words word new 0 within in
        let before : get_or words i 0 ≡ get_or words word 0 = ap (λ (k : ℕ). get_or words k 0) is in
        ap (λ (n : ℕ). bit_at n b) same ∙ others b small (other_bit i b is differs) ∙ sym (ap (λ (n : ℕ). bit_at n b) before)
    | no other ↦ ap (λ (n : ℕ). bit_at n b) (get_or-set_other words word i new 0 other)
  ];
}
  where
    other_bit : (i b : ℕ) → i ≡ word → (i ≢ word) ⊎ (b ≢ bit) → b ≢ bit
    other_bit i b is (inl other) = absurd (other is)
    other_bit i b is (inr other) = other

pub set_word : (words : List ℕ) (word bit n : ℕ) → n ≡ get_or words word 0 → word < length words → bit < 64 → ChangesWord words (slice_set words word (bit_or n (1 * 2 ^ bit % 2 ^ 64))) word bit 1
set_word words word bit n read within small =
    subst (λ (m : ℕ). ChangesWord words (slice_set words word (bit_or m (1 * 2 ^ bit % 2 ^ 64))) word bit 1) (sym read)
    (changed_word words word bit 1 _ within (bit_at_set_same w64 (get_or words word 0) bit small) (λ b _ other. bit_at_set_other w64 (get_or words word 0) bit small b other))

pub cleared_word : (words : List ℕ) (word bit n : ℕ) → n ≡ get_or words word 0 → word < length words → bit < 64 → ChangesWord words (slice_set words word (bit_and n (bit_not w64 (1 * 2 ^ bit % 2 ^ 64)))) word bit 0
cleared_word words word bit n read within small =
    subst (λ (m : ℕ). ChangesWord words (slice_set words word (bit_and m (bit_not w64 (1 * 2 ^ bit % 2 ^ 64)))) word bit 0) (sym read)
    (changed_word words word bit 0 _ within (bit_at_clear_same w64 (get_or words word 0) bit small) (λ b below other. bit_at_clear_other w64 (get_or words word 0) bit small b below other))

-- a bit of a word is that of one piece and one vertex
pub bit_changed : (columns : ℕ) (old new : List ℕ) (piece v value word : ℕ) → word ≡ word_of columns piece v → HasBit columns (length old) piece v → ChangesWord old new word (v % 64) value → ChangesBit columns old new piece v value
bit_changed columns old new piece v value word is has changes = record {
  size = changes.size;
  here = λ _. subst (λ (k : ℕ). bit_at (get_or new k 0) (v % 64) ≡ value) is changes.here;
  others = λ x u there differs. changes.others (word_of columns x u) (u % 64) (omega arith) (other_place x u there differs);
}
  where
    same_piece : (x u : ℕ) → HasBit columns (length old) x u → word_of columns x u ≡ word → x ≡ piece
    same_piece x u there same = sym (div-mul-add x columns (u / 64) there.column) ∙ ap (λ (k : ℕ). k / columns) (same ∙ is) ∙ div-mul-add piece columns (v / 64) has.column

    same_vertex : (x u : ℕ) → HasBit columns (length old) x u → word_of columns x u ≡ word → u % 64 ≡ v % 64 → u ≡ v
    same_vertex x u there same bits =
        let pieces = same_piece x u there same in
        let whole : x * columns + u / 64 ≡ piece * columns + v / 64 = same ∙ is in
        let products : x * columns ≡ piece * columns = ap (λ (k : ℕ). k * columns) pieces in
        let parts : u / 64 ≡ v / 64 = omega (arith, whole, products) in
        omega (arith, parts, bits)

    other_place : (x u : ℕ) → HasBit columns (length old) x u → (x ≢ piece) ⊎ (u ≢ v) → (word_of columns x u ≢ word) ⊎ (u % 64 ≢ v % 64)
    other_place x u there (inl other) = inl (λ same. other (same_piece x u there same))
    other_place x u there (inr other) = elim (ℕ_discrete (u % 64) (v % 64)) [
      | yes bits ↦ inl (λ same. other (same_vertex x u there same bits))
      | no bits ↦ inr bits
    ]

not_one : {n : ℕ} → n ≡ 0 → n ≡ 1 → ⊥
not_one clear set = omega (arith, clear, set)

-- up to vertex 0 no bit is set
pub no_rows : (pieces : List ℕ) (columns n : ℕ) (words : List ℕ) → words ≡ replicate n 0 → AreRows pieces 0 columns words
no_rows pieces columns n words zeros = record {
  exact = λ piece v has. (λ set. absurd (not_one (none piece v has) set), λ stands. absurd (nothing v stands.0));
}
  where
    nothing : (v : ℕ) → v < 0 → ⊥
    nothing v h = omega (arith, h)

    none : (piece v : ℕ) → HasBit columns (length words) piece v → bit_in columns words piece v ≡ 0
    none piece v has =
        let word : ℕ = word_of columns piece v in
        let within : word < n = subst (λ (k : ℕ). word < k) (ap length zeros ∙ length-replicate n 0) has.word in
        ap (λ (xs : List ℕ). bit_at (get_or xs word 0) (v % 64)) zeros
        ∙ ap (λ (k : ℕ). bit_at k (v % 64)) (get_or-replicate n word 0 0 within)
        ∙ bit_at-zero (v % 64)

-- with no words any rows are right
pub empty_rows : (pieces : List ℕ) (many columns : ℕ) (words : List ℕ) → words ≡ [] → AreRows pieces many columns words
empty_rows pieces many columns words none = record {
  exact = λ piece v has. absurd (no_word (word_of columns piece v) (subst (λ (xs : List ℕ). word_of columns piece v < length xs) none has.word));
}
  where
    no_word : (k : ℕ) → k < 0 → ⊥
    no_word k h = omega (arith, h)

still_there : (columns : ℕ) (old new : List ℕ) (piece v value x u : ℕ) → ChangesBit columns old new piece v value → HasBit columns (length new) x u → HasBit columns (length old) x u
still_there columns old new piece v value x u changes has = record { column = has.column; word = subst (λ (k : ℕ). word_of columns x u < k) changes.size has.word }

-- the bit of one vertex more
pub rows_after_push : (pieces : List ℕ) (many columns : ℕ) (old new : List ℕ) (x : ℕ) → AreRows pieces many columns old → x ≡ get_or pieces many 0 → ChangesBit columns old new x many 1 → AreRows pieces (many + 1) columns new
rows_after_push pieces many columns old new x rows is changes = record { exact = λ y u has. by_vertex y u has }
  where
    Stands : (y u : ℕ) → Type 0
    Stands y u = (u < many + 1) × (get_or pieces u 0 ≡ y)

    here : (y : ℕ) → HasBit columns (length new) y many → (bit_in columns new y many ≡ 1) ↔ Stands y many
    here y has = elim (ℕ_discrete y x) [
      | yes same ↦ (λ _. (omega arith, sym is ∙ sym same), λ _. subst (λ (k : ℕ). bit_in columns new k many ≡ 1) (sym same) (changes.here (subst (λ (k : ℕ). HasBit columns (length old) k many) same (still_there columns old new x many 1 y many changes has))))
      | no other ↦
          let before = still_there columns old new x many 1 y many changes has in
          (λ set. absurd (no_less many ((rows.exact y many before).0 (sym (changes.others y many before (inl other)) ∙ set)).0), λ stands. absurd (other (sym stands.1 ∙ sym is)))
    ]
      where
        no_less : (k : ℕ) → k < k → ⊥
        no_less k h = omega (arith, h)

    by_vertex : (y u : ℕ) → HasBit columns (length new) y u → (bit_in columns new y u ≡ 1) ↔ Stands y u
    by_vertex y u has = elim (ℕ_discrete u many) [
      | yes same ↦ subst (λ (k : ℕ). HasBit columns (length new) y k → (bit_in columns new y k ≡ 1) ↔ Stands y k) (sym same) (here y) has
      | no other ↦
          let before = still_there columns old new x many 1 y u changes has in
          let kept = changes.others y u before (inr other) in
          let exact = rows.exact y u before in
          (λ set. let stands = exact.0 (sym kept ∙ set) in (up u stands.0, stands.1), λ stands. kept ∙ exact.1 (down u other stands.0, stands.1))
    ]
      where
        up : (u : ℕ) → u < many → u < many + 1
        up u h = omega (arith, h)

        down : (u : ℕ) → u ≢ many → u < many + 1 → u < many
        down u other h = elim (ℕ_discrete u many) [
          | yes same ↦ absurd (other same)
          | no _ ↦ omega (arith, h, other)
        ]

-- The piece x is put on the vertex v, on which the piece o was.
pub rows_after_put : (pieces : List ℕ) (columns : ℕ) (old middle new : List ℕ) (v o x : ℕ) → AreRows pieces (length pieces) columns old → v < length pieces → get_or pieces v 0 ≡ o → ChangesBit columns old middle o v 0 → ChangesBit columns middle new x v 1 → AreRows (slice_set pieces v x) (length (slice_set pieces v x)) columns new
rows_after_put pieces columns old middle new v o x rows is_vertex stood takes adds = record { exact = λ y u has. by_vertex y u has }
  where
    Stands : (y u : ℕ) → Type 0
    Stands y u = (u < length (slice_set pieces v x)) × (get_or (slice_set pieces v x) u 0 ≡ y)

    size : length (slice_set pieces v x) ≡ length pieces
    size = length-set pieces v x

    put : get_or (slice_set pieces v x) v 0 ≡ x
    put = get_or-set_same pieces v x 0 is_vertex

    in_middle : (y u : ℕ) → HasBit columns (length new) y u → HasBit columns (length middle) y u
    in_middle y u has = still_there columns middle new x v 1 y u adds has

    in_old : (y u : ℕ) → HasBit columns (length new) y u → HasBit columns (length old) y u
    in_old y u has = still_there columns old middle o v 0 y u takes (in_middle y u has)

    gone : (y : ℕ) → HasBit columns (length new) y v → bit_in columns middle y v ≡ 1 → ⊥
    gone y has set = elim (ℕ_discrete y o) [
      | yes same ↦ not_one (takes.here (subst (λ (k : ℕ). HasBit columns (length old) k v) same (in_old y v has))) (subst (λ (k : ℕ). bit_in columns middle k v ≡ 1) same set)
      | no other ↦ other (sym ((rows.exact y v (in_old y v has)).0 (sym (takes.others y v (in_old y v has) (inl other)) ∙ set)).1 ∙ stood)
    ]

    here : (y : ℕ) → HasBit columns (length new) y v → (bit_in columns new y v ≡ 1) ↔ Stands y v
    here y has = elim (ℕ_discrete y x) [
      | yes same ↦ (λ _. (subst (λ (k : ℕ). v < k) (sym size) is_vertex, put ∙ sym same), λ _. subst (λ (k : ℕ). bit_in columns new k v ≡ 1) (sym same) (adds.here (subst (λ (k : ℕ). HasBit columns (length middle) k v) same (in_middle y v has))))
      | no other ↦ (λ set. absurd (gone y has (sym (adds.others y v (in_middle y v has) (inl other)) ∙ set)), λ stands. absurd (other (sym stands.1 ∙ put)))
    ]

    by_vertex : (y u : ℕ) → HasBit columns (length new) y u → (bit_in columns new y u ≡ 1) ↔ Stands y u
    by_vertex y u has = elim (ℕ_discrete u v) [
      | yes same ↦ subst (λ (k : ℕ). HasBit columns (length new) y k → (bit_in columns new y k ≡ 1) ↔ Stands y k) (sym same) (here y) has
      | no other ↦
          let kept = adds.others y u (in_middle y u has) (inr other) ∙ takes.others y u (in_old y u has) (inr other) in
          let exact = rows.exact y u (in_old y u has) in
          let piece = get_or-set_other pieces v u x 0 other in (
            λ set. let stands = exact.0 (sym kept ∙ set) in (subst (λ (k : ℕ). u < k) (sym size) stands.0, piece ∙ stands.1),
            λ stands. kept ∙ exact.1 (subst (λ (k : ℕ). u < k) size stands.0, sym piece ∙ stands.1),
          )
    ]

-- A word of the row of a piece, among the words of all rows.
pub word_is : (pieces : List ℕ) (columns : ℕ) (words : List ℕ) (x column : ℕ) → AreRows pieces (length pieces) columns words → column < columns → x * columns + column < length words → IsWordOf pieces x column (get_or words (x * columns + column) 0)
word_is pieces columns words x column rows near within b small = (
  λ set. let stands = exact.0 (same ∙ set) in slice_get-get_or pieces v 0 stands.0 ∙ ap Some stands.1,
  λ stands. sym same ∙ exact.1 (slice_get_within pieces v x stands, get_or_from_slice_get pieces v x 0 stands),
)
  where
    v : ℕ
    v = column * 64 + b

    at : v / 64 ≡ column
    at = div-mul-add column 64 b small

    bit : v % 64 ≡ b
    bit = omega (arith, at, small)

    has : HasBit columns (length words) x v
    has = record { column = subst (λ (k : ℕ). k < columns) (sym at) near; word = subst (λ (k : ℕ). x * columns + k < length words) (sym at) within }

    exact : (bit_in columns words x v ≡ 1) ↔ ((v < length pieces) × (get_or pieces v 0 ≡ x))
    exact = rows.exact x v has

    same : bit_in columns words x v ≡ bit_at (get_or words (x * columns + column) 0) b
    same =
        ap (λ (k : ℕ). bit_at (get_or words (x * columns + k) 0) (v % 64)) at
        ∙ ap (λ (k : ℕ). bit_at (get_or words (x * columns + column) 0) k) bit
