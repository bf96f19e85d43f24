-- What is passed on, byte by byte.
use Rattle.std.proofs.Common.{◌≡◌, ◌≢◌, ℕ, ◌+◌, ◌-◌, ◌<◌, ◌≤◌, List, [], ◌∷◌, ◌++◌, length, take, drop, slice_index, slice_set, ap, sym, ◌∙◌, refl, arith, append_assoc, inl, inr, ◌==◌, map, zero, suc}
use Rattle.std.specs.List.{slice_split, onto_first, join_with_byte}
use Rattle.std.proofs.lemmas.Bool.{cases_lt}
use Rattle.std.proofs.Math.ListN.{get_or, set}
use Rattle.std.proofs.Math.Seq.{take-nil, drop-cons, set-append_seam}
use Rattle.std.proofs.lemmas.List.{take_more, get_or-drop, get_or-append_right}
use Rattle.std.proofs.lemmas.List.Splits.{slice_split-cons_no, length-slice_split}
use Rattle.rbg_wire.proofs.WordLemmas.{different_byte}
use Rattle.rbg_network.specs.Passing.{most_passed, first_bytes, passed, last_length, begun_after}

abbrev texts_of : List ℕ → List (List ℕ)
texts_of bytes = slice_split (λ byte. byte == 0) bytes

some_text : (bytes : List ℕ) → 0 < length (texts_of bytes)
some_text bytes = omega (arith, length-slice_split (λ byte. byte == 0) bytes)

-- no bytes
pub passed-nil : (begun : ℕ) → passed begun [] ≡ []
passed-nil begun = take-nil (most_passed - begun)

pub begun_after-nil : (begun : ℕ) → begun_after begun [] ≡ begun
begun_after-nil begun = let none : length {A = ℕ} (take {A = ℕ} (most_passed - begun) []) ≡ 0 = ap (length {A = ℕ}) (take-nil (most_passed - begun)) in omega (arith, none)

-- a zero byte
zero_joined : (begun : ℕ) (texts : List (List ℕ)) → 0 < length texts → join_with_byte 0 (first_bytes begun ([] ∷ texts)) ≡ 0 ∷ join_with_byte 0 (first_bytes 0 texts)
zero_joined begun [] some = absurd (omega arith)
zero_joined begun (text ∷ texts) some = ap (λ front. front ++ 0 ∷ join_with_byte 0 (first_bytes 0 (text ∷ texts))) (take-nil (most_passed - begun))

zero_last : (begun : ℕ) (texts : List (List ℕ)) → 0 < length texts → last_length begun (first_bytes begun ([] ∷ texts)) ≡ last_length 0 (first_bytes 0 texts)
zero_last begun [] some = absurd (omega arith)
zero_last begun (text ∷ texts) some = refl

pub passed-zero : (begun : ℕ) (bytes : List ℕ) → passed begun (0 ∷ bytes) ≡ 0 ∷ passed 0 bytes
passed-zero begun bytes = zero_joined begun (texts_of bytes) (some_text bytes)

pub begun_after-zero : (begun : ℕ) (bytes : List ℕ) → begun_after begun (0 ∷ bytes) ≡ begun_after 0 bytes
begun_after-zero begun bytes = zero_last begun (texts_of bytes) (some_text bytes)

-- another byte, of which no more than so many were passed on
take_next : (n k byte : ℕ) (text : List ℕ) → n ≡ suc k → take n (byte ∷ text) ≡ byte ∷ take k text
take_next n k byte text same = ap (λ m. take m (byte ∷ text)) same

next_of : (begun byte : ℕ) (text : List ℕ) → begun < most_passed → take (most_passed - begun) (byte ∷ text) ≡ byte ∷ take (most_passed - (begun + 1)) text
next_of begun byte text room = take_next (most_passed - begun) (most_passed - (begun + 1)) byte text (omega (arith, room))

more_joined : (begun byte : ℕ) (texts : List (List ℕ)) → 0 < length texts → begun < most_passed → join_with_byte 0 (first_bytes begun (onto_first byte texts)) ≡ byte ∷ join_with_byte 0 (first_bytes (begun + 1) texts)
more_joined begun byte [] some room = absurd (omega arith)
more_joined begun byte (text ∷ []) some room = next_of begun byte text room
more_joined begun byte (text ∷ next ∷ texts) some room = ap (λ front. front ++ 0 ∷ join_with_byte 0 (map (take most_passed) (next ∷ texts))) (next_of begun byte text room)

more_last : (begun byte : ℕ) (texts : List (List ℕ)) → 0 < length texts → begun < most_passed → last_length begun (first_bytes begun (onto_first byte texts)) ≡ last_length (begun + 1) (first_bytes (begun + 1) texts)
more_last begun byte [] some room = absurd (omega arith)
more_last begun byte (text ∷ []) some room = let long : length (take (most_passed - begun) (byte ∷ text)) ≡ suc (length (take (most_passed - (begun + 1)) text)) = ap length (next_of begun byte text room) in omega (arith, long)
more_last begun byte (text ∷ next ∷ texts) some room = refl

pub passed-more : (begun byte : ℕ) (bytes : List ℕ) → byte ≢ 0 → begun < most_passed → passed begun (byte ∷ bytes) ≡ byte ∷ passed (begun + 1) bytes
passed-more begun byte bytes other room = ap (λ texts. join_with_byte 0 (first_bytes begun texts)) (slice_split-cons_no (λ b. b == 0) byte bytes (different_byte 0 byte other)) ∙ more_joined begun byte (texts_of bytes) (some_text bytes) room

pub begun_after-more : (begun byte : ℕ) (bytes : List ℕ) → byte ≢ 0 → begun < most_passed → begun_after begun (byte ∷ bytes) ≡ begun_after (begun + 1) bytes
begun_after-more begun byte bytes other room = ap (λ texts. last_length begun (first_bytes begun texts)) (slice_split-cons_no (λ b. b == 0) byte bytes (different_byte 0 byte other)) ∙ more_last begun byte (texts_of bytes) (some_text bytes) room

-- another byte, of a message that is too long
none_of : (begun : ℕ) (text : List ℕ) → most_passed ≤ begun → take (most_passed - begun) text ≡ []
none_of begun text full = ap (λ n. take n text) (let none : most_passed - begun ≡ 0 = omega (arith, full) in none)

full_joined : (begun byte : ℕ) (texts : List (List ℕ)) → 0 < length texts → most_passed ≤ begun → first_bytes begun (onto_first byte texts) ≡ first_bytes begun texts
full_joined begun byte [] some full = absurd (omega arith)
full_joined begun byte (text ∷ texts) some full = ap (λ front. front ∷ map (take most_passed) texts) (none_of begun (byte ∷ text) full ∙ sym (none_of begun text full))

full_texts : (begun byte : ℕ) (bytes : List ℕ) → byte ≢ 0 → most_passed ≤ begun → first_bytes begun (texts_of (byte ∷ bytes)) ≡ first_bytes begun (texts_of bytes)
full_texts begun byte bytes other full = ap (first_bytes begun) (slice_split-cons_no (λ b. b == 0) byte bytes (different_byte 0 byte other)) ∙ full_joined begun byte (texts_of bytes) (some_text bytes) full

pub passed-full : (begun byte : ℕ) (bytes : List ℕ) → byte ≢ 0 → most_passed ≤ begun → passed begun (byte ∷ bytes) ≡ passed begun bytes
passed-full begun byte bytes other full = ap (join_with_byte 0) (full_texts begun byte bytes other full)

pub begun_after-full : (begun byte : ℕ) (bytes : List ℕ) → byte ≢ 0 → most_passed ≤ begun → begun_after begun (byte ∷ bytes) ≡ begun_after begun bytes
begun_after-full begun byte bytes other full = ap (last_length begun) (full_texts begun byte bytes other full)

-- Bytes that come in two pieces are passed on as the pieces are.
pub record Joins (begun : ℕ) (xs ys : List ℕ) : Type 0 where
  pub bytes : passed begun (xs ++ ys) ≡ passed begun xs ++ passed (begun_after begun xs) ys
  pub begun_then : begun_after begun (xs ++ ys) ≡ begun_after (begun_after begun xs) ys

joins-nil : (begun : ℕ) (ys : List ℕ) → Joins begun [] ys
joins-nil begun ys = record {
  bytes = ap (λ now. passed now ys) (sym (begun_after-nil begun)) ∙ ap (λ front. front ++ passed (begun_after begun []) ys) (sym (passed-nil begun));
  begun_then = ap (λ now. begun_after now ys) (sym (begun_after-nil begun));
}

joins-zero : (begun : ℕ) (xs ys : List ℕ) → Joins 0 xs ys → Joins begun (0 ∷ xs) ys
joins-zero begun xs ys h = record {
  bytes = rw (passed-zero begun (xs ++ ys), passed-zero begun xs, begun_after-zero begun xs) (ap (λ more. 0 ∷ more) h.bytes);
  begun_then = rw (begun_after-zero begun (xs ++ ys), begun_after-zero begun xs) h.begun_then;
}

joins-more : (begun byte : ℕ) (xs ys : List ℕ) → byte ≢ 0 → begun < most_passed → Joins (begun + 1) xs ys → Joins begun (byte ∷ xs) ys
joins-more begun byte xs ys other room h = record {
  bytes = rw (passed-more begun byte (xs ++ ys) other room, passed-more begun byte xs other room, begun_after-more begun byte xs other room) (ap (λ more. byte ∷ more) h.bytes);
  begun_then = rw (begun_after-more begun byte (xs ++ ys) other room, begun_after-more begun byte xs other room) h.begun_then;
}

joins-full : (begun byte : ℕ) (xs ys : List ℕ) → byte ≢ 0 → most_passed ≤ begun → Joins begun xs ys → Joins begun (byte ∷ xs) ys
joins-full begun byte xs ys other full h = record {
  bytes = rw (passed-full begun byte (xs ++ ys) other full, passed-full begun byte xs other full, begun_after-full begun byte xs other full) h.bytes;
  begun_then = rw (begun_after-full begun byte (xs ++ ys) other full, begun_after-full begun byte xs other full) h.begun_then;
}

pub some_byte : (n : ℕ) → suc n ≢ 0
some_byte n none = absurd (omega (arith, none))

pub joins : (begun : ℕ) (xs ys : List ℕ) → Joins begun xs ys
joins begun [] ys = joins-nil begun ys
joins begun (zero ∷ xs) ys = joins-zero begun xs ys (joins 0 xs ys)
joins begun (suc n ∷ xs) ys = elim (cases_lt begun most_passed) [
  | inl room ↦ joins-more begun (suc n) xs ys (some_byte n) room (joins (begun + 1) xs ys)
  | inr full ↦ joins-full begun (suc n) xs ys (some_byte n) full (joins begun xs ys)
]

-- What is passed on of the bytes up to an index stands before the others, from the place where it ends. So the byte at the
-- index is still there.
pub byte_at : (before old buffer : List ℕ) (kept index : ℕ) → kept ≡ length before → kept ≤ index → buffer ≡ before ++ drop kept old → slice_index buffer index ≡ slice_index old index
byte_at before old buffer kept index long after is =
    ap (λ bytes. get_or bytes index 0) is
    ∙ (get_or-append_right before (drop kept old) kept index 0 (sym long) after
    ∙ (get_or-drop kept old (index - kept) 0
    ∙ ap (λ i. get_or old i 0) (omega (arith, after))))

-- One byte more is passed on, or isn't.
pub passed_more : (begun now byte index : ℕ) (old bytes : List ℕ) → index < length old → byte ≡ slice_index old index → now ≡ begun_after begun (take index old) → passed now (byte ∷ []) ≡ bytes → passed begun (take (index + 1) old) ≡ passed begun (take index old) ++ bytes
passed_more begun now byte index old bytes within is same given =
    ap (passed begun) (take_more old index 0 within ∙ ap (λ b. take index old ++ b ∷ []) (sym is))
    ∙ ((joins begun (take index old) (byte ∷ [])).bytes
    ∙ ap (λ more. passed begun (take index old) ++ more) (ap (λ n. passed n (byte ∷ [])) (sym same) ∙ given))

pub begun_more : (begun now byte index : ℕ) (old : List ℕ) → index < length old → byte ≡ slice_index old index → now ≡ begun_after begun (take index old) → begun_after now (byte ∷ []) ≡ begun_after begun (take (index + 1) old)
begun_more begun now byte index old within is same =
    ap (λ n. begun_after n (byte ∷ [])) same
    ∙ (sym (joins begun (take index old) (byte ∷ [])).begun_then
    ∙ ap (begun_after begun) (sym (take_more old index 0 within ∙ ap (λ b. take index old ++ b ∷ []) (sym is))))

-- The byte is written after what was passed on.
pub written_after : (before old buffer : List ℕ) (kept byte : ℕ) → kept ≡ length before → kept < length old → buffer ≡ before ++ drop kept old → slice_set buffer kept byte ≡ (before ++ byte ∷ []) ++ drop (kept + 1) old
written_after before old buffer kept byte long within is =
    let on : kept + 1 ≡ suc kept = omega arith in
    ap (λ bytes. set bytes kept byte) (is ∙ ap (λ more. before ++ more) (drop-cons old kept 0 within))
    ∙ (ap (λ at. set (before ++ get_or old kept 0 ∷ drop (suc kept) old) at byte) long
    ∙ (set-append_seam before (get_or old kept 0) (drop (suc kept) old) byte
    ∙ (sym (append_assoc before (byte ∷ []) (drop (suc kept) old))
    ∙ ap (λ n. (before ++ byte ∷ []) ++ drop n old) (sym on))))
