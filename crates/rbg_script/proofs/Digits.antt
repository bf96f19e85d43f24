-- Hexadecimal digits: what the crate `hex` reads is what spells bytes.
use Rattle.rbg_base.proofs.Common.{◌≡◌, ℕ, ◌+◌, ◌*◌, ◌/◌, ◌%◌, ◌<◌, ◌⊎◌, inl, inr, zero, suc, Option, Some, None, Result, Ok, Err, List, [], ◌∷◌, length, slice_index, ap, sym, ◌∙◌, refl, subst, arith, All, flat_map, All-head, All-tail}
use Rattle.std.specs.Result.{result_unwrap_or}
use Rattle.hex.specs.Hex.{decode_of, decode_pairs, digit_or_error, encode_with, encode_lower, hex_digit_value, lower_digits, pair_value, ◌>>=◌, IsBytes}
use Rattle.hex.specs.declared.error.FromHexError.{FromHexError}
use Rattle.hex.specs.declared.error.FromHexError.TheVariants.{OutOfMemory}
use Rattle.hex.proofs.HexLemmas.{decode_of-even, decode_of-encode_lower, decode_of-ok, decode_of-same}
use Rattle.hex.proofs.Pairs.{cons_byte, decode_pairs-ok_pair}
use Rattle.rbg_script.specs.Events.{SpellsBytes, no_bytes, one_byte, byte_text}

-- two digits and what follows them, if all of it is read
read_pair : (a b i : ℕ) (x y : Option ℕ) (r : Result (List ℕ) FromHexError) (bytes : List ℕ) → ((digit_or_error a i x >>= (λ h. digit_or_error b (i + 1) y >>= (λ l. Ok (h * 16 + l)))) >>= (λ byte. r >>= (λ more. Ok (byte ∷ more)))) ≡ Ok bytes → (high : ℕ) × (low : ℕ) × (rest : List ℕ) × (x ≡ Some high) × (y ≡ Some low) × (r ≡ Ok rest) × ((high * 16 + low) ∷ rest ≡ bytes)
read_pair a b i (Some h) (Some l) (Ok rest) bytes e = (h, l, rest, refl, refl, refl, ap (λ (r : Result (List ℕ) FromHexError). result_unwrap_or r []) e)
read_pair a b i (Some h) (Some l) (Err bad) bytes e = cc e
read_pair a b i (Some h) None r bytes e = cc e
read_pair a b i None y r bytes e = cc e

spells_pairs : (i : ℕ) (digits bytes : List ℕ) → decode_pairs i digits ≡ Ok bytes → SpellsBytes digits bytes
unfolding decode_pairs
spells_pairs i [] bytes h =
    let same : [] ≡ bytes = ap (λ (r : Result (List ℕ) FromHexError). result_unwrap_or r []) h in
    subst (SpellsBytes []) same no_bytes
spells_pairs i (a ∷ []) bytes h = cc h
spells_pairs i (a ∷ b ∷ digits) bytes h =
    let parts = read_pair a b i (hex_digit_value a) (hex_digit_value b) (decode_pairs (i + 2) digits) bytes h in
    subst (SpellsBytes (a ∷ b ∷ digits)) parts.6 (one_byte a b parts.0 parts.1 digits parts.2 parts.3 parts.4 (spells_pairs (i + 2) digits parts.2 parts.5))

pairs_spelled : (digits bytes : List ℕ) → SpellsBytes digits bytes → (i : ℕ) → decode_pairs i digits ≡ Ok bytes
unfolding decode_pairs
pairs_spelled _ _ no_bytes i = refl
pairs_spelled _ _ (one_byte a b high low digits bytes first second h) i =
    let x : digit_or_error a i (hex_digit_value a) ≡ Ok high = ap (digit_or_error a i) first in
    let y : digit_or_error b (i + 1) (hex_digit_value b) ≡ Ok low = ap (digit_or_error b (i + 1)) second in
    let pair : pair_value a b i ≡ Ok (high * 16 + low) = rw (x, y) refl in
    decode_pairs-ok_pair i a b (high * 16 + low) digits pair ∙ ap (cons_byte (high * 16 + low)) (pairs_spelled digits bytes h (i + 2))

two_each : (digits bytes : List ℕ) → SpellsBytes digits bytes → length digits ≡ 2 * length bytes
two_each _ _ no_bytes = refl
two_each _ _ (one_byte a b high low digits bytes first second h) = let more = two_each digits bytes h in omega (arith, more)

-- what is decoded is spelt, and back
pub spells_decoded : (digits bytes : List ℕ) → decode_of digits ≡ Ok bytes → SpellsBytes digits bytes
spells_decoded digits bytes h = spells_pairs 0 digits bytes (sym (decode_of-even digits (decode_of-ok digits bytes h).0) ∙ h)

pub decoded_spelt : (digits bytes : List ℕ) → SpellsBytes digits bytes → decode_of digits ≡ Ok bytes
decoded_spelt digits bytes h =
    let two = two_each digits bytes h in
    decode_of-even digits (omega (arith, two)) ∙ pairs_spelled digits bytes h 0

-- what is refused for another reason than memory spells no bytes
pub refused_digits : (digits : List ℕ) (error : FromHexError) → (error ≡ OutOfMemory) ⊎ (decode_of digits ≡ Err error) → (error ≡ OutOfMemory → ⊥) → (bytes : List ℕ) → SpellsBytes digits bytes → ⊥
refused_digits digits error (inl memory) other bytes h = other memory
refused_digits digits error (inr refused) other bytes h = let apart : Err error ≡ Ok bytes = sym refused ∙ decoded_spelt digits bytes h in cc

pub one_bytes : (digits a b : List ℕ) → SpellsBytes digits a → SpellsBytes digits b → a ≡ b
one_bytes digits a b h k = decode_of-same digits a b (decoded_spelt digits a h) (decoded_spelt digits b k)

-- what is written of bytes spells them
are_bytes : (bytes : List ℕ) → All (λ byte. byte < 256) bytes → IsBytes bytes
are_bytes [] h i = omega arith
are_bytes (byte ∷ bytes) h zero = All-head (λ b. b < 256) byte bytes h
are_bytes (byte ∷ bytes) h (suc i) = are_bytes bytes (All-tail (λ b. b < 256) byte bytes h) i

text_encoded : (bytes : List ℕ) → flat_map byte_text bytes ≡ encode_lower bytes
unfolding encode_with
text_encoded [] = refl
text_encoded (byte ∷ bytes) = ap (λ text. slice_index lower_digits (byte / 16) ∷ slice_index lower_digits (byte % 16) ∷ text) (text_encoded bytes)

pub spells_written : (bytes : List ℕ) → All (λ byte. byte < 256) bytes → SpellsBytes (flat_map byte_text bytes) bytes
spells_written bytes h =
    subst (λ text. SpellsBytes text bytes) (sym (text_encoded bytes)) (spells_decoded (encode_lower bytes) bytes (decode_of-encode_lower bytes (are_bytes bytes h)))
