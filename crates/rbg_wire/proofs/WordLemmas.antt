-- The words of a text.
use Rattle.rbg_base.proofs.Common.{◌≡◌, ◌≢◌, ℕ, ◌+◌, false, List, [], ◌∷◌, ◌++◌, length, take, drop, ap, sym, ◌∙◌, refl, arith, append-nil, ◌==◌, All, AllByRecursion, flat_map, join_with_byte, common_steps, All-weaker}
use Rattle.std.proofs.lemmas.List.Splits.{slice_split_none, slice_split_at, length-slice_split, join_with_byte-slice_split}
use Rattle.rbg_wire.proofs.Common.{LacksByte, IsFirstPlace, words_of}

pub different_byte : (byte other : ℕ) → other ≢ byte → (other == byte) ≡ false
different_byte byte other different = grind (arith, common_steps)

-- no byte of the text is a space, as a test
pub no_space : (text : List ℕ) → LacksByte 32 text → All (λ byte. (byte == 32) ≡ false) text
no_space text lacks = All-weaker (λ byte. byte ≢ 32) (λ byte. (byte == 32) ≡ false) (λ byte different. different_byte 32 byte different) text lacks

-- a text without a space is one word
pub words_none : (text : List ℕ) → LacksByte 32 text → words_of text ≡ text ∷ []
words_none text lacks = slice_split_none (λ byte. byte == 32) text (no_space text lacks)

-- the text before the first space is the first word
pub words_after : (word rest : List ℕ) → LacksByte 32 word → words_of (word ++ 32 ∷ rest) ≡ word ∷ words_of rest
words_after word rest lacks = slice_split_at (λ byte. byte == 32) word 32 rest (no_space word lacks) refl

pub words_at : (text : List ℕ) (at : ℕ) → IsFirstPlace 32 text at → words_of text ≡ take at text ∷ words_of (drop (at + 1) text)
words_at text at place = ap words_of place.parts ∙ words_after (take at text) (drop (at + 1) text) place.first

-- words with a space before each are the words
pub words_of-spaced : (word : List ℕ) (words : List (List ℕ)) → LacksByte 32 word → AllByRecursion (LacksByte 32) words → words_of (word ++ flat_map (λ w. 32 ∷ w) words) ≡ word ∷ words
words_of-spaced word [] lacks all = rw append-nil (words_none word lacks)
words_of-spaced word (next ∷ words) lacks all =
    words_after word (next ++ flat_map (λ w. 32 ∷ w) words) lacks ∙ ap (λ more. word ∷ more) (words_of-spaced next words all.0 all.1)

-- texts with the same words are equal
pub same_words : (a b : List ℕ) → words_of a ≡ words_of b → a ≡ b
same_words a b same = sym (join_with_byte-slice_split 32 a) ∙ (ap (join_with_byte 32) same ∙ join_with_byte-slice_split 32 b)

-- there is always a word
pub some_word : (text : List ℕ) → words_of text ≡ [] → ⊥
some_word text none = let counted : length (words_of text) ≡ 0 = ap length none in absurd (omega (arith, length-slice_split (λ byte. byte == 32) text))
