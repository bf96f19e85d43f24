-- The first word of a line.
use Rattle.rbg_base.proofs.Common.{◌≡◌, ◌≢◌, ℕ, List, [], ◌∷◌, ◌++◌, refl, sym, ap, ◌∙◌, drop, length, Some, None, true, arith, All-head, All-tail}
use Rattle.rbg_wire.proofs.WordLemmas.{different_byte}
use Rattle.rbg_wire.proofs.Common.{LacksByte}
use Rattle.rbg_questions.specs.Misfits.{first_word, is_question_word}
use Rattle.rbg_questions.specs.Questions.{SpellsQuestion, question_text}
use Rattle.rbg_questions.specs.declared.question.Question.{Question}
use Rattle.rbg_questions.specs.declared.question.Question.TheVariants.{Moves, Make, Back, Heard, Place, State, Key, Values, Board, Names, Shape, Random, Search, Sample, Pack, Unpack, Quit}

pub no_end : (xs : List ℕ) (x : ℕ) → [] ≡ xs ++ x ∷ [] → ⊥
no_end [] x same = let apart : [] ≡ x ∷ [] = same in cc
no_end (y ∷ xs) x same = let apart : [] ≡ y ∷ (xs ++ x ∷ []) = same in cc

pub first_word_cut : (before after : List ℕ) → LacksByte 32 before → first_word (before ++ 32 ∷ after) ≡ before
first_word_cut [] after lacks = refl
first_word_cut (byte ∷ before) after lacks =
    let other = different_byte 32 byte (All-head (λ b. b ≢ 32) byte before lacks) in
    rw other (ap (λ bytes. byte ∷ bytes) (first_word_cut before after (All-tail (λ b. b ≢ 32) byte before lacks)))

pub first_word_whole : (text : List ℕ) → LacksByte 32 text → first_word text ≡ text
first_word_whole [] lacks = refl
first_word_whole (byte ∷ bytes) lacks =
    let other = different_byte 32 byte (All-head (λ b. b ≢ 32) byte bytes lacks) in
    rw other (ap (λ rest. byte ∷ rest) (first_word_whole bytes (All-tail (λ b. b ≢ 32) byte bytes lacks)))

-- the last byte of a line that ends in a carriage return
pub last_of_return : (line front others : List ℕ) (last : ℕ) → line ≡ others ++ last ∷ [] → line ≡ front ++ 13 ∷ [] → last ≡ 13
last_of_return line front others last is same = same_last others front last 13 (sym is ∙ same)
  where
    same_last : (xs ys : List ℕ) (x y : ℕ) → xs ++ x ∷ [] ≡ ys ++ y ∷ [] → x ≡ y
    same_last [] [] x y eq = let whole : x ∷ [] ≡ y ∷ [] = eq in cc
    same_last [] (b ∷ ys) x y eq = absurd (no_end ys y (ap (drop 1) eq))
    same_last (a ∷ xs) [] x y eq = absurd (no_end xs x (sym (ap (drop 1) eq)))
    same_last (a ∷ xs) (b ∷ ys) x y eq = same_last xs ys x y (ap (drop 1) eq)

-- the word of each question
word_of_text : (question : Question) → is_question_word (first_word (question_text question)) ≡ true
unfolding question_text
word_of_text (Moves None) = refl
word_of_text (Moves (Some max)) = refl
word_of_text (Make pairs) = refl
word_of_text (Back None) = refl
word_of_text (Back (Some moves)) = refl
word_of_text (Heard pairs) = refl
word_of_text Place = refl
word_of_text State = refl
word_of_text Key = refl
word_of_text Values = refl
word_of_text Board = refl
word_of_text Names = refl
word_of_text Shape = refl
word_of_text (Random seed count) = refl
word_of_text (Search seed count) = refl
word_of_text (Sample seed most) = refl
word_of_text Pack = refl
word_of_text (Unpack digits) = refl
word_of_text Quit = refl

pub known_word : (text : List ℕ) (question : Question) → SpellsQuestion text question → is_question_word (first_word text) ≡ true
known_word text question spells = ap (λ (bytes : List ℕ). is_question_word (first_word bytes)) spells.is ∙ word_of_text question

pub nothing_of : (xs : List ℕ) → length xs ≡ 0 → xs ≡ []
nothing_of [] none = refl
nothing_of (x ∷ xs) none = absurd (omega (arith, none))
