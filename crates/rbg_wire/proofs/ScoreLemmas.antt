-- Scores, their words and the text that spells them.
use Rattle.rbg_base.proofs.Common.{◌≡◌, ℕ, ◌+◌, ◌<◌, ◌≤◌, ◌^◌, List, [], ◌∷◌, ◌++◌, length, map, decimal, codes, All, ap, sym, ◌∙◌, refl, arith, append_assoc, append-nil, length-append, flat_map, AllByRecursion, length-map, map-append, All-head, All-tail, All-push, All-nil, decimal_injective}
use Rattle.rbg_wire.proofs.Common.{LacksByte, SpellsScores, words_of}
use Rattle.rbg_wire.proofs.NumberLemmas.{lacks_byte-decimal}
use Rattle.rbg_wire.proofs.WordLemmas.{words_of-spaced, same_words, some_word}

abbrev AreSmall : List ℕ → Type 0
AreSmall scores = All (λ score. score < 2 ^ 64) scores

scores_lack_space : (scores : List ℕ) → AreSmall scores → AllByRecursion (LacksByte 32) (map decimal scores)
scores_lack_space [] small = tt
scores_lack_space (score ∷ scores) small =
    (lacks_byte-decimal 32 score (omega arith) (All-head (λ s. s < 2 ^ 64) score scores small), scores_lack_space scores (All-tail (λ s. s < 2 ^ 64) score scores small))

spaced_scores : (scores : List ℕ) → flat_map (λ score. codes " " ++ decimal score) scores ≡ flat_map (λ w. 32 ∷ w) (map decimal scores)
spaced_scores [] = refl
spaced_scores (score ∷ scores) = ap (λ more. 32 ∷ (decimal score ++ more)) (spaced_scores scores)

-- the words after the first space are the scores' digits
words_of-scores : (score : ℕ) (scores : List ℕ) → AreSmall (score ∷ scores) → words_of (decimal score ++ flat_map (λ s. codes " " ++ decimal s) scores) ≡ map decimal (score ∷ scores)
words_of-scores score scores small =
    let lack = scores_lack_space (score ∷ scores) small in
    ap (λ more. words_of (decimal score ++ more)) (spaced_scores scores) ∙ words_of-spaced (decimal score) (map decimal scores) lack.0 lack.1

pub words_from_scores : (text : List ℕ) (scores : List ℕ) → SpellsScores (32 ∷ text) scores → words_of text ≡ map decimal scores
words_from_scores text [] h = absurd (omega (arith, h.has.0))
words_from_scores text (score ∷ scores) h =
    let parts : 32 ∷ text ≡ 32 ∷ (decimal score ++ flat_map (λ s. codes " " ++ decimal s) scores) = h.is in
    let same : text ≡ decimal score ++ flat_map (λ s. codes " " ++ decimal s) scores = cc in
    ap words_of same ∙ words_of-scores score scores h.has.2

pub scores_from_words : (text : List ℕ) (scores : List ℕ) → length scores ≤ 8 → AreSmall scores → words_of text ≡ map decimal scores → SpellsScores (32 ∷ text) scores
scores_from_words text [] few small are = absurd (some_word text are)
scores_from_words text (score ∷ scores) few small are = record {
  has = (omega arith, few, small);
  is = ap (λ more. 32 ∷ more) (same_words text (decimal score ++ flat_map (λ s. codes " " ++ decimal s) scores) (are ∙ sym (words_of-scores score scores small)));
}

-- What reading scores has found: the scores so far, and the words that are left.
pub record HasScores (text : List ℕ) (scores : List ℕ) (left : List (List ℕ)) : Type 0 where
  few : length scores ≤ 8
  small : AreSmall scores
  words : words_of text ≡ map decimal scores ++ left

pub HasScores-first : (text : List ℕ) (left : List (List ℕ)) → words_of text ≡ left → HasScores text [] left
HasScores-first text left words = record { few = omega arith; small = All-nil (λ s. s < 2 ^ 64); words = words }

pub HasScores-push : (text : List ℕ) (scores : List ℕ) (left after : List (List ℕ)) (score : ℕ) → HasScores text scores left → length scores < 8 → score < 2 ^ 64 → left ≡ decimal score ∷ after → HasScores text (scores ++ score ∷ []) after
HasScores-push text scores left after score h room small next = record {
  few = omega (arith, room, length-append scores (score ∷ []));
  small = All-push (λ s. s < 2 ^ 64) scores score h.small small;
  words = h.words ∙ (ap (λ l. map decimal scores ++ l) next
      ∙ (sym (append_assoc (map decimal scores) (decimal score ∷ []) after)
      ∙ ap (λ ws. ws ++ after) (sym (map-append decimal scores (score ∷ [])))));
}

-- if no word is left, the scores are spelled
pub HasScores-spelled : (text : List ℕ) (scores : List ℕ) → HasScores text scores [] → SpellsScores (32 ∷ text) scores
HasScores-spelled text scores h = scores_from_words text scores h.few h.small (h.words ∙ append-nil (map decimal scores))

-- one word more than eight scores is too many
pub HasScores-full : (text : List ℕ) (scores : List ℕ) (word : List ℕ) (left : List (List ℕ)) → HasScores text scores (word ∷ left) → length scores ≡ 8 → (others : List ℕ) → SpellsScores (32 ∷ text) others → ⊥
HasScores-full text scores word left h full others spelled =
    let same : map decimal others ≡ map decimal scores ++ word ∷ left = sym (words_from_scores text others spelled) ∙ h.words in
    let counted : length others ≡ length scores + (length left + 1) =
    sym (length-map others decimal) ∙ (ap length same ∙ (length-append (map decimal scores) (word ∷ left) ∙ omega (arith, length-map scores decimal))) in
    absurd (omega (arith, spelled.has.1))

-- the words of scores are all numbers
no_number_after : (scores others : List ℕ) (word : List ℕ) (left : List (List ℕ)) → ((n : ℕ) → n < 2 ^ 64 → word ≡ decimal n → ⊥) → AreSmall others → map decimal others ≡ map decimal scores ++ word ∷ left → ⊥
no_number_after scores [] word left none small same = let counted : 0 ≡ length (map decimal scores) + (length left + 1) = ap length same ∙ length-append (map decimal scores) (word ∷ left) ∙ omega arith in absurd (omega arith)
no_number_after [] (other ∷ others) word left none small same =
    let parts : decimal other ∷ map decimal others ≡ word ∷ left = same in
    none other (All-head (λ s. s < 2 ^ 64) other others small) cc
no_number_after (score ∷ scores) (other ∷ others) word left none small same =
    let parts : decimal other ∷ map decimal others ≡ decimal score ∷ (map decimal scores ++ word ∷ left) = same in
    no_number_after scores others word left none (All-tail (λ s. s < 2 ^ 64) other others small) cc

pub HasScores-none : (text : List ℕ) (scores : List ℕ) (word : List ℕ) (left : List (List ℕ)) → HasScores text scores (word ∷ left) → ((n : ℕ) → n < 2 ^ 64 → word ≡ decimal n → ⊥) → (others : List ℕ) → SpellsScores (32 ∷ text) others → ⊥
HasScores-none text scores word left h none others spelled =
    no_number_after scores others word left none spelled.has.2 (sym (words_from_scores text others spelled) ∙ h.words)

-- a text is the spelling of one list of scores
same_digits : (ss ts : List ℕ) → AreSmall ss → AreSmall ts → map decimal ss ≡ map decimal ts → ss ≡ ts
same_digits [] [] h k same = refl
same_digits [] (t ∷ ts) h k same = let apart : [] ≡ decimal t ∷ map decimal ts = same in cc
same_digits (s ∷ ss) [] h k same = let apart : decimal s ∷ map decimal ss ≡ [] = same in cc
same_digits (s ∷ ss) (t ∷ ts) h k same =
    let parts : decimal s ∷ map decimal ss ≡ decimal t ∷ map decimal ts = same in
    let first : s ≡ t = decimal_injective s t (All-head (λ n. n < 2 ^ 64) s ss h) (All-head (λ n. n < 2 ^ 64) t ts k) cc in
    let others : ss ≡ ts = same_digits ss ts (All-tail (λ n. n < 2 ^ 64) s ss h) (All-tail (λ n. n < 2 ^ 64) t ts k) cc in
    λ i. first i ∷ others i

pub same_scores : (fields ss ts : List ℕ) → SpellsScores fields ss → SpellsScores fields ts → ss ≡ ts
same_scores fields [] ts h k = absurd (omega (arith, h.has.0))
same_scores fields (s ∷ ss) ts h k =
    let text = decimal s ++ flat_map (λ score. codes " " ++ decimal score) ss in
    let first : SpellsScores (32 ∷ text) (s ∷ ss) = record { has = h.has; is = refl } in
    let second : SpellsScores (32 ∷ text) ts = record { has = k.has; is = sym h.is ∙ k.is } in
    same_digits (s ∷ ss) ts h.has.2 k.has.2 (sym (words_from_scores text (s ∷ ss) first) ∙ words_from_scores text ts second)
