-- Pairs, their words and the text that spells them.
use Rattle.rbg_base.proofs.Common.{◌≡◌, ◌≢◌, ℕ, ◌+◌, ◌<◌, ◌≤◌, ◌^◌, Bool, true, false, List, [], ◌∷◌, ◌++◌, length, decimal, codes, All, Result, Ok, Err, ap, subst, append-nil, sym, ◌∙◌, refl, arith, append_assoc, length-append, MatchBool, flat_map, AllByRecursion, decimal_injective, All-head, All-tail, All-cons, All-nil, All-push}
use Rattle.std.proofs.lemmas.List.Concat.{flat_map-append}
use Rattle.rbg_wire.proofs.Common.{LacksByte, WireError, Malformed, TooManyPairs, words_of, IsShortPair, pairs_text, pair_text, message_text, SpellsPairs, SpellsMove, SpellsTooMany, ReadsPairs, TellsPairs, ArePairWords, pair_words}
use Rattle.rbg_wire.proofs.NumberLemmas.{lacks_byte-decimal}
use Rattle.rbg_wire.proofs.WordLemmas.{words_of-spaced, same_words, some_word}

-- if no short number is the first word, or the second, the words are those of no pairs
pub first_no_number : (word : List ℕ) (rest : List (List ℕ)) → ((n : ℕ) → n < 10 ^ 9 → word ≡ decimal n → ⊥) → (pairs : List (ℕ × ℕ)) → ArePairWords (word ∷ rest) pairs → ⊥
first_no_number word rest none [] h = let same : word ∷ rest ≡ [] = h.are in cc
first_no_number word rest none (p ∷ ps) h =
    let short = All-head IsShortPair p ps h.short in
    let same : word ∷ rest ≡ decimal p.0 ∷ decimal p.1 ∷ pair_words ps = h.are in
    none p.0 short.0 cc

pub second_no_number : (first word : List ℕ) (rest : List (List ℕ)) → ((n : ℕ) → n < 10 ^ 9 → word ≡ decimal n → ⊥) → (pairs : List (ℕ × ℕ)) → ArePairWords (first ∷ word ∷ rest) pairs → ⊥
second_no_number first word rest none [] h = let same : first ∷ word ∷ rest ≡ [] = h.are in cc
second_no_number first word rest none (p ∷ ps) h =
    let short = All-head IsShortPair p ps h.short in
    let same : first ∷ word ∷ rest ≡ decimal p.0 ∷ decimal p.1 ∷ pair_words ps = h.are in
    none p.1 short.1 cc

pub one_word_left : (word : List ℕ) (pairs : List (ℕ × ℕ)) → ArePairWords (word ∷ []) pairs → ⊥
one_word_left word [] h = let same : word ∷ [] ≡ [] = h.are in cc
one_word_left word (p ∷ ps) h = let same : word ∷ [] ≡ decimal p.0 ∷ decimal p.1 ∷ pair_words ps = h.are in cc

-- a short number has no space among its digits
pub short_lacks_space : (n : ℕ) → n < 10 ^ 9 → LacksByte 32 (decimal n)
short_lacks_space n short = lacks_byte-decimal 32 n (omega arith) (omega arith)

-- the words of pairs have none
pub pair_words_lack_space : (pairs : List (ℕ × ℕ)) → All IsShortPair pairs → AllByRecursion (LacksByte 32) (pair_words pairs)
pair_words_lack_space [] short = tt
pair_words_lack_space (p ∷ ps) short =
    let here = All-head IsShortPair p ps short in
    (short_lacks_space p.0 here.0, (short_lacks_space p.1 here.1, pair_words_lack_space ps (All-tail IsShortPair p ps short)))

-- what follows a pair's text follows its second number
pub pair_text-more : (p : ℕ × ℕ) (more : List ℕ) → pair_text p ++ more ≡ decimal p.0 ++ 32 ∷ (decimal p.1 ++ more)
pair_text-more p more = append_assoc (decimal p.0 ++ codes " ") (decimal p.1) more ∙ append_assoc (decimal p.0) (codes " ") (decimal p.1 ++ more)

-- pairs with a space before each are their words with a space before each
pub spaced_pairs : (pairs : List (ℕ × ℕ)) → flat_map (λ q. codes " " ++ pair_text q) pairs ≡ flat_map (λ w. 32 ∷ w) (pair_words pairs)
spaced_pairs [] = refl
spaced_pairs (p ∷ ps) = ap (λ more. 32 ∷ more) (pair_text-more p (flat_map (λ q. codes " " ++ pair_text q) ps) ∙ ap (λ more. decimal p.0 ++ 32 ∷ (decimal p.1 ++ more)) (spaced_pairs ps))

-- the words of the pairs' text are the pairs' words
pub words_of-pairs_text : (p : ℕ × ℕ) (ps : List (ℕ × ℕ)) → All IsShortPair (p ∷ ps) → words_of (pairs_text (p ∷ ps)) ≡ pair_words (p ∷ ps)
unfolding pairs_text
words_of-pairs_text p ps short =
    let lack = pair_words_lack_space (p ∷ ps) short in
    ap words_of (pair_text-more p (flat_map (λ q. codes " " ++ pair_text q) ps) ∙ ap (λ more. decimal p.0 ++ 32 ∷ (decimal p.1 ++ more)) (spaced_pairs ps))
    ∙ words_of-spaced (decimal p.0) (decimal p.1 ∷ pair_words ps) lack.0 lack.1

-- a text spells pairs exactly if its words are theirs
pub words_from_spelled : (text : List ℕ) (pairs : List (ℕ × ℕ)) → SpellsPairs text pairs → ArePairWords (words_of text) pairs
words_from_spelled text [] h = absurd (omega (arith, h.are.some))
words_from_spelled text (p ∷ ps) h = record { short = h.are.short; are = ap words_of h.is ∙ words_of-pairs_text p ps h.are.short }

pub spelled_from_words : (text : List ℕ) (pairs : List (ℕ × ℕ)) → ArePairWords (words_of text) pairs → SpellsPairs text pairs
spelled_from_words text [] h = absurd (some_word text h.are)
spelled_from_words text (p ∷ ps) h = record {
  are = record { some = omega arith; short = h.short };
  is = same_words text (pairs_text (p ∷ ps)) (h.are ∙ sym (words_of-pairs_text p ps h.short));
}

same_from_words : (ps qs : List (ℕ × ℕ)) → All IsShortPair ps → All IsShortPair qs → pair_words ps ≡ pair_words qs → ps ≡ qs
same_from_words [] [] h k same = refl
same_from_words [] (q ∷ qs) h k same = let apart : [] ≡ decimal q.0 ∷ decimal q.1 ∷ pair_words qs = same in cc
same_from_words (p ∷ ps) [] h k same = let apart : decimal p.0 ∷ decimal p.1 ∷ pair_words ps ≡ [] = same in cc
same_from_words (p ∷ ps) (q ∷ qs) h k same =
    let parts : decimal p.0 ∷ decimal p.1 ∷ pair_words ps ≡ decimal q.0 ∷ decimal q.1 ∷ pair_words qs = same in
    let here = All-head IsShortPair p ps h in
    let there = All-head IsShortPair q qs k in
    let vertex : p.0 ≡ q.0 = decimal_injective p.0 q.0 (omega (arith, here.0)) (omega (arith, there.0)) cc in
    let position : p.1 ≡ q.1 = decimal_injective p.1 q.1 (omega (arith, here.1)) (omega (arith, there.1)) cc in
    let others : ps ≡ qs = same_from_words ps qs (All-tail IsShortPair p ps h) (All-tail IsShortPair q qs k) cc in
    let first : p ≡ q = λ i. (vertex i, position i) in
    λ i. first i ∷ others i

-- words are those of one list of pairs
pub same_pairs : (words : List (List ℕ)) (ps qs : List (ℕ × ℕ)) → ArePairWords words ps → ArePairWords words qs → ps ≡ qs
same_pairs words ps qs h k = same_from_words ps qs h.short k.short (sym h.are ∙ k.are)

-- the words of pairs are followed by those of others
pub rest_are_pairs : (all : List (ℕ × ℕ)) (left : List (List ℕ)) (qs : List (ℕ × ℕ)) → All IsShortPair qs → pair_words qs ≡ pair_words all ++ left → (rest : List (ℕ × ℕ)) × ArePairWords left rest
rest_are_pairs [] left qs short same = (qs, record { short = short; are = sym same })
rest_are_pairs (a ∷ all) left [] short same = let apart : [] ≡ decimal a.0 ∷ decimal a.1 ∷ (pair_words all ++ left) = same in cc
rest_are_pairs (a ∷ all) left (q ∷ qs) short same =
    let parts : decimal q.0 ∷ decimal q.1 ∷ pair_words qs ≡ decimal a.0 ∷ decimal a.1 ∷ (pair_words all ++ left) = same in
    rest_are_pairs all left qs (All-tail IsShortPair q qs short) cc

-- What reading pairs has found: all pairs so far, the ones that it holds if they are not too many, and the words that are left.
pub record HasRead (text : List ℕ) (pairs : List (ℕ × ℕ)) (too_many : Bool) (left : List (List ℕ)) : Type 0 where
  all : List (ℕ × ℕ)
  short : All IsShortPair all
  words : words_of text ≡ pair_words all ++ left
  stands : MatchBool too_many (200 < length all) ((pairs ≡ all) × (length all ≤ 200))

-- it begins with the first pair
pub HasRead-first : (text : List ℕ) (p : ℕ × ℕ) (left : List (List ℕ)) → IsShortPair p → words_of text ≡ decimal p.0 ∷ decimal p.1 ∷ left → HasRead text (p ∷ []) false left
HasRead-first text p left short words = record {
  all = p ∷ [];
  short = All-cons IsShortPair p [] short (All-nil IsShortPair);
  words = words;
  stands = (refl, omega arith);
}

-- the words, with one more pair read
words_more : (words : List (List ℕ)) (all : List (ℕ × ℕ)) (left after : List (List ℕ)) (p : ℕ × ℕ) → words ≡ pair_words all ++ left → left ≡ decimal p.0 ∷ decimal p.1 ∷ after → words ≡ pair_words (all ++ p ∷ []) ++ after
words_more words all left after p read next =
    read ∙ (ap (λ l. pair_words all ++ l) next
    ∙ (sym (append_assoc (pair_words all) (decimal p.0 ∷ decimal p.1 ∷ []) after)
    ∙ ap (λ ws. ws ++ after) (sym (flat_map-append (λ q. decimal q.0 ∷ decimal q.1 ∷ []) all (p ∷ [])))))

stands_more : (too_many : Bool) (pairs all : List (ℕ × ℕ)) (p : ℕ × ℕ) → length pairs < 200 → MatchBool too_many (200 < length all) ((pairs ≡ all) × (length all ≤ 200)) → MatchBool too_many (200 < length (all ++ p ∷ [])) ((pairs ++ p ∷ [] ≡ all ++ p ∷ []) × (length (all ++ p ∷ []) ≤ 200))
stands_more true pairs all p room stands = omega (arith, stands, length-append all (p ∷ []))
stands_more false pairs all p room stands = (ap (λ qs. qs ++ p ∷ []) stands.0, omega (arith, room, ap length stands.0, length-append all (p ∷ [])))

stands_full : (too_many : Bool) (pairs all : List (ℕ × ℕ)) (p : ℕ × ℕ) → length pairs ≡ 200 → MatchBool too_many (200 < length all) ((pairs ≡ all) × (length all ≤ 200)) → 200 < length (all ++ p ∷ [])
stands_full true pairs all p full stands = omega (arith, stands, length-append all (p ∷ []))
stands_full false pairs all p full stands = omega (arith, full, ap length stands.0, length-append all (p ∷ []))

-- one more pair, which is held, or is one too many
pub HasRead-push : (text : List ℕ) (pairs : List (ℕ × ℕ)) (too_many : Bool) (left after : List (List ℕ)) (p : ℕ × ℕ) → HasRead text pairs too_many left → length pairs < 200 → IsShortPair p → left ≡ decimal p.0 ∷ decimal p.1 ∷ after → HasRead text (pairs ++ p ∷ []) too_many after
HasRead-push text pairs too_many left after p h room short next = record {
  all = h.all ++ p ∷ [];
  short = All-push IsShortPair h.all p h.short short;
  words = words_more (words_of text) h.all left after p h.words next;
  stands = stands_more too_many pairs h.all p room h.stands;
}

pub HasRead-full : (text : List ℕ) (pairs : List (ℕ × ℕ)) (too_many : Bool) (left after : List (List ℕ)) (p : ℕ × ℕ) → HasRead text pairs too_many left → length pairs ≡ 200 → IsShortPair p → left ≡ decimal p.0 ∷ decimal p.1 ∷ after → HasRead text pairs true after
HasRead-full text pairs too_many left after p h full short next = record {
  all = h.all ++ p ∷ [];
  short = All-push IsShortPair h.all p h.short short;
  words = words_more (words_of text) h.all left after p h.words next;
  stands = stands_full too_many pairs h.all p full h.stands;
}

-- if no word is left, the result is what was read
pub HasRead-spelled : (text : List ℕ) (pairs : List (ℕ × ℕ)) → HasRead text pairs false [] → SpellsPairs text pairs × (length pairs ≤ 200)
HasRead-spelled text pairs h =
    let spelled : SpellsPairs text h.all = spelled_from_words text h.all (record { short = h.short; are = h.words ∙ append-nil (pair_words h.all) }) in
    (subst (SpellsPairs text) (sym h.stands.0) spelled, omega (arith, h.stands.1, ap length h.stands.0))

pub HasRead-too_many : (text : List ℕ) (pairs : List (ℕ × ℕ)) → HasRead text pairs true [] → SpellsTooMany (SpellsPairs text)
HasRead-too_many text pairs h = record {
  pairs = h.all;
  spelled = spelled_from_words text h.all (record { short = h.short; are = h.words ∙ append-nil (pair_words h.all) });
  more = h.stands;
}

-- if the words that are left are those of no pairs, neither is the text
pub HasRead-none : (text : List ℕ) (pairs : List (ℕ × ℕ)) (too_many : Bool) (left : List (List ℕ)) → HasRead text pairs too_many left → ((qs : List (ℕ × ℕ)) → ArePairWords left qs → ⊥) → (qs : List (ℕ × ℕ)) → SpellsPairs text qs → ⊥
HasRead-none text pairs too_many left h none qs spelled =
    let are = words_from_spelled text qs spelled in
    let rest = rest_are_pairs h.all left qs are.short (sym are.are ∙ h.words) in
    none rest.0 rest.1

-- a text spells one list of pairs
pub one_spelled : (text : List ℕ) (ps qs : List (ℕ × ℕ)) → SpellsPairs text ps → SpellsPairs text qs → ps ≡ qs
one_spelled text ps qs h k = same_pairs (words_of text) ps qs (words_from_spelled text ps h) (words_from_spelled text qs k)

-- The clauses of a call that reads pairs, from its result.
module _ (Spells : List (ℕ × ℕ) → Type 0) (one : (ps qs : List (ℕ × ℕ)) → Spells ps → Spells qs → ps ≡ qs) where
  pub reads_nothing : (answer : Result (List (ℕ × ℕ)) WireError) → answer ≡ Err Malformed → ((pairs : List (ℕ × ℕ)) → Spells pairs → ⊥) → ReadsPairs Spells answer
  reads_nothing answer same none = rw same none

  pub tells_pairs : (answer : Result (List (ℕ × ℕ)) WireError) → ReadsPairs Spells answer → TellsPairs Spells answer
  tells_pairs (Ok found) h = record {
    found = h;
    only = λ pairs spelled few. ap Ok (one found pairs h.0 spelled);
    too_many = (λ apart. cc, λ many. absurd (omega (arith, many.more, h.1, ap length (one many.pairs found many.spelled h.0))));
    malformed = (λ apart. cc, λ none. absurd (none found h.0));
  }
  tells_pairs (Err TooManyPairs) h = record {
    found = tt;
    only = λ pairs spelled few. absurd (omega (arith, h.more, few, ap length (one h.pairs pairs h.spelled spelled)));
    too_many = (λ _. h, λ _. refl);
    malformed = (λ apart. cc, λ none. absurd (none h.pairs h.spelled));
  }
  tells_pairs (Err Malformed) h = record {
    found = tt;
    only = λ pairs spelled few. absurd (h pairs spelled);
    too_many = (λ apart. cc, λ many. absurd (h many.pairs many.spelled));
    malformed = (λ _. h, λ _. refl);
  }

-- A message of a move is an `M` and the text of its pairs.
pub SpellsMove-letter : (text rest : List ℕ) (pairs : List (ℕ × ℕ)) → text ≡ 77 ∷ rest → SpellsMove text pairs → SpellsPairs rest pairs
unfolding message_text
SpellsMove-letter text rest pairs parts h =
    let same : 77 ∷ rest ≡ 77 ∷ pairs_text pairs = sym parts ∙ h.is in
    record { are = h.are; is = cc }

pub SpellsMove-pairs : (text rest : List ℕ) (pairs : List (ℕ × ℕ)) → text ≡ 77 ∷ rest → SpellsPairs rest pairs → SpellsMove text pairs
unfolding message_text
SpellsMove-pairs text rest pairs parts h = record { are = h.are; is = parts ∙ ap (λ more. 77 ∷ more) h.is }

pub SpellsMove-first : (text : List ℕ) (pairs : List (ℕ × ℕ)) → SpellsMove text pairs → text ≡ 77 ∷ pairs_text pairs
unfolding message_text
SpellsMove-first text pairs h = h.is

-- no other text is one
pub empty_no_move : (text : List ℕ) → length text ≡ 0 → (pairs : List (ℕ × ℕ)) → SpellsMove text pairs → ⊥
empty_no_move text empty pairs h = let counted : length text ≡ length (pairs_text pairs) + 1 = ap length (SpellsMove-first text pairs h) ∙ omega arith in absurd (omega arith)

pub other_no_move : (text rest : List ℕ) (letter : ℕ) → text ≡ letter ∷ rest → letter ≢ 77 → (pairs : List (ℕ × ℕ)) → SpellsMove text pairs → ⊥
other_no_move text rest letter parts other pairs h =
    let same : letter ∷ rest ≡ 77 ∷ pairs_text pairs = sym parts ∙ SpellsMove-first text pairs h in
    other cc

pub one_move : (text : List ℕ) (ps qs : List (ℕ × ℕ)) → SpellsMove text ps → SpellsMove text qs → ps ≡ qs
one_move text ps qs h k = one_spelled (pairs_text ps) ps qs (record { are = h.are; is = refl }) (SpellsMove-letter text (pairs_text ps) qs (SpellsMove-first text ps h) k)

-- what reading the pairs after the letter returns
pub reads_move : (text rest : List ℕ) (answer : Result (List (ℕ × ℕ)) WireError) → text ≡ 77 ∷ rest → ReadsPairs (SpellsPairs rest) answer → ReadsPairs (SpellsMove text) answer
reads_move text rest (Ok pairs) parts h = (SpellsMove-pairs text rest pairs parts h.0, h.1)
reads_move text rest (Err TooManyPairs) parts h = record { pairs = h.pairs; spelled = SpellsMove-pairs text rest h.pairs parts h.spelled; more = h.more }
reads_move text rest (Err Malformed) parts h = λ pairs spelled. h pairs (SpellsMove-letter text rest pairs parts spelled)
