-- Each text spells one thing at most.
use Rattle.rbg_base.proofs.Common.{◌≡◌, ℕ, Option, Some, None, List, [], ◌∷◌, ◌++◌, decimal, codes, All, ap, sym, ◌∙◌, refl, arith, append_assoc, IsTrue, flat_map, AllByRecursion, decimal_injective, All-head, All-tail}
use Rattle.rbg_base.specs.Names.{is_name}
use Rattle.rbg_wire.specs.declared.outcome.Outcome.{Outcome}
use Rattle.rbg_wire.proofs.Common.{LacksByte, outcome_text, pairs_text, SpellsOutcome, words_of, line_of, lines_of}
use Rattle.rbg_wire.proofs.NumberLemmas.{lacks_byte-decimal}
use Rattle.rbg_wire.proofs.OutcomeLemmas.{outcome_text-kind, one_outcome}
use Rattle.rbg_wire.proofs.PairLemmas.{one_spelled}
use Rattle.rbg_wire.proofs.WordLemmas.{words_of-spaced, same_words, some_word}
use Rattle.rbg_wire.proofs.ByteLemmas.{different, other_first, same_cut, same_end}
use Rattle.rbg_wire.proofs.FieldLemmas.{same_fields}
use Rattle.rbg_record.proofs.LineCommon.{Entry, Move, End, Timed, Start, Version, One, Two, SpellsEntry, SpellsTimed, entry_text, timed_text, version_text, start_text, SpellsPlayers, SpellsStart, EntriesAreApart, HeadingsAreApart, LinesAreApart}
use Rattle.rbg_record.proofs.Lacking.{no_letter-decimal, name_lacks}

-- The fields of a line.

pub move_text : (player : ℕ) (pairs : List (ℕ × ℕ)) → entry_text (Move player pairs) ≡ decimal player ++ 32 ∷ pairs_text pairs
unfolding entry_text
move_text player pairs = append_assoc (decimal player) (codes " ") (pairs_text pairs)

pub play_text : entry_text (End None) ≡ 45 ∷ []
unfolding entry_text
play_text = refl

pub end_text : (outcome : Outcome) → entry_text (End (Some outcome)) ≡ outcome_text outcome
unfolding entry_text
end_text outcome = refl

pub timed_fields : (timed : Timed) → timed_text timed ≡ decimal timed.at ++ 32 ∷ entry_text timed.entry
timed_fields timed = append_assoc (decimal timed.at) (codes " ") (entry_text timed.entry)

pub start_fields : (start : Start) → start_text start ≡ codes "start " ++ (decimal start.turn_ms ++ 32 ∷ decimal start.now)
unfolding start_text
start_fields start =
    append_assoc (codes "start " ++ decimal start.turn_ms) (codes " ") (decimal start.now)
    ∙ append_assoc (codes "start ") (decimal start.turn_ms) (32 ∷ decimal start.now)

-- an outcome begins with its letter, and a move with a digit
no_move_ends : (text : List ℕ) (player : ℕ) (pairs : List (ℕ × ℕ)) (outcome : Option Outcome) → SpellsEntry text (Move player pairs) → SpellsEntry text (End outcome) → ⊥
no_move_ends text player pairs None h k =
    other_first 32 45 (decimal player) (pairs_text pairs) [] (lacks_byte-decimal 45 player (omega arith) h.has.0) (λ e. absurd (omega arith))
    (sym (h.is ∙ move_text player pairs) ∙ (k.is ∙ play_text))
no_move_ends text player pairs (Some outcome) h k =
    let parts = outcome_text-kind outcome in
    other_first 32 69 (decimal player) (pairs_text pairs) (parts.0 ∷ parts.1) (no_letter-decimal 69 player (omega arith) h.has.0) (λ e. absurd (omega arith))
    (sym (h.is ∙ move_text player pairs) ∙ (k.is ∙ (end_text outcome ∙ parts.2)))

no_dash : (text : List ℕ) (outcome : Outcome) → SpellsEntry text (End None) → SpellsEntry text (End (Some outcome)) → ⊥
no_dash text outcome h k =
    let parts = outcome_text-kind outcome in
    let same : 45 ∷ [] ≡ 69 ∷ parts.0 ∷ parts.1 = sym (h.is ∙ play_text) ∙ (k.is ∙ (end_text outcome ∙ parts.2)) in
    different 45 69 (λ e. absurd (omega arith)) [] (parts.0 ∷ parts.1) same

pub spells_outcome : (text : List ℕ) (outcome : Outcome) → SpellsEntry text (End (Some outcome)) → SpellsOutcome text outcome
spells_outcome text outcome h = record { has = h.has; is = h.is ∙ end_text outcome }

pub one_entry : (text : List ℕ) (a b : Entry) → SpellsEntry text a → SpellsEntry text b → a ≡ b
one_entry text (Move p ps) (Move q qs) h k =
    let parts = same_fields text (pairs_text ps) (pairs_text qs) p q h.has.0 k.has.0 (h.is ∙ move_text p ps) (k.is ∙ move_text q qs) in
    let pairs = one_spelled (pairs_text ps) ps qs (record { are = h.has.1; is = refl }) (record { are = k.has.1; is = parts.1 }) in
    λ i. Move (parts.0 i) (pairs i)
one_entry text (Move p ps) (End o) h k = absurd (no_move_ends text p ps o h k)
one_entry text (End o) (Move q qs) h k = absurd (no_move_ends text q qs o k h)
one_entry text (End None) (End None) h k = refl
one_entry text (End None) (End (Some o)) h k = absurd (no_dash text o h k)
one_entry text (End (Some o)) (End None) h k = absurd (no_dash text o k h)
one_entry text (End (Some a)) (End (Some b)) h k =
    ap (λ o. End (Some o)) (one_outcome text a b (spells_outcome text a h) (spells_outcome text b k))

pub one_timed : (text : List ℕ) (a b : Timed) → SpellsTimed text a → SpellsTimed text b → a ≡ b
one_timed text a b h k =
    let parts = same_fields text (entry_text a.entry) (entry_text b.entry) a.at b.at h.has.0 k.has.0 (h.is ∙ timed_fields a) (k.is ∙ timed_fields b) in
    let entry = one_entry (entry_text a.entry) a.entry b.entry (record { has = h.has.1; is = refl }) (record { has = k.has.1; is = parts.1 }) in
    λ i. record { at = parts.0 i; entry = entry i }

pub entries_apart : EntriesAreApart
entries_apart = record { entries = one_entry; timed = one_timed; ends = no_move_ends }

-- The first lines.

pub one_version : (a b : Version) → version_text a ≡ version_text b → a ≡ b
unfolding version_text
one_version One One same = refl
one_version Two Two same = refl
one_version One Two same = absurd (different 49 50 (λ e. absurd (omega arith)) [] [] (same_end (codes "rbg ") (49 ∷ []) (50 ∷ []) same))
one_version Two One same = absurd (different 50 49 (λ e. absurd (omega arith)) [] [] (same_end (codes "rbg ") (50 ∷ []) (49 ∷ []) same))

pub one_start : (text : List ℕ) (a b : Start) → SpellsStart text a → SpellsStart text b → a ≡ b
one_start text a b h k =
    let fields : decimal a.turn_ms ++ 32 ∷ decimal a.now ≡ decimal b.turn_ms ++ 32 ∷ decimal b.now = same_end (codes "start ") _ _ (sym (start_fields a) ∙ (sym h.is ∙ (k.is ∙ start_fields b))) in
    let parts = same_fields (decimal a.turn_ms ++ 32 ∷ decimal a.now) (decimal a.now) (decimal b.now) a.turn_ms b.turn_ms h.has.0 k.has.0 refl fields in
    let now = decimal_injective a.now b.now h.has.1 k.has.1 parts.1 in
    λ i. record { turn_ms = parts.0 i; now = now i }

names_lack_space : (names : List (List ℕ)) → All (λ name. IsTrue (is_name name)) names → AllByRecursion (LacksByte 32) names
names_lack_space [] h = tt
names_lack_space (name ∷ names) h = (name_lacks 32 refl name (All-head (λ n. IsTrue (is_name n)) name names h), names_lack_space names (All-tail (λ n. IsTrue (is_name n)) name names h))

-- The names are the words after the word `players`.
pub spelled_names : (text : List ℕ) (names : List (List ℕ)) → SpellsPlayers text names → (rest : List ℕ) × (text ≡ codes "players " ++ rest) × (words_of rest ≡ names)
spelled_names text [] h = absurd (omega (arith, h.has.some))
spelled_names text (name ∷ names) h =
    let lacking = names_lack_space (name ∷ names) h.has.named in
    (name ++ flat_map (λ w. 32 ∷ w) names, h.is, words_of-spaced name names lacking.0 lacking.1)

names_spelled_by : (rest : List ℕ) (names : List (List ℕ)) → words_of rest ≡ names → All (λ name. IsTrue (is_name name)) names → SpellsPlayers (codes "players " ++ rest) names
names_spelled_by rest [] words named = absurd (some_word rest words)
names_spelled_by rest (name ∷ names) words named =
    let lacking = names_lack_space (name ∷ names) named in
    let same : rest ≡ name ++ flat_map (λ w. 32 ∷ w) names = same_words rest (name ++ flat_map (λ w. 32 ∷ w) names) (words ∙ sym (words_of-spaced name names lacking.0 lacking.1)) in
    record { has = record { some = omega arith; named = named }; is = ap (λ t. codes "players " ++ t) same }

pub names_spelled : (rest : List ℕ) → All (λ name. IsTrue (is_name name)) (words_of rest) → SpellsPlayers (codes "players " ++ rest) (words_of rest)
names_spelled rest named = names_spelled_by rest (words_of rest) refl named

pub one_players : (text : List ℕ) (a b : List (List ℕ)) → SpellsPlayers text a → SpellsPlayers text b → a ≡ b
one_players text a b h k =
    let first = spelled_names text a h in
    let second = spelled_names text b k in
    sym first.2 ∙ (ap words_of (same_end (codes "players ") first.0 second.0 (sym first.1 ∙ second.1)) ∙ second.2)

pub headings_apart : HeadingsAreApart
headings_apart = record { versions = one_version; players = one_players; starts = one_start }

-- Lines.

line-more : (text rest : List ℕ) → line_of text ++ rest ≡ text ++ 10 ∷ rest
line-more text rest = append_assoc text (10 ∷ []) rest

no_lines : (text rest : List ℕ) → text ++ 10 ∷ rest ≡ [] → ⊥
no_lines [] rest same = let apart : 10 ∷ rest ≡ [] = same in cc
no_lines (byte ∷ text) rest same = let apart : byte ∷ (text ++ 10 ∷ rest) ≡ [] = same in cc

pub lines_apart : LinesAreApart
lines_apart [] [] h k same = refl
lines_apart [] (y ∷ ys) h k same = absurd (no_lines y (lines_of ys) (sym (line-more y (lines_of ys)) ∙ sym same))
lines_apart (x ∷ xs) [] h k same = absurd (no_lines x (lines_of xs) (sym (line-more x (lines_of xs)) ∙ same))
lines_apart (x ∷ xs) (y ∷ ys) h k same =
    let parts = same_cut 10 x y (lines_of xs) (lines_of ys) (All-head (LacksByte 10) x xs h) (All-head (LacksByte 10) y ys k) (sym (line-more x (lines_of xs)) ∙ (same ∙ line-more y (lines_of ys))) in
    let others = lines_apart xs ys (All-tail (LacksByte 10) x xs h) (All-tail (LacksByte 10) y ys k) parts.1 in
    λ i. parts.0 i ∷ others i
