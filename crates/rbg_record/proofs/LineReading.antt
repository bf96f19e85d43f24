-- What the calls find that read a line, and what they leave out.
use Rattle.std.proofs.Common.{◌≡◌, ℕ, ◌<◌, ◌≤◌, ◌^◌, Some, None, Result, Ok, Err, IfOk, List, [], ◌∷◌, ◌++◌, length, decimal, codes, All, ap, sym, ◌∙◌, refl, subst, IsTrue}
use Rattle.std.specs.Result.{result_ok}
use Rattle.rbg_base.specs.Names.{is_name}
use Rattle.rbg_wire.specs.declared.error.WireError.{WireError}
use Rattle.rbg_wire.specs.declared.outcome.Outcome.{Outcome}
use Rattle.rbg_wire.proofs.Common.{ArePairs, pairs_text, SpellsPairs, SpellsOutcome, words_of, BeginsWithNumber}
use Rattle.rbg_wire.proofs.ByteLemmas.{same_end}
use Rattle.rbg_wire.proofs.FieldLemmas.{with_rest}
use Rattle.rbg_record.proofs.LineCommon.{Entry, Move, End, Timed, Start, Version, One, Two, SpellsEntry, SpellsTimed, entry_text, version_text, SpellsPlayers, SpellsStart}
use Rattle.rbg_record.proofs.Apart.{move_text, play_text, end_text, timed_fields, start_fields, spells_outcome, one_version, spelled_names, names_spelled}

-- What an entry's fields are.
pub move_fields : (text : List ℕ) (player : ℕ) (pairs : List (ℕ × ℕ)) → SpellsEntry text (Move player pairs) → text ≡ decimal player ++ 32 ∷ pairs_text pairs
move_fields text player pairs h = h.is ∙ move_text player pairs

pub spells_play : (text : List ℕ) → text ≡ 45 ∷ [] → SpellsEntry text (End None)
spells_play text is = record { has = tt; is = is ∙ sym play_text }

pub spells_end : (text : List ℕ) (outcome : Outcome) → SpellsOutcome text outcome → SpellsEntry text (End (Some outcome))
spells_end text outcome h = record { has = h.has; is = h.is ∙ sym (end_text outcome) }

pub spells_timed : (text rest : List ℕ) (timed : Timed) → BeginsWithNumber text timed.at rest → SpellsEntry rest timed.entry → SpellsTimed text timed
spells_timed text rest timed begins h = record { has = (begins.small, h.has); is = with_rest text rest (entry_text timed.entry) timed.at begins h.is ∙ sym (timed_fields timed) }

-- What the reader of pairs answers.
pub pairs_read : (text : List ℕ) (answer : Result (List (ℕ × ℕ)) WireError) (pairs : List (ℕ × ℕ)) → IfOk answer (λ ps. SpellsPairs text ps × (length ps ≤ 200)) → Some pairs ≡ result_ok answer → SpellsPairs text pairs × (length pairs ≤ 200)
pairs_read text (Ok found) pairs h is = let same : pairs ≡ found = cc in subst (λ ps. SpellsPairs text ps × (length ps ≤ 200)) (sym same) h
pairs_read text (Err error) pairs h is = let apart : Some pairs ≡ None = is in cc

pub pairs_not_read : (text : List ℕ) (answer : Result (List (ℕ × ℕ)) WireError) (pairs : List (ℕ × ℕ)) → ((ps : List (ℕ × ℕ)) → SpellsPairs text ps → length ps ≤ 200 → answer ≡ Ok ps) → None ≡ result_ok answer → ArePairs pairs → length pairs ≤ 200 → text ≡ pairs_text pairs → ⊥
pairs_not_read text answer pairs only none are few is =
    let same : answer ≡ Ok pairs = only pairs (record { are = are; is = is }) few in
    let apart : None ≡ Some pairs = none ∙ ap result_ok same in
    cc

pub spells_move : (text : List ℕ) (player : ℕ) (pairs : List (ℕ × ℕ)) → player < 2 ^ 64 → ArePairs pairs → length pairs ≤ 200 → text ≡ decimal player ++ 32 ∷ pairs_text pairs → SpellsEntry text (Move player pairs)
spells_move text player pairs small are few is = record { has = (small, are, few); is = is ∙ sym (move_text player pairs) }

-- no entry but these
pub no_entry : (text : List ℕ) (answer : Result Outcome WireError) (error : WireError) → (text ≡ 45 ∷ [] → ⊥) → answer ≡ Err error → ((outcome : Outcome) → SpellsOutcome text outcome → answer ≡ Ok outcome) → ((player : ℕ) (pairs : List (ℕ × ℕ)) → SpellsEntry text (Move player pairs) → ⊥) → (entry : Entry) → SpellsEntry text entry → ⊥
no_entry text answer error play failed only move (End None) h = play (h.is ∙ play_text)
no_entry text answer error play failed only move (End (Some outcome)) h =
    let apart : Err error ≡ Ok outcome = sym failed ∙ only outcome (spells_outcome text outcome h) in
    cc
no_entry text answer error play failed only move (Move player pairs) h = move player pairs h

-- the versions
pub text_one : version_text One ≡ codes "rbg 1"
unfolding version_text
text_one = refl

pub text_two : version_text Two ≡ codes "rbg 2"
unfolding version_text
text_two = refl

pub same_version : (text : List ℕ) (a b : Version) → text ≡ version_text a → text ≡ version_text b → a ≡ b
same_version text a b h k = one_version a b (sym h ∙ k)

pub no_version : (text : List ℕ) → (text ≡ codes "rbg 1" → ⊥) → (text ≡ codes "rbg 2" → ⊥) → (version : Version) → text ≡ version_text version → ⊥
no_version text first second One h = first (h ∙ text_one)
no_version text first second Two h = second (h ∙ text_two)

-- the start
pub fields_of_start : (text fields : List ℕ) (start : Start) → text ≡ codes "start " ++ fields → SpellsStart text start → fields ≡ decimal start.turn_ms ++ 32 ∷ decimal start.now
fields_of_start text fields start is h = same_end (codes "start ") fields (decimal start.turn_ms ++ 32 ∷ decimal start.now) (sym is ∙ (h.is ∙ start_fields start))

pub spells_start : (text fields : List ℕ) (turn_ms now : ℕ) → turn_ms < 2 ^ 64 → now < 2 ^ 64 → text ≡ codes "start " ++ fields → fields ≡ decimal turn_ms ++ 32 ∷ decimal now → SpellsStart text (record { turn_ms = turn_ms; now = now })
spells_start text fields turn_ms now first second is parts = record {
  has = (first, second);
  is = is ∙ (ap (λ f. codes "start " ++ f) parts ∙ sym (start_fields (record { turn_ms = turn_ms; now = now })));
}

-- the players
pub players_named : (text rest : List ℕ) (found : List (List ℕ)) → text ≡ codes "players " ++ rest → found ≡ words_of rest → All (λ name. IsTrue (is_name name)) (words_of rest) → SpellsPlayers text found
players_named text rest found is words named = rw (is, words) (names_spelled rest named)

pub players_same : (text rest : List ℕ) (names : List (List ℕ)) → text ≡ codes "players " ++ rest → SpellsPlayers text names → words_of rest ≡ names
players_same text rest names is h =
    let parts = spelled_names text names h in
    ap words_of (same_end (codes "players ") rest parts.0 (sym is ∙ parts.1)) ∙ parts.2

pub players_not_named : (text rest : List ℕ) (names : List (List ℕ)) → text ≡ codes "players " ++ rest → (All (λ name. IsTrue (is_name name)) (words_of rest) → ⊥) → SpellsPlayers text names → ⊥
players_not_named text rest names is none h = none (subst (All (λ name. IsTrue (is_name name))) (sym (players_same text rest names is h)) h.has.named)
