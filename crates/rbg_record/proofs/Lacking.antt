-- Bytes that the spellings lack.
use Rattle.rbg_base.proofs.Common.{◌≡◌, ◌≢◌, ℕ, ◌<◌, ◌^◌, true, false, Some, None, List, [], ◌∷◌, ◌++◌, decimal, codes, All, sym, ◌∙◌, refl, subst, arith, IsTrue, not, ◌==◌, flat_map, list_all, and_parts, digits_decimal, All-nil, All-cons, All-append, All-head, All-tail, All-from_get_or}
use Rattle.std.proofs.lemmas.Str.Parse.{not_in_digits}
use Rattle.rbg_base.proofs.CallerLemmas.{name_parts}
use Rattle.rbg_base.proofs.Numerals.{digits}
use Rattle.rbg_base.specs.Names.{is_name, is_name_part}
use Rattle.rbg_wire.specs.declared.outcome.Outcome.{Outcome}
use Rattle.rbg_wire.specs.declared.outcome.Outcome.TheVariants.{Finished, Time, Refusals, Gone, Heavy}
use Rattle.rbg_wire.proofs.Common.{LacksByte, outcome_text, OutcomeHasSpelling, pairs_text, pair_text, IsShortPair}
use Rattle.rbg_wire.proofs.NumberLemmas.{lacks_byte-decimal}
use Rattle.rbg_record.proofs.LineCommon.{Entry, Move, End, Timed, Start, Version, One, Two, EntryHasSpelling, TimedHasSpelling, entry_text, timed_text, version_text, start_text, players_text, StartHasSpelling, HaveNames, SpellingsAreLines}

-- a number has no letter
pub no_letter-decimal : (byte n : ℕ) → 57 < byte → n < 2 ^ 64 → LacksByte byte (decimal n)
no_letter-decimal byte n above small = All-from_get_or (λ other. other ≢ byte) (decimal n) 0 (not_in_digits digits (decimal n) byte (digits_decimal digits n small) (λ within. absurd (omega (arith, within))))

-- Texts that lack a byte.
module _ (byte : ℕ) where
  pub nothing_lacks : LacksByte byte []
  nothing_lacks = All-nil (λ other. other ≢ byte)

  pub lacks-cons : (other : ℕ) (bytes : List ℕ) → other ≢ byte → LacksByte byte bytes → LacksByte byte (other ∷ bytes)
  lacks-cons other bytes apart h = All-cons (λ b. b ≢ byte) other bytes apart h

  pub lacks-append : (a b : List ℕ) → LacksByte byte a → LacksByte byte b → LacksByte byte (a ++ b)
  lacks-append a b h k = All-append (λ other. other ≢ byte) a b h k

  pub lacks-flat_map : {X : Type 0} (P : X → Type 0) (text : X → List ℕ) → ((x : X) → P x → LacksByte byte (text x)) → (xs : List X) → All P xs → LacksByte byte (flat_map text xs)
  lacks-flat_map P text each [] h = nothing_lacks
  lacks-flat_map P text each (x ∷ xs) h = lacks-append (text x) (flat_map text xs) (each x (All-head P x xs h)) (lacks-flat_map P text each xs (All-tail P x xs h))

  -- a name lacks each byte that can't be part of a name
  part_apart : is_name_part byte ≡ false → (other : ℕ) → is_name_part other ≡ true → other ≢ byte
  part_apart none other h same = let apart : false ≡ true = sym none ∙ subst (λ b. is_name_part b ≡ true) same h in cc

  parts_lack : is_name_part byte ≡ false → (bytes : List ℕ) → list_all is_name_part bytes ≡ true → LacksByte byte bytes
  parts_lack none [] h = nothing_lacks
  parts_lack none (other ∷ bytes) h =
      let tests = and_parts (is_name_part other) (list_all is_name_part bytes) h in
      lacks-cons other bytes (part_apart none other tests.0) (parts_lack none bytes tests.1)

  pub name_lacks : is_name_part byte ≡ false → (name : List ℕ) → IsTrue (is_name name) → LacksByte byte name
  name_lacks none name h = parts_lack none name (name_parts name h)

-- a number has no space and no line feed
pub number_lacks : (byte n : ℕ) → byte < 45 → n < 2 ^ 64 → LacksByte byte (decimal n)
number_lacks byte n below small = lacks_byte-decimal byte n (omega (arith, below)) small

-- No spelling has a line feed.
number_feedless : (n : ℕ) → n < 2 ^ 64 → LacksByte 10 (decimal n)
number_feedless n small = number_lacks 10 n (omega arith) small

space_feedless : LacksByte 10 (codes " ")
space_feedless = lacks-cons 10 32 [] (λ e. absurd (omega arith)) (nothing_lacks 10)

two_numbers : (m n : ℕ) → m < 2 ^ 64 → n < 2 ^ 64 → LacksByte 10 (decimal m ++ codes " " ++ decimal n)
two_numbers m n first second =
    lacks-append 10 (decimal m ++ codes " ") (decimal n) (lacks-append 10 (decimal m) (codes " ") (number_feedless m first) space_feedless) (number_feedless n second)

pair_feedless : (p : ℕ × ℕ) → IsShortPair p → LacksByte 10 (pair_text p)
pair_feedless p short = two_numbers p.0 p.1 (omega (arith, short.0)) (omega (arith, short.1))

pub pairs_feedless : (pairs : List (ℕ × ℕ)) → All IsShortPair pairs → LacksByte 10 (pairs_text pairs)
unfolding pairs_text
pairs_feedless [] short = nothing_lacks 10
pairs_feedless (p ∷ ps) short =
    lacks-append 10 (pair_text p) (flat_map (λ q. codes " " ++ pair_text q) ps) (pair_feedless p (All-head IsShortPair p ps short))
    (lacks-flat_map 10 IsShortPair (λ q. codes " " ++ pair_text q) (λ q h. lacks-append 10 (codes " ") (pair_text q) space_feedless (pair_feedless q h)) ps (All-tail IsShortPair p ps short))

kind_feedless : (kind player : ℕ) → kind ≢ 10 → player < 2 ^ 64 → LacksByte 10 (69 ∷ kind ∷ 32 ∷ decimal player)
kind_feedless kind player apart small =
    lacks-cons 10 69 (kind ∷ 32 ∷ decimal player) (λ e. absurd (omega arith)) (lacks-cons 10 kind (32 ∷ decimal player) apart (lacks-cons 10 32 (decimal player) (λ e. absurd (omega arith)) (number_feedless player small)))

outcome_feedless : (outcome : Outcome) → OutcomeHasSpelling outcome → LacksByte 10 (outcome_text outcome)
unfolding outcome_text
outcome_feedless (Finished scores) h =
    let texts : List ℕ = flat_map (λ score. codes " " ++ decimal score) scores in
    lacks-cons 10 69 (48 ∷ texts) (λ e. absurd (omega arith)) (lacks-cons 10 48 texts (λ e. absurd (omega arith))
    (lacks-flat_map 10 (λ score. score < 2 ^ 64) (λ score. codes " " ++ decimal score) (λ score small. lacks-append 10 (codes " ") (decimal score) space_feedless (number_feedless score small)) scores h.2))
outcome_feedless (Time player) h = kind_feedless 49 player (λ e. absurd (omega arith)) h
outcome_feedless (Refusals player) h = kind_feedless 50 player (λ e. absurd (omega arith)) h
outcome_feedless (Gone player) h = kind_feedless 51 player (λ e. absurd (omega arith)) h
outcome_feedless Heavy h = lacks-cons 10 69 (52 ∷ []) (λ e. absurd (omega arith)) (lacks-cons 10 52 [] (λ e. absurd (omega arith)) (nothing_lacks 10))

pub entry_feedless : (entry : Entry) → EntryHasSpelling entry → LacksByte 10 (entry_text entry)
unfolding entry_text
entry_feedless (Move player pairs) h =
    lacks-append 10 (decimal player ++ codes " ") (pairs_text pairs) (lacks-append 10 (decimal player) (codes " ") (number_feedless player h.0) space_feedless) (pairs_feedless pairs h.1.short)
entry_feedless (End None) h = lacks-cons 10 45 [] (λ e. absurd (omega arith)) (nothing_lacks 10)
entry_feedless (End (Some outcome)) h = outcome_feedless outcome h

pub timed_feedless : (timed : Timed) → TimedHasSpelling timed → LacksByte 10 (timed_text timed)
timed_feedless timed h =
    lacks-append 10 (decimal timed.at ++ codes " ") (entry_text timed.entry) (lacks-append 10 (decimal timed.at) (codes " ") (number_feedless timed.at h.0) space_feedless) (entry_feedless timed.entry h.1)

-- a text of bytes that are known
known : (text : List ℕ) → list_all (λ byte. not (byte == 10)) text ≡ true → LacksByte 10 text
known [] h = nothing_lacks 10
known (byte ∷ text) h =
    let tests = and_parts (not (byte == 10)) (list_all (λ b. not (b == 10)) text) h in
    lacks-cons 10 byte text (λ same. let apart : false ≡ true = subst (λ b. not (b == 10) ≡ true) same tests.0 in cc) (known text tests.1)

pub version_feedless : (version : Version) → LacksByte 10 (version_text version)
unfolding version_text
version_feedless One = known (codes "rbg 1") refl
version_feedless Two = known (codes "rbg 2") refl

pub start_feedless : (start : Start) → StartHasSpelling start → LacksByte 10 (start_text start)
unfolding start_text
start_feedless start h =
    lacks-append 10 (codes "start " ++ decimal start.turn_ms ++ codes " ") (decimal start.now)
    (lacks-append 10 (codes "start " ++ decimal start.turn_ms) (codes " ")
    (lacks-append 10 (codes "start ") (decimal start.turn_ms) (known (codes "start ") refl) (number_feedless start.turn_ms h.0)) space_feedless)
    (number_feedless start.now h.1)

pub players_feedless : (names : List (List ℕ)) → HaveNames names → LacksByte 10 (players_text names)
players_feedless names h =
    lacks-append 10 (codes "players") (flat_map (λ name. codes " " ++ name) names) (known (codes "players") refl)
    (lacks-flat_map 10 (λ name. IsTrue (is_name name)) (λ name. codes " " ++ name) (λ name named. lacks-append 10 (codes " ") name space_feedless (name_lacks 10 refl name named)) names h.named)

pub spellings_lack : SpellingsAreLines
spellings_lack = record {
  versions = version_feedless;
  players = λ text names h. subst (LacksByte 10) (sym h.is) (players_feedless names h.has);
  starts = λ text start h. subst (LacksByte 10) (sym h.is) (start_feedless start h.has);
  entries = λ text entry h. subst (LacksByte 10) (sym h.is) (entry_feedless entry h.has);
  timed = λ text timed h. subst (LacksByte 10) (sym h.is) (timed_feedless timed h.has);
}
