-- The laws of messages and streams.
use Rattle.rbg_base.proofs.Common.{◌≡◌, ◌≢◌, ℕ, ◌+◌, ◌<◌, ◌≤◌, ◌^◌, true, false, List, [], ◌∷◌, ◌++◌, length, take, drop, decimal, codes, All, ap, sym, ◌∙◌, refl, subst, arith, append_assoc, inl, inr, nat_le, IsTrue, flat_map, list_all, cases_lt, common_steps, All-nil, All-cons, All-append, All-head, All-tail, All-take, All-drop, All-push, and_parts}
use Rattle.std.proofs.lemmas.List.{take-append-drop, length-take-le, length-append}
use Rattle.rbg_wire.proofs.Common.{Outcome, Finished, Time, Refusals, Gone, Heavy, LacksByte, SpellingsAreApart, item_for, ItemsAreTexts, SpellingsAreItems, TooLongComesOnce, RestsStayShort, AbstractMessage, who_message, game_message, limits_message, move_message, refusal_message, end_message, join_message, HasSpelling, message_text, spelling, outcome_text, OutcomeHasSpelling, pairs_text, pair_text, IsShortPair, reason_number, complete, too_long, Rest, incomplete, dropping, after_items, cut, IsRest, next_byte}
use Rattle.rbg_base.specs.Names.{is_name, is_name_part, is_name_start}
use Rattle.rbg_wire.proofs.CutLemmas.{cut-append, cut-none, cut-message, cut-too_long, cut-dropping, cut-dropped, next_kept, next_too_long, next_dropped}
use Rattle.rbg_wire.proofs.MessageLemmas.{one_message, reason_number-small}
use Rattle.rbg_wire.proofs.NumberLemmas.{lacks_byte-decimal}

-- A text of more bytes than the limit is too long after one byte more than the limit.
over : (limit : ℕ) (text : List ℕ) → LacksByte 0 text → limit < length text → cut limit (incomplete []) (take (limit + 1) text) ≡ record { items = too_long ∷ []; rest = dropping }
over limit text lacks long =
    cut-too_long limit [] (take (limit + 1) text) (All-take (λ other. other ≢ 0) (limit + 1) text lacks) (omega arith) (omega (arith, length-take-le (limit + 1) text (omega arith)))

pub too_long_once : TooLongComesOnce
too_long_once limit text lacks long =
    let back = drop (limit + 1) text in
    ap (cut limit (incomplete [])) (sym (take-append-drop (limit + 1) text))
    ∙ (cut-append limit (incomplete []) (take (limit + 1) text) back
    ∙ (ap (λ c. after_items c.items (cut limit c.rest back)) (over limit text lacks long)
    ∙ ap (after_items (too_long ∷ [])) (cut-dropping limit back (All-drop (λ other. other ≢ 0) (limit + 1) text lacks))))

-- a text with more bytes than the limit, with its zero byte
too_long_whole : (limit : ℕ) (text rest : List ℕ) → LacksByte 0 text → limit < length text → cut limit (incomplete []) (text ++ 0 ∷ rest) ≡ after_items (too_long ∷ []) (cut limit (incomplete []) rest)
too_long_whole limit text rest lacks long =
    cut-append limit (incomplete []) text (0 ∷ rest)
    ∙ (ap (λ c. after_items c.items (cut limit c.rest (0 ∷ rest))) (too_long_once limit text lacks long)
    ∙ ap (after_items (too_long ∷ [])) (cut-dropped limit [] rest (All-nil (λ other. other ≢ 0))))

pub one_item : (limit : ℕ) (text rest : List ℕ) → LacksByte 0 text → cut limit (incomplete []) (text ++ 0 ∷ rest) ≡ after_items (item_for limit text ∷ []) (cut limit (incomplete []) rest)
one_item limit text rest lacks = elim (cases_lt limit (length text)) [
  | inl long ↦ (let test : nat_le (length text) limit ≡ false = grind (arith, common_steps) in rw test (too_long_whole limit text rest lacks long))
  | inr fits ↦ (let test : nat_le (length text) limit ≡ true = grind (arith, common_steps) in rw test (cut-message limit text rest lacks fits))
]

pub texts : ItemsAreTexts
texts limit [] lack = cut-none limit (incomplete [])
texts limit (text ∷ more) lack =
    ap (cut limit (incomplete [])) (append_assoc text (0 ∷ []) (flat_map (λ t. t ++ 0 ∷ []) more))
    ∙ (one_item limit text (flat_map (λ t. t ++ 0 ∷ []) more) (All-head (LacksByte 0) text more lack)
    ∙ ap (after_items (item_for limit text ∷ [])) (texts limit more (All-tail (LacksByte 0) text more lack)))

-- one byte after a rest
pub rest_more : (limit : ℕ) (rest : Rest) (byte : ℕ) → IsRest limit rest → IsRest limit (next_byte limit rest byte).rest
rest_more limit (incomplete bytes) byte h = elim (cases_lt 0 byte) [
  | inl above ↦ (let some : byte ≢ 0 = λ zero. absurd (omega arith) in elim (cases_lt (length bytes) limit) [
    | inl room ↦ subst (λ c. IsRest limit c.rest) (sym (next_kept limit bytes byte some room)) (omega (arith, length-append bytes (byte ∷ [])), All-push (λ other. other ≢ 0) bytes byte h.1 some)
    | inr full ↦ subst (λ c. IsRest limit c.rest) (sym (next_too_long limit bytes byte some full)) tt
  ])
  | inr none ↦ (let zero : byte ≡ 0 = omega arith in subst (λ b. IsRest limit (next_byte limit (incomplete bytes) b).rest) (sym zero) (omega arith, All-nil (λ other. other ≢ 0)))
]
rest_more limit dropping byte h = elim (cases_lt 0 byte) [
  | inl above ↦ (let some : byte ≢ 0 = λ zero. absurd (omega arith) in subst (λ c. IsRest limit c.rest) (sym (next_dropped limit byte some)) tt)
  | inr none ↦ (let zero : byte ≡ 0 = omega arith in subst (λ b. IsRest limit (next_byte limit dropping b).rest) (sym zero) (omega arith, All-nil (λ other. other ≢ 0)))
]

pub rests : RestsStayShort
unfolding cut
rests limit rest [] h = h
rests limit rest (byte ∷ bytes) h = rests limit (next_byte limit rest byte).rest bytes (rest_more limit rest byte h)

-- No text of a message has a zero byte.
digits_some : (n : ℕ) → n < 2 ^ 64 → LacksByte 0 (decimal n)
digits_some n small = lacks_byte-decimal 0 n (omega arith) small

lacks-append : (a b : List ℕ) → LacksByte 0 a → LacksByte 0 b → LacksByte 0 (a ++ b)
lacks-append a b h k = All-append (λ other. other ≢ 0) a b h k

lacks-cons : (byte : ℕ) (bytes : List ℕ) → byte ≢ 0 → LacksByte 0 bytes → LacksByte 0 (byte ∷ bytes)
lacks-cons byte bytes some h = All-cons (λ other. other ≢ 0) byte bytes some h

lacks-flat_map : {X : Type 0} (P : X → Type 0) (text : X → List ℕ) → ((x : X) → P x → LacksByte 0 (text x)) → (xs : List X) → All P xs → LacksByte 0 (flat_map text xs)
lacks-flat_map P text each [] h = All-nil (λ other. other ≢ 0)
lacks-flat_map P text each (x ∷ xs) h = lacks-append (text x) (flat_map text xs) (each x (All-head P x xs h)) (lacks-flat_map P text each xs (All-tail P x xs h))

space_some : LacksByte 0 (codes " ")
space_some = lacks-cons 32 [] (λ e. absurd (omega arith)) (All-nil (λ other. other ≢ 0))

pair_some : (p : ℕ × ℕ) → IsShortPair p → LacksByte 0 (pair_text p)
pair_some p short =
    lacks-append (decimal p.0 ++ codes " ") (decimal p.1)
    (lacks-append (decimal p.0) (codes " ") (digits_some p.0 (omega (arith, short.0))) space_some) (digits_some p.1 (omega (arith, short.1)))

pairs_some : (pairs : List (ℕ × ℕ)) → All IsShortPair pairs → LacksByte 0 (pairs_text pairs)
unfolding pairs_text
pairs_some [] short = All-nil (λ other. other ≢ 0)
pairs_some (p ∷ ps) short =
    lacks-append (pair_text p) (flat_map (λ q. codes " " ++ pair_text q) ps) (pair_some p (All-head IsShortPair p ps short))
    (lacks-flat_map IsShortPair (λ q. codes " " ++ pair_text q) (λ q h. lacks-append (codes " ") (pair_text q) space_some (pair_some q h)) ps (All-tail IsShortPair p ps short))

kind_some : (kind player : ℕ) → kind ≢ 0 → player < 2 ^ 64 → LacksByte 0 (69 ∷ kind ∷ 32 ∷ decimal player)
kind_some kind player some small =
    lacks-cons 69 (kind ∷ 32 ∷ decimal player) (λ e. absurd (omega arith)) (lacks-cons kind (32 ∷ decimal player) some (lacks-cons 32 (decimal player) (λ e. absurd (omega arith)) (digits_some player small)))

outcome_some : (outcome : Outcome) → OutcomeHasSpelling outcome → LacksByte 0 (outcome_text outcome)
unfolding outcome_text
outcome_some (Finished scores) h =
    let texts : List ℕ = flat_map (λ score. codes " " ++ decimal score) scores in
    lacks-cons 69 (48 ∷ texts) (λ e. absurd (omega arith)) (lacks-cons 48 texts (λ e. absurd (omega arith))
    (lacks-flat_map (λ score. score < 2 ^ 64) (λ score. codes " " ++ decimal score) (λ score small. lacks-append (codes " ") (decimal score) space_some (digits_some score small)) scores h.2))
outcome_some (Time player) h = kind_some 49 player (λ e. absurd (omega arith)) h
outcome_some (Refusals player) h = kind_some 50 player (λ e. absurd (omega arith)) h
outcome_some (Gone player) h = kind_some 51 player (λ e. absurd (omega arith)) h
outcome_some Heavy h = lacks-cons 69 (52 ∷ []) (λ e. absurd (omega arith)) (lacks-cons 52 [] (λ e. absurd (omega arith)) (All-nil (λ other. other ≢ 0)))

-- no byte of a name is zero
part_some : (byte : ℕ) → is_name_part byte ≡ true → byte ≢ 0
part_some byte h zero = let apart : false ≡ true = subst (λ b. is_name_part b ≡ true) zero h in cc

start_some : (byte : ℕ) → is_name_start byte ≡ true → byte ≢ 0
start_some byte h zero = let apart : false ≡ true = subst (λ b. is_name_start b ≡ true) zero h in cc

parts_some : (bytes : List ℕ) → list_all is_name_part bytes ≡ true → LacksByte 0 bytes
parts_some [] h = All-nil (λ other. other ≢ 0)
parts_some (byte ∷ bytes) h =
    let tests = and_parts (is_name_part byte) (list_all is_name_part bytes) h in
    lacks-cons byte bytes (part_some byte tests.0) (parts_some bytes tests.1)

name_some : (name : List ℕ) → IsTrue (is_name name) → LacksByte 0 name
name_some [] h = All-nil (λ other. other ≢ 0)
name_some (byte ∷ bytes) h =
    let tests = and_parts (is_name_start byte) (list_all is_name_part bytes) h in
    lacks-cons byte bytes (start_some byte tests.0) (parts_some bytes tests.1)

pub message_some : (message : AbstractMessage) → HasSpelling message → LacksByte 0 (message_text message)
unfolding message_text
message_some (who_message player name) h =
    lacks-append ((codes "W" ++ decimal player) ++ codes " ") name
    (lacks-append (codes "W" ++ decimal player) (codes " ") (lacks-cons 87 (decimal player) (λ e. absurd (omega arith)) (digits_some player h.0)) space_some) (name_some name h.1)
message_some (game_message text) h = lacks-cons 71 text (λ e. absurd (omega arith)) h
message_some (limits_message turn_ms refusals) h =
    lacks-append ((codes "L" ++ decimal turn_ms) ++ codes " ") (decimal refusals)
    (lacks-append (codes "L" ++ decimal turn_ms) (codes " ") (lacks-cons 76 (decimal turn_ms) (λ e. absurd (omega arith)) (digits_some turn_ms h.0)) space_some) (digits_some refusals h.1)
message_some (move_message pairs) h = lacks-cons 77 (pairs_text pairs) (λ e. absurd (omega arith)) (pairs_some pairs h.short)
message_some (refusal_message reason) h = lacks-cons 82 (decimal (reason_number reason)) (λ e. absurd (omega arith)) (digits_some (reason_number reason) (omega (arith, (reason_number-small reason).1)))
message_some (end_message outcome) h = outcome_some outcome h
message_some (join_message table) h = lacks-cons 72 (decimal table) (λ e. absurd (omega arith)) (digits_some table h)

-- the text before the first zero byte
same_front : (a b x y : List ℕ) → LacksByte 0 a → LacksByte 0 b → a ++ 0 ∷ x ≡ b ++ 0 ∷ y → (a ≡ b) × (x ≡ y)
same_front [] [] x y h k same = let parts : 0 ∷ x ≡ 0 ∷ y = same in (refl, cc)
same_front [] (c ∷ b) x y h k same = let parts : 0 ∷ x ≡ c ∷ (b ++ 0 ∷ y) = same in absurd (All-head (λ other. other ≢ 0) c b k (cc))
same_front (c ∷ a) [] x y h k same = let parts : c ∷ (a ++ 0 ∷ x) ≡ 0 ∷ y = same in absurd (All-head (λ other. other ≢ 0) c a h (cc))
same_front (c ∷ a) (d ∷ b) x y h k same =
    let parts : c ∷ (a ++ 0 ∷ x) ≡ d ∷ (b ++ 0 ∷ y) = same in
    let others = same_front a b x y (All-tail (λ other. other ≢ 0) c a h) (All-tail (λ other. other ≢ 0) d b k) cc in
    let first : c ≡ d = cc in
    (λ i. first i ∷ others.0 i, others.1)

spelling-append : (message : AbstractMessage) (more : List ℕ) → spelling message ++ more ≡ message_text message ++ 0 ∷ more
unfolding spelling
spelling-append message more = append_assoc (message_text message) (0 ∷ []) more

pub apart : SpellingsAreApart
apart a b x y h k same =
    let parts = same_front (message_text a) (message_text b) x y (message_some a h) (message_some b k) (sym (spelling-append a x) ∙ (same ∙ spelling-append b y)) in
    (one_message (message_text a) a b (record { has = h; is = refl }) (record { has = k; is = parts.0 }), parts.1)

-- a stream of spellings
pub spelled_items : SpellingsAreItems
spelled_items limit [] has fit = cut-none limit (incomplete [])
spelled_items limit (message ∷ messages) has fit =
    ap (cut limit (incomplete [])) (spelling-append message (flat_map spelling messages))
    ∙ (cut-message limit (message_text message) (flat_map spelling messages) (message_some message (All-head HasSpelling message messages has)) (All-head (λ m. length (message_text m) ≤ limit) message messages fit)
    ∙ ap (after_items (complete (message_text message) ∷ [])) (spelled_items limit messages (All-tail HasSpelling message messages has) (All-tail (λ m. length (message_text m) ≤ limit) message messages fit)))
