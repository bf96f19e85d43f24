-- No message of a match has a zero byte.
use Rattle.rbg_base.proofs.Common.{◌≢◌, ℕ, zero, suc, ◌+◌, ◌/◌, ◌%◌, ◌==◌, Bool, true, false, if◌then◌else◌, List, [], ◌∷◌, ◌++◌, length, drop_at, refl, subst, arith, codes, decimal, flat_map, IsTrue, nat_lt, All-nil, All-cons, All-append, All-drop}
use Rattle.std.specs.Fmt.{digits, digits_onto, digit_glyph}
use Rattle.rbg_base.specs.Names.{is_name}
use Rattle.rbg_wire.proofs.LawLemmas.{message_some}
use Rattle.rbg_wire.proofs.Common.{LacksByte, AbstractMessage, who_message, game_message, limits_message, move_message, refusal_message, end_message, message_text, outcome_text, pair_text, pairs_text, reason_number}
use Rattle.rbg_wire.specs.declared.message.Reason.{Reason}
use Rattle.rbg_wire.specs.declared.outcome.Outcome.{Outcome}
use Rattle.rbg_wire.specs.declared.outcome.Outcome.TheVariants.{Finished, Time, Refusals, Gone, Heavy}

lacks-append : (a b : List ℕ) → LacksByte 0 a → LacksByte 0 b → LacksByte 0 (a ++ b)
lacks-append a b h k = All-append (λ other. other ≢ 0) a b h k

lacks-cons : (byte : ℕ) (bytes : List ℕ) → byte ≢ 0 → LacksByte 0 bytes → LacksByte 0 (byte ∷ bytes)
lacks-cons byte bytes some h = All-cons (λ other. other ≢ 0) byte bytes some h

lacks-nil : LacksByte 0 []
lacks-nil = All-nil (λ other. other ≢ 0)

-- digits, of however great a number
glyph_some : (small : Bool) (d : ℕ) → (if small then 48 + d else (if false then 55 + d else 87 + d)) ≢ 0
glyph_some true d is = absurd (omega (arith, is))
glyph_some false d is = absurd (omega (arith, is))

either_some : (test : Bool) (a b : List ℕ) → LacksByte 0 a → LacksByte 0 b → LacksByte 0 (if test then a else b)
either_some true a b h k = h
either_some false a b h k = k

onto_some : (k n : ℕ) (beyond : List ℕ) → LacksByte 0 beyond → LacksByte 0 (digits_onto k 10 false n beyond)
onto_some zero n beyond lacks = lacks
onto_some (suc k) n beyond lacks =
    let more : LacksByte 0 (digit_glyph false (n % 10) ∷ beyond) = lacks-cons (digit_glyph false (n % 10)) beyond (glyph_some (nat_lt (n % 10) 10) (n % 10)) lacks in
    either_some (n / 10 == 0) (digit_glyph false (n % 10) ∷ beyond) (digits_onto k 10 false (n / 10) (digit_glyph false (n % 10) ∷ beyond)) more (onto_some k (n / 10) (digit_glyph false (n % 10) ∷ beyond) more)

decimal_some : (n : ℕ) → LacksByte 0 (decimal n)
unfolding digits
decimal_some n = onto_some 64 n [] lacks-nil

space_some : LacksByte 0 (codes " ")
space_some = lacks-cons 32 [] (λ e. absurd (omega (arith, e))) lacks-nil

lacks-flat_map : {X : Type 0} (text : X → List ℕ) → ((x : X) → LacksByte 0 (text x)) → (xs : List X) → LacksByte 0 (flat_map text xs)
lacks-flat_map text each [] = lacks-nil
lacks-flat_map text each (x ∷ xs) = lacks-append (text x) (flat_map text xs) (each x) (lacks-flat_map text each xs)

pair_some : (p : ℕ × ℕ) → LacksByte 0 (pair_text p)
pair_some p = lacks-append (decimal p.0 ++ codes " ") (decimal p.1) (lacks-append (decimal p.0) (codes " ") (decimal_some p.0) space_some) (decimal_some p.1)

pairs_some : (pairs : List (ℕ × ℕ)) → LacksByte 0 (pairs_text pairs)
unfolding pairs_text
pairs_some [] = lacks-nil
pairs_some (p ∷ ps) =
    lacks-append (pair_text p) (flat_map (λ q. codes " " ++ pair_text q) ps) (pair_some p)
    (lacks-flat_map (λ q. codes " " ++ pair_text q) (λ q. lacks-append (codes " ") (pair_text q) space_some (pair_some q)) ps)

kind_some : (kind player : ℕ) → kind ≢ 0 → LacksByte 0 (69 ∷ kind ∷ 32 ∷ decimal player)
kind_some kind player some =
    lacks-cons 69 (kind ∷ 32 ∷ decimal player) (λ e. absurd (omega (arith, e))) (lacks-cons kind (32 ∷ decimal player) some (lacks-cons 32 (decimal player) (λ e. absurd (omega (arith, e))) (decimal_some player)))

outcome_some : (outcome : Outcome) → LacksByte 0 (outcome_text outcome)
unfolding outcome_text
outcome_some (Finished scores) =
    let texts : List ℕ = flat_map (λ score. codes " " ++ decimal score) scores in
    lacks-cons 69 (48 ∷ texts) (λ e. absurd (omega (arith, e))) (lacks-cons 48 texts (λ e. absurd (omega (arith, e)))
    (lacks-flat_map (λ score. codes " " ++ decimal score) (λ score. lacks-append (codes " ") (decimal score) space_some (decimal_some score)) scores))
outcome_some (Time player) = kind_some 49 player (λ e. absurd (omega (arith, e)))
outcome_some (Refusals player) = kind_some 50 player (λ e. absurd (omega (arith, e)))
outcome_some (Gone player) = kind_some 51 player (λ e. absurd (omega (arith, e)))
outcome_some Heavy = lacks-cons 69 (52 ∷ []) (λ e. absurd (omega (arith, e))) (lacks-cons 52 [] (λ e. absurd (omega (arith, e))) lacks-nil)

-- a message that can be sent on a stream
abbrev pub IsSayable : AbstractMessage → Type 0
IsSayable message = LacksByte 0 (message_text message)

pub move_sayable : (pairs : List (ℕ × ℕ)) → IsSayable (move_message pairs)
unfolding message_text
move_sayable pairs = lacks-cons 77 (pairs_text pairs) (λ e. absurd (omega (arith, e))) (pairs_some pairs)

pub end_sayable : (outcome : Outcome) → IsSayable (end_message outcome)
unfolding message_text
end_sayable outcome = outcome_some outcome

pub refusal_sayable : (reason : Reason) → IsSayable (refusal_message reason)
unfolding message_text
refusal_sayable reason = lacks-cons 82 (decimal (reason_number reason)) (λ e. absurd (omega (arith, e))) (decimal_some (reason_number reason))

pub game_sayable : (text : List ℕ) → LacksByte 0 text → IsSayable (game_message text)
unfolding message_text
game_sayable text lacks = lacks-cons 71 text (λ e. absurd (omega (arith, e))) lacks

pub limits_sayable : (turn refusals : ℕ) → IsSayable (limits_message turn refusals)
unfolding message_text
limits_sayable turn refusals =
    lacks-append ((codes "L" ++ decimal turn) ++ codes " ") (decimal refusals)
    (lacks-append (codes "L" ++ decimal turn) (codes " ") (lacks-cons 76 (decimal turn) (λ e. absurd (omega (arith, e))) (decimal_some turn)) space_some) (decimal_some refusals)

-- a name, taken from a message of a small number
name_some : (name : List ℕ) → IsTrue (is_name name) → LacksByte 0 name
unfolding message_text
name_some name is =
    let front : List ℕ = (codes "W" ++ decimal 0) ++ codes " " in
    let all : LacksByte 0 (front ++ name) = message_some (who_message 0 name) (omega arith, is) in
    subst (LacksByte 0) (drop_at front name (length front) refl) (All-drop (λ other. other ≢ 0) (length front) (front ++ name) all)

pub who_sayable : (player : ℕ) (name : List ℕ) → IsTrue (is_name name) → IsSayable (who_message player name)
unfolding message_text
who_sayable player name is =
    lacks-append ((codes "W" ++ decimal player) ++ codes " ") name
    (lacks-append (codes "W" ++ decimal player) (codes " ") (lacks-cons 87 (decimal player) (λ e. absurd (omega (arith, e))) (decimal_some player)) space_some) (name_some name is)
