-- Lemmas on the printed lines of a match.
use Rattle.rbg_base.proofs.Common.{false, ◌≡◌, ℕ, ◌+◌, ◌<◌, ◌==◌, List, [], ◌∷◌, ◌++◌, All, length, take, get_or, if◌then◌else◌, ap, sym, ◌∙◌, refl, subst, arith, codes, decimal, append_assoc, flat_map, nat_tests, All-push}
use Rattle.std.proofs.lemmas.List.{take_more, length-take-le, flat_map_more}
use Rattle.rbg_wire.proofs.Common.{LacksByte, game_letter}
use Rattle.rbg_referee.specs.Printed.{with_zero, AreMessages, printed_message, message_line, seat_lines, IsPrinted}
use Rattle.rbg_referee.specs.Printed.IsPrinted.{one_more}

-- a message that is not the description is printed as it is
pub other_message : (message : List ℕ) → ((text : List ℕ) → message ≡ codes "G" ++ text → ⊥) → printed_message message ≡ message
unfolding printed_message
other_message [] other = refl
other_message (letter ∷ text) other =
    let differs : letter ≡ game_letter → ⊥ = λ same. other text (ap (λ first. first ∷ text) same) in
    let test : (letter == game_letter) ≡ false = grind (arith, nat_tests) in
    ap (λ is. if is then codes "G " ++ decimal (length text) else letter ∷ text) test

-- the description is printed as its number of bytes
pub game_message : (message text : List ℕ) → message ≡ codes "G" ++ text → printed_message message ≡ codes "G " ++ decimal (length text)
unfolding printed_message
game_message message text is = ap printed_message is

-- The lines of some messages are printed, and the others are in what is left.
abbrev pub ArePrintedOf : (seat : ℕ) (bytes left before lines : List ℕ) → Type 0
ArePrintedOf seat bytes left before lines =
    (messages : List (List ℕ))
    × (bytes ≡ flat_map with_zero messages ++ left)
    × All (LacksByte 0) messages
    × (lines ≡ before ++ seat_lines seat messages)

-- one more message is printed
pub message_more : (seat : ℕ) (bytes left rest message before lines new : List ℕ) → ArePrintedOf seat bytes left before lines → left ≡ message ++ 0 ∷ rest → LacksByte 0 message → new ≡ lines ++ message_line seat message → ArePrintedOf seat bytes rest before new
message_more seat bytes left rest message before lines new (messages, parts, whole, printed) is lacks adds =
    let more : List (List ℕ) = messages ++ message ∷ [] in
    let split : message ++ 0 ∷ rest ≡ with_zero message ++ rest = sym (append_assoc message (0 ∷ []) rest) in
    let joined : flat_map with_zero messages ++ with_zero message ≡ flat_map with_zero more = flat_map_more with_zero [] messages message in
    let stream : bytes ≡ flat_map with_zero more ++ rest =
    parts ∙ (ap (λ l. flat_map with_zero messages ++ l) (is ∙ split) ∙ (sym (append_assoc (flat_map with_zero messages) (with_zero message) rest) ∙ ap (λ l. l ++ rest) joined)) in
    let text : new ≡ before ++ seat_lines seat more =
    adds ∙ (ap (λ l. l ++ message_line seat message) printed ∙ flat_map_more (message_line seat) before messages message) in
    (more, stream, All-push (LacksByte 0) messages message whole lacks, text)

-- one more seat is printed
pub printed_more : (outbox : List (List ℕ)) (k seat : ℕ) (bytes lines new : List ℕ) (messages : List (List ℕ)) → k < length outbox → seat ≡ k + 1 → bytes ≡ get_or outbox k [] → IsPrinted (take k outbox) lines → AreMessages bytes messages → new ≡ lines ++ seat_lines seat messages → IsPrinted (take (k + 1) outbox) new
printed_more outbox k seat bytes lines new messages below at is printed are adds =
    let long : length (take k outbox) ≡ k = length-take-le k outbox (omega (arith, below)) in
    let one : IsPrinted (take k outbox ++ bytes ∷ []) (lines ++ seat_lines (length (take k outbox) + 1) messages) = one_more (take k outbox) bytes lines messages printed are in
    let seats : take k outbox ++ bytes ∷ [] ≡ take (k + 1) outbox = ap (λ b. take k outbox ++ b ∷ []) is ∙ sym (take_more outbox k [] below) in
    let text : lines ++ seat_lines (length (take k outbox) + 1) messages ≡ new = ap (λ n. lines ++ seat_lines (n + 1) messages) long ∙ (ap (λ n. lines ++ seat_lines n messages) (sym at) ∙ sym adds) in
    subst (λ s. IsPrinted s new) seats (subst (λ t. IsPrinted (take k outbox ++ bytes ∷ []) t) text one)
