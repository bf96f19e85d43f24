-- Messages and their texts.
use Rattle.rbg_base.proofs.Common.{◌≡◌, ◌≢◌, ℕ, ◌+◌, ◌<◌, ◌≤◌, ◌^◌, List, ◌∷◌, ◌++◌, length, take, drop, subst, decimal, codes, ap, sym, ◌∙◌, refl, arith, append_assoc, cond, Result, Ok, Err, ◌↔◌, IsErrOf, IsOkAnd, ◌==◌, decimal_injective, All-drop, All-head, drop-append_seam}
use Rattle.rbg_wire.proofs.Common.{WireError, Malformed, TooManyPairs, Message, Reason, Outcome, Unreadable, OutOfTurn, NotLegal, MoveTooLong, NoSeat, LacksByte, IsFirstPlace, AbstractMessage, who_message, game_message, limits_message, move_message, refusal_message, end_message, join_message, message_text, outcome_text, pairs_text, reason_number, message_of, SpellsMessage, SpellsMove, SpellsPairs, SpellsOutcome, SpellsWho, SpellsLimits, SpellsTooMany, HasFewPairs, ReadsPairs, ReadsMessage}
use Rattle.rbg_wire.proofs.FieldLemmas.{same_fields}
use Rattle.rbg_wire.proofs.OutcomeLemmas.{outcome_text-kind, one_outcome}
use Rattle.rbg_wire.proofs.PairLemmas.{one_spelled, SpellsMove-pairs}

who_text : (player : ℕ) (name : List ℕ) → message_text (who_message player name) ≡ 87 ∷ (decimal player ++ 32 ∷ name)
unfolding message_text
who_text player name = ap (λ t. 87 ∷ t) (append_assoc (decimal player) (codes " ") name)

limits_text : (turn_ms refusals : ℕ) → message_text (limits_message turn_ms refusals) ≡ 76 ∷ (decimal turn_ms ++ 32 ∷ decimal refusals)
unfolding message_text
limits_text turn_ms refusals = ap (λ t. 76 ∷ t) (append_assoc (decimal turn_ms) (codes " ") (decimal refusals))

game_text : (text : List ℕ) → message_text (game_message text) ≡ 71 ∷ text
unfolding message_text
game_text text = refl

move_text : (pairs : List (ℕ × ℕ)) → message_text (move_message pairs) ≡ 77 ∷ pairs_text pairs
unfolding message_text
move_text pairs = refl

refusal_text : (reason : Reason) → message_text (refusal_message reason) ≡ 82 ∷ decimal (reason_number reason)
unfolding message_text
refusal_text reason = refl

join_text : (table : ℕ) → message_text (join_message table) ≡ 72 ∷ decimal table
unfolding message_text
join_text table = refl

end_text : (outcome : Outcome) → message_text (end_message outcome) ≡ outcome_text outcome
unfolding message_text
end_text outcome = refl

-- A message with this text has the letter and the fields of its kind.
pub message_cases : (P : AbstractMessage → Type 0) (letter : ℕ) (rest : List ℕ)
    → ((player : ℕ) (name : List ℕ) → letter ≡ 87 → SpellsWho rest player name → P (who_message player name))
    → ((text : List ℕ) → letter ≡ 71 → LacksByte 0 text → rest ≡ text → P (game_message text))
    → ((turn_ms refusals : ℕ) → letter ≡ 76 → SpellsLimits rest turn_ms refusals → P (limits_message turn_ms refusals))
    → ((pairs : List (ℕ × ℕ)) → letter ≡ 77 → SpellsPairs rest pairs → P (move_message pairs))
    → ((reason : Reason) → letter ≡ 82 → rest ≡ decimal (reason_number reason) → P (refusal_message reason))
    → ((outcome : Outcome) → letter ≡ 69 → SpellsOutcome (69 ∷ rest) outcome → P (end_message outcome))
    → ((table : ℕ) → letter ≡ 72 → table < 2 ^ 64 → rest ≡ decimal table → P (join_message table))
    → (message : AbstractMessage) → SpellsMessage (letter ∷ rest) message → P message
message_cases P letter rest who game limits move refusal end join (who_message player name) h =
    let same : letter ∷ rest ≡ 87 ∷ (decimal player ++ 32 ∷ name) = h.is ∙ who_text player name in
    let spelled : SpellsWho rest player name = record { has = h.has; is = cc } in
    who player name (cc) spelled
message_cases P letter rest who game limits move refusal end join (game_message text) h =
    let same : letter ∷ rest ≡ 71 ∷ text = h.is ∙ game_text text in
    game text (cc) h.has (cc)
message_cases P letter rest who game limits move refusal end join (limits_message turn_ms refusals) h =
    let same : letter ∷ rest ≡ 76 ∷ (decimal turn_ms ++ 32 ∷ decimal refusals) = h.is ∙ limits_text turn_ms refusals in
    let spelled : SpellsLimits rest turn_ms refusals = record { has = h.has; is = cc } in
    limits turn_ms refusals (cc) spelled
message_cases P letter rest who game limits move refusal end join (move_message pairs) h =
    let same : letter ∷ rest ≡ 77 ∷ pairs_text pairs = h.is ∙ move_text pairs in
    let spelled : SpellsPairs rest pairs = record { are = h.has; is = cc } in
    move pairs (cc) spelled
message_cases P letter rest who game limits move refusal end join (refusal_message reason) h =
    let same : letter ∷ rest ≡ 82 ∷ decimal (reason_number reason) = h.is ∙ refusal_text reason in
    refusal reason (cc) (cc)
message_cases P letter rest who game limits move refusal end join (end_message outcome) h =
    let parts = outcome_text-kind outcome in
    let same : letter ∷ rest ≡ 69 ∷ (parts.0 ∷ parts.1) = h.is ∙ (end_text outcome ∙ parts.2) in
    let is : letter ≡ 69 = cc in
    end outcome is (record { has = h.has; is = ap (λ l. l ∷ rest) (sym is) ∙ (h.is ∙ end_text outcome) })
message_cases P letter rest who game limits move refusal end join (join_message table) h =
    let same : letter ∷ rest ≡ 72 ∷ decimal table = h.is ∙ join_text table in
    join table (cc) h.has (cc)

-- and the letter and the fields of a kind are the text of a message
pub spells_who : (rest : List ℕ) (player : ℕ) (name : List ℕ) → SpellsWho rest player name → SpellsMessage (87 ∷ rest) (who_message player name)
spells_who rest player name h = record { has = h.has; is = ap (λ t. 87 ∷ t) h.is ∙ sym (who_text player name) }

pub spells_game : (text : List ℕ) → LacksByte 0 text → SpellsMessage (71 ∷ text) (game_message text)
spells_game text h = record { has = h; is = sym (game_text text) }

pub spells_limits : (rest : List ℕ) (turn_ms refusals : ℕ) → SpellsLimits rest turn_ms refusals → SpellsMessage (76 ∷ rest) (limits_message turn_ms refusals)
spells_limits rest turn_ms refusals h = record { has = h.has; is = ap (λ t. 76 ∷ t) h.is ∙ sym (limits_text turn_ms refusals) }

pub spells_move : (rest : List ℕ) (pairs : List (ℕ × ℕ)) → SpellsPairs rest pairs → SpellsMessage (77 ∷ rest) (move_message pairs)
spells_move rest pairs h = record { has = h.are; is = ap (λ t. 77 ∷ t) h.is ∙ sym (move_text pairs) }

pub spells_refusal : (rest : List ℕ) (reason : Reason) → rest ≡ decimal (reason_number reason) → SpellsMessage (82 ∷ rest) (refusal_message reason)
spells_refusal rest reason is = record { has = tt; is = ap (λ t. 82 ∷ t) is ∙ sym (refusal_text reason) }

pub spells_end : (rest : List ℕ) (outcome : Outcome) → SpellsOutcome (69 ∷ rest) outcome → SpellsMessage (69 ∷ rest) (end_message outcome)
spells_end rest outcome h = record { has = h.has; is = h.is ∙ sym (end_text outcome) }

pub spells_join : (rest : List ℕ) (table : ℕ) → (table < 2 ^ 64) × (rest ≡ decimal table) → SpellsMessage (72 ∷ rest) (join_message table)
spells_join rest table h = record { has = h.0; is = ap (λ t. 72 ∷ t) h.1 ∙ sym (join_text table) }

-- no text of a message is empty
message_text-letter : (message : AbstractMessage) → (letter : ℕ) × (rest : List ℕ) × (message_text message ≡ letter ∷ rest)
message_text-letter (who_message player name) = (87, decimal player ++ 32 ∷ name, who_text player name)
message_text-letter (game_message text) = (71, text, game_text text)
message_text-letter (limits_message turn_ms refusals) = (76, decimal turn_ms ++ 32 ∷ decimal refusals, limits_text turn_ms refusals)
message_text-letter (move_message pairs) = (77, pairs_text pairs, move_text pairs)
message_text-letter (refusal_message reason) = (82, decimal (reason_number reason), refusal_text reason)
message_text-letter (end_message outcome) = let parts = outcome_text-kind outcome in (69, parts.0 ∷ parts.1, end_text outcome ∙ parts.2)
message_text-letter (join_message table) = (72, decimal table, join_text table)

pub no_empty_message : (text : List ℕ) → length text ≡ 0 → (message : AbstractMessage) → SpellsMessage text message → ⊥
no_empty_message text none message h =
    let parts = message_text-letter message in
    let counted : length text ≡ length parts.1 + 1 = ap length (h.is ∙ parts.2) ∙ omega arith in
    absurd (omega arith)

-- A message whose text has the letter of a kind is one of that kind.
only_who : (rest : List ℕ) (P : AbstractMessage → Type 0) → ((player : ℕ) (name : List ℕ) → SpellsWho rest player name → P (who_message player name)) → (message : AbstractMessage) → SpellsMessage (87 ∷ rest) message → P message
only_who rest P who = message_cases P 87 rest (λ player name e h. who player name h) (λ text e l h. absurd (omega arith)) (λ t r e h. absurd (omega arith)) (λ ps e h. absurd (omega arith)) (λ r e h. absurd (omega arith)) (λ o e h. absurd (omega arith)) (λ t e l h. absurd (omega arith))

only_game : (rest : List ℕ) (P : AbstractMessage → Type 0) → ((text : List ℕ) → LacksByte 0 text → rest ≡ text → P (game_message text)) → (message : AbstractMessage) → SpellsMessage (71 ∷ rest) message → P message
only_game rest P game = message_cases P 71 rest (λ player name e h. absurd (omega arith)) (λ text e l h. game text l h) (λ t r e h. absurd (omega arith)) (λ ps e h. absurd (omega arith)) (λ r e h. absurd (omega arith)) (λ o e h. absurd (omega arith)) (λ t e l h. absurd (omega arith))

only_limits : (rest : List ℕ) (P : AbstractMessage → Type 0) → ((turn_ms refusals : ℕ) → SpellsLimits rest turn_ms refusals → P (limits_message turn_ms refusals)) → (message : AbstractMessage) → SpellsMessage (76 ∷ rest) message → P message
only_limits rest P limits = message_cases P 76 rest (λ player name e h. absurd (omega arith)) (λ text e l h. absurd (omega arith)) (λ t r e h. limits t r h) (λ ps e h. absurd (omega arith)) (λ r e h. absurd (omega arith)) (λ o e h. absurd (omega arith)) (λ t e l h. absurd (omega arith))

only_move : (rest : List ℕ) (P : AbstractMessage → Type 0) → ((pairs : List (ℕ × ℕ)) → SpellsPairs rest pairs → P (move_message pairs)) → (message : AbstractMessage) → SpellsMessage (77 ∷ rest) message → P message
only_move rest P move = message_cases P 77 rest (λ player name e h. absurd (omega arith)) (λ text e l h. absurd (omega arith)) (λ t r e h. absurd (omega arith)) (λ ps e h. move ps h) (λ r e h. absurd (omega arith)) (λ o e h. absurd (omega arith)) (λ t e l h. absurd (omega arith))

only_refusal : (rest : List ℕ) (P : AbstractMessage → Type 0) → ((reason : Reason) → rest ≡ decimal (reason_number reason) → P (refusal_message reason)) → (message : AbstractMessage) → SpellsMessage (82 ∷ rest) message → P message
only_refusal rest P refusal = message_cases P 82 rest (λ player name e h. absurd (omega arith)) (λ text e l h. absurd (omega arith)) (λ t r e h. absurd (omega arith)) (λ ps e h. absurd (omega arith)) (λ r e h. refusal r h) (λ o e h. absurd (omega arith)) (λ t e l h. absurd (omega arith))

only_end : (rest : List ℕ) (P : AbstractMessage → Type 0) → ((outcome : Outcome) → SpellsOutcome (69 ∷ rest) outcome → P (end_message outcome)) → (message : AbstractMessage) → SpellsMessage (69 ∷ rest) message → P message
only_end rest P end = message_cases P 69 rest (λ player name e h. absurd (omega arith)) (λ text e l h. absurd (omega arith)) (λ t r e h. absurd (omega arith)) (λ ps e h. absurd (omega arith)) (λ r e h. absurd (omega arith)) (λ o e h. end o h) (λ t e l h. absurd (omega arith))

only_join : (rest : List ℕ) (P : AbstractMessage → Type 0) → ((table : ℕ) → table < 2 ^ 64 → rest ≡ decimal table → P (join_message table)) → (message : AbstractMessage) → SpellsMessage (72 ∷ rest) message → P message
only_join rest P join = message_cases P 72 rest (λ player name e h. absurd (omega arith)) (λ text e l h. absurd (omega arith)) (λ t r e h. absurd (omega arith)) (λ ps e h. absurd (omega arith)) (λ r e h. absurd (omega arith)) (λ o e h. absurd (omega arith)) (λ t e l h. join t l h)

-- A text with the letter of a kind has the fields of that kind, or is the text of no message.
pub no_who : (rest : List ℕ) → ((player : ℕ) (name : List ℕ) → SpellsWho rest player name → ⊥) → (message : AbstractMessage) → SpellsMessage (87 ∷ rest) message → ⊥
no_who rest none = only_who rest (λ _. ⊥) none

pub no_game : (rest : List ℕ) → (LacksByte 0 rest → ⊥) → (message : AbstractMessage) → SpellsMessage (71 ∷ rest) message → ⊥
no_game rest none = only_game rest (λ _. ⊥) (λ text l h. none (subst (LacksByte 0) (sym h) l))

pub no_limits : (rest : List ℕ) → ((turn_ms refusals : ℕ) → SpellsLimits rest turn_ms refusals → ⊥) → (message : AbstractMessage) → SpellsMessage (76 ∷ rest) message → ⊥
no_limits rest none = only_limits rest (λ _. ⊥) none

pub no_move : (rest : List ℕ) → ((pairs : List (ℕ × ℕ)) → SpellsPairs rest pairs → ⊥) → (message : AbstractMessage) → SpellsMessage (77 ∷ rest) message → ⊥
no_move rest none = only_move rest (λ _. ⊥) none

pub no_refusal : (rest : List ℕ) → ((reason : Reason) → rest ≡ decimal (reason_number reason) → ⊥) → (message : AbstractMessage) → SpellsMessage (82 ∷ rest) message → ⊥
no_refusal rest none = only_refusal rest (λ _. ⊥) none

pub no_end : (rest : List ℕ) → ((outcome : Outcome) → SpellsOutcome (69 ∷ rest) outcome → ⊥) → (message : AbstractMessage) → SpellsMessage (69 ∷ rest) message → ⊥
no_end rest none = only_end rest (λ _. ⊥) none

pub no_join : (rest : List ℕ) → ((table : ℕ) → table < 2 ^ 64 → rest ≡ decimal table → ⊥) → (message : AbstractMessage) → SpellsMessage (72 ∷ rest) message → ⊥
no_join rest none = only_join rest (λ _. ⊥) none

pub no_letter : (letter : ℕ) (rest : List ℕ) → letter ≢ 87 → letter ≢ 71 → letter ≢ 76 → letter ≢ 77 → letter ≢ 82 → letter ≢ 69 → letter ≢ 72 → (message : AbstractMessage) → SpellsMessage (letter ∷ rest) message → ⊥
no_letter letter rest who game limits move refusal end join = message_cases (λ _. ⊥) letter rest (λ player name e h. who e) (λ text e l h. game e) (λ t r e h. limits e) (λ ps e h. move e) (λ r e h. refusal e) (λ o e h. end e) (λ t e l h. join e)

-- a text does not lack a byte that occurs in it
pub first_stands : (byte : ℕ) (text : List ℕ) (at : ℕ) → IsFirstPlace byte text at → LacksByte byte text → ⊥
first_stands byte text at place lacks =
    let others = subst (LacksByte byte) place.parts lacks in
    let later = All-drop (λ other. other ≢ byte) (length (take at text)) (take at text ++ byte ∷ drop (at + 1) text) others in
    let here = subst (LacksByte byte) (drop-append_seam (take at text) (byte ∷ drop (at + 1) text)) later in
    All-head (λ other. other ≢ byte) byte (drop (at + 1) text) here refl

-- the number of a reason
pub reason_number-small : (reason : Reason) → (0 < reason_number reason) × (reason_number reason ≤ 5)
reason_number-small Unreadable = (omega arith, omega arith)
reason_number-small OutOfTurn = (omega arith, omega arith)
reason_number-small NotLegal = (omega arith, omega arith)
reason_number-small MoveTooLong = (omega arith, omega arith)
reason_number-small NoSeat = (omega arith, omega arith)

pub same_reason : (text : List ℕ) (n : ℕ) (reason : Reason) → n < 2 ^ 64 → text ≡ decimal n → text ≡ decimal (reason_number reason) → n ≡ reason_number reason
same_reason text n reason small is spelled = decimal_injective n (reason_number reason) small (omega (arith, (reason_number-small reason).1)) (sym is ∙ spelled)

-- what reading pairs returns, as what reading the message returns
pub reads_pairs_err : (text rest : List ℕ) (e : WireError) (answer : Result Message WireError) → text ≡ 77 ∷ rest → answer ≡ Err e → ReadsPairs (SpellsPairs rest) (Err e) → ReadsMessage text answer
reads_pairs_err text rest TooManyPairs answer parts same h = rw same (record { pairs = h.pairs; spelled = SpellsMove-pairs text rest h.pairs parts h.spelled; more = h.more })
reads_pairs_err text rest Malformed answer parts same h = rw same (λ message spelled. no_move rest h message (record { has = spelled.has; is = sym parts ∙ spelled.is }))

pub reads_pairs_ok : (text rest : List ℕ) (pairs : List (ℕ × ℕ)) → text ≡ 77 ∷ rest → ReadsPairs (SpellsPairs rest) (Ok pairs) → SpellsMessage text (move_message pairs) × (length pairs ≤ 200)
reads_pairs_ok text rest pairs parts h = let spelled = spells_move rest pairs h.0 in (record { has = spelled.has; is = parts ∙ spelled.is }, h.1)

-- fields of one kind
same_who : (rest : List ℕ) (p q : ℕ) (m n : List ℕ) → SpellsWho rest p m → SpellsWho rest q n → who_message p m ≡ who_message q n
same_who rest p q m n h k = let parts = same_fields rest m n p q h.has.0 k.has.0 h.is k.is in λ i. who_message (parts.0 i) (parts.1 i)

same_limits : (rest : List ℕ) (a b c d : ℕ) → SpellsLimits rest a b → SpellsLimits rest c d → limits_message a b ≡ limits_message c d
same_limits rest a b c d h k =
    let parts = same_fields rest (decimal b) (decimal d) a c h.has.0 k.has.0 h.is k.is in
    let refusals : b ≡ d = decimal_injective b d h.has.1 k.has.1 parts.1 in
    λ i. limits_message (parts.0 i) (refusals i)

-- the reason that has a number
reason_of : ℕ → Reason
reason_of n = cond (n == 1) Unreadable (cond (n == 2) OutOfTurn (cond (n == 3) NotLegal (cond (n == 4) MoveTooLong NoSeat)))

reason_of-reason_number : (reason : Reason) → reason_of (reason_number reason) ≡ reason
unfolding reason_of
reason_of-reason_number Unreadable = refl
reason_of-reason_number OutOfTurn = refl
reason_of-reason_number NotLegal = refl
reason_of-reason_number MoveTooLong = refl
reason_of-reason_number NoSeat = refl

same_refusal : (rest : List ℕ) (a b : Reason) → rest ≡ decimal (reason_number a) → rest ≡ decimal (reason_number b) → refusal_message a ≡ refusal_message b
same_refusal rest a b h k =
    let number : reason_number a ≡ reason_number b = same_reason rest (reason_number a) b (omega (arith, (reason_number-small a).1)) h k in
    ap refusal_message (sym (reason_of-reason_number a) ∙ (ap reason_of number ∙ reason_of-reason_number b))

one_message_after : (letter : ℕ) (rest : List ℕ) (a b : AbstractMessage) → SpellsMessage (letter ∷ rest) a → SpellsMessage (letter ∷ rest) b → a ≡ b
one_message_after letter rest a b h k = message_cases (λ m. m ≡ b) letter rest
    (λ p m is first. only_who rest (λ o. who_message p m ≡ o) (λ q n second. same_who rest p q m n first second) b (at is))
    (λ t is lacks first. only_game rest (λ o. game_message t ≡ o) (λ u l second. ap game_message (sym first ∙ second)) b (at is))
    (λ x y is first. only_limits rest (λ o. limits_message x y ≡ o) (λ v w second. same_limits rest x y v w first second) b (at is))
    (λ qs is first. only_move rest (λ o. move_message qs ≡ o) (λ rs second. ap move_message (one_spelled rest qs rs first second)) b (at is))
    (λ x is first. only_refusal rest (λ o. refusal_message x ≡ o) (λ y second. same_refusal rest x y first second) b (at is))
    (λ x is first. only_end rest (λ o. end_message x ≡ o) (λ y second. ap end_message (one_outcome (69 ∷ rest) x y first second)) b (at is))
    (λ x is small first. only_join rest (λ o. join_message x ≡ o) (λ y low second. ap join_message (decimal_injective x y small low (sym first ∙ second))) b (at is))
    a h
  where
    at : {other : ℕ} → letter ≡ other → SpellsMessage (other ∷ rest) b
    at is = subst (λ (one : ℕ). SpellsMessage (one ∷ rest) b) is k

-- A text is that of one message.
pub one_message : (text : List ℕ) (a b : AbstractMessage) → SpellsMessage text a → SpellsMessage text b → a ≡ b
one_message text a b h k =
    let parts = message_text-letter a in
    let text_is : text ≡ parts.0 ∷ parts.1 = h.is ∙ parts.2 in
    one_message_after parts.0 parts.1 a b (record { has = h.has; is = sym parts.2 }) (record { has = k.has; is = sym text_is ∙ k.is })

-- the clauses of the call, from its result
pub message_only : (text : List ℕ) (answer : Result Message WireError) → ReadsMessage text answer → (message : AbstractMessage) → SpellsMessage text message → HasFewPairs message → IsOkAnd answer (λ m. message_of m ≡ message)
message_only text (Ok m) h message spelled few = one_message text (message_of m) message h.0 spelled
message_only text (Err TooManyPairs) h message spelled few =
    let same : message ≡ move_message h.pairs = one_message text message (move_message h.pairs) spelled (record { has = h.spelled.are; is = h.spelled.is }) in
    let short : length h.pairs ≤ 200 = subst HasFewPairs same few in
    absurd (omega (arith, h.more))
message_only text (Err Malformed) h message spelled few = absurd (h message spelled)

pub message_too_many : (text : List ℕ) (answer : Result Message WireError) → ReadsMessage text answer → IsErrOf answer TooManyPairs ↔ SpellsTooMany (SpellsMove text)
message_too_many text (Ok m) h = (
  λ apart. cc,
  λ many.
      let same : message_of m ≡ move_message many.pairs = one_message text (message_of m) (move_message many.pairs) h.0 (record { has = many.spelled.are; is = many.spelled.is }) in
      let short : length many.pairs ≤ 200 = subst HasFewPairs same h.1 in
      absurd (omega (arith, many.more)),
)
message_too_many text (Err TooManyPairs) h = (λ _. h, λ _. refl)
message_too_many text (Err Malformed) h = (λ apart. cc, λ many. absurd (h (move_message many.pairs) (record { has = many.spelled.are; is = many.spelled.is })))
