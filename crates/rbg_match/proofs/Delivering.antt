-- What each seat's bytes are when more is sent.
use Rattle.rbg_base.proofs.Common.{◌≡◌, ℕ, zero, suc, ◌+◌, ◌<◌, List, [], ◌∷◌, ◌++◌, length, map, replicate, refl, sym, ap, ◌∙◌, arith, add-one, get_or, set, append_assoc, ◌≢◌, range_with_len}
use Rattle.std.proofs.lemmas.List.{append-nil}
use Rattle.std.proofs.lemmas.List.Concat.{flat_map-append}
use Rattle.std.proofs.lemmas.Bool.{eq-eqb, ne_eqb}
use Rattle.rbg_wire.specs.Messages.{AbstractMessage, spelling}
use Rattle.rbg_match.specs.Deliveries.{Delivery, to_seat, to_each, to_others, bytes_for, queued, delivered_from, delivered}

pub bytes_for-append : (seat : ℕ) (a b : List Delivery) → bytes_for seat (a ++ b) ≡ bytes_for seat a ++ bytes_for seat b
bytes_for-append seat a b = flat_map-append _ a b

pub delivered_from-append : (seat : ℕ) (outbox : List (List ℕ)) (a b : List Delivery) → delivered_from seat (delivered_from seat outbox a) b ≡ delivered_from seat outbox (a ++ b)
delivered_from-append seat [] a b = refl
delivered_from-append seat (bytes ∷ others) a b = rw (delivered_from-append (suc seat) others a b, bytes_for-append seat a b, append_assoc) refl

-- what is sent in two lists is what is sent in one
pub delivered-append : (outbox : List (List ℕ)) (a b : List Delivery) → delivered (delivered outbox a) b ≡ delivered outbox (a ++ b)
delivered-append outbox a b = delivered_from-append 1 outbox a b

delivered_from-none : (seat : ℕ) (outbox : List (List ℕ)) → delivered_from seat outbox [] ≡ outbox
delivered_from-none seat [] = refl
delivered_from-none seat (bytes ∷ others) = rw (delivered_from-none (suc seat) others, append-nil bytes) refl

pub delivered-none : (outbox : List (List ℕ)) → delivered outbox [] ≡ outbox
delivered-none outbox = delivered_from-none 1 outbox

length-delivered_from : (seat : ℕ) (outbox : List (List ℕ)) (outgoing : List Delivery) → length (delivered_from seat outbox outgoing) ≡ length outbox
length-delivered_from seat [] outgoing = refl
length-delivered_from seat (bytes ∷ others) outgoing = ap suc (length-delivered_from (suc seat) others outgoing)

-- no seat comes or goes
pub length-delivered : (outbox : List (List ℕ)) (outgoing : List Delivery) → length (delivered outbox outgoing) ≡ length outbox
length-delivered outbox outgoing = length-delivered_from 1 outbox outgoing

-- the bytes of one message, to the seat that it is for and to another
bytes_for-same : (seat : ℕ) (message : AbstractMessage) → bytes_for seat (to_seat seat message) ≡ spelling message
bytes_for-same seat message = rw (eq-eqb seat seat refl) (append-nil (spelling message))

bytes_for-other : (seat other : ℕ) (message : AbstractMessage) → other ≢ seat → bytes_for seat (to_seat other message) ≡ []
bytes_for-other seat other message differ = rw (ne_eqb other seat differ) refl

-- a message to a seat before these leaves them as they are
delivered_from-before : (first : ℕ) (outbox : List (List ℕ)) (seat : ℕ) (message : AbstractMessage) → seat < first → delivered_from first outbox (to_seat seat message) ≡ outbox
delivered_from-before first [] seat message before = refl
delivered_from-before first (bytes ∷ others) seat message before =
    let differ : seat ≢ first = omega arith in
    let later : seat < suc first = omega arith in
    rw (bytes_for-other first seat message differ, delivered_from-before (suc first) others seat message later, append-nil bytes) refl

delivered_from-one : (first : ℕ) (outbox : List (List ℕ)) (index : ℕ) (message : AbstractMessage) → index < length outbox → delivered_from first outbox (to_seat (first + index) message) ≡ set outbox index (get_or outbox index [] ++ spelling message)
delivered_from-one first [] index message within = absurd (omega arith)
delivered_from-one first (bytes ∷ others) zero message within =
    let here : first + 0 ≡ first = omega arith in
    let before : first < suc first = omega arith in
    rw (here, bytes_for-same first message, delivered_from-before (suc first) others first message before) refl
delivered_from-one first (bytes ∷ others) (suc index) message within =
    let further : first + suc index ≡ suc first + index = omega arith in
    let differ : suc first + index ≢ first = omega arith in
    rw (further, bytes_for-other first (suc first + index) message differ, append-nil bytes, delivered_from-one (suc first) others index message (omega arith)) refl

-- one message puts its spelling after what its seat has
pub delivered-one : (outbox : List (List ℕ)) (index : ℕ) (message : AbstractMessage) → index < length outbox → delivered outbox (to_seat (index + 1) message) ≡ set outbox index (get_or outbox index [] ++ spelling message)
delivered-one outbox index message within =
    let same : index + 1 ≡ 1 + index = omega arith in
    rw same (delivered_from-one 1 outbox index message within)

queued_from : (first seats : ℕ) (outgoing : List Delivery) → delivered_from first (replicate seats []) outgoing ≡ map (λ seat. bytes_for seat outgoing) (range_with_len first seats)
queued_from first zero outgoing = refl
queued_from first (suc seats) outgoing = rw add-one (ap (λ others. bytes_for first outgoing ∷ others) (queued_from (suc first) seats outgoing))

-- what seats that had nothing have is what they have been sent
pub delivered-queued : (seats : ℕ) (outgoing : List Delivery) → delivered (replicate seats []) outgoing ≡ queued seats outgoing
delivered-queued seats outgoing = queued_from 1 seats outgoing

pub to_each-more : (seats : ℕ) (message : AbstractMessage) → to_each (seats + 1) message ≡ to_each seats message ++ to_seat (seats + 1) message
to_each-more seats message = rw add-one refl

pub to_others-more : (seats one : ℕ) (message : AbstractMessage) → seats + 1 ≢ one → to_others (seats + 1) one message ≡ to_others seats one message ++ to_seat (seats + 1) message
to_others-more seats one message differ = let apart : suc seats ≢ one = omega arith in rw (add-one, ne_eqb (suc seats) one apart) refl

pub to_others-same : (seats one : ℕ) (message : AbstractMessage) → seats + 1 ≡ one → to_others (seats + 1) one message ≡ to_others seats one message
to_others-same seats one message same = let equal : suc seats ≡ one = omega arith in rw (add-one, eq-eqb (suc seats) one equal) (append-nil (to_others seats one message))

-- what more is sent follows what each seat was sent
pub delivered-queued_more : (seats : ℕ) (first next : List Delivery) → delivered (queued seats first) next ≡ queued seats (first ++ next)
delivered-queued_more seats first next =
    ap (λ outbox. delivered outbox next) (sym (delivered-queued seats first)) ∙ delivered-append (replicate seats []) first next ∙ delivered-queued seats (first ++ next)
