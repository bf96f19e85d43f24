-- Calls that queue messages, one after another.
use Rattle.rbg_base.proofs.Common.{◌≡◌, ℕ, ◌+◌, ◌-◌, ◌<◌, ◌≤◌, List, [], ◌++◌, length, map, get_or, set, refl, sym, ap, ◌∙◌, subst, arith, Result, Ok, Err, Vec, OnOk, OnErr, IsErr, IfOk-from_err, set-get_or, map-set, get_or-map, length-map}
use Rattle.rbg_wire.specs.Messages.{AbstractMessage, spelling}
use Rattle.rbg_match.proofs.Common.{Delivery, delivered, to_seat, QueuesMessages}
use Rattle.rbg_match.proofs.Delivering.{delivered-append, delivered-none, delivered-one, length-delivered}

-- what was sent next follows what was sent first
pub said_more : {middle new : List (List ℕ)} (old : List (List ℕ)) (first next : List Delivery) → middle ≡ delivered old first → new ≡ delivered middle next → new ≡ delivered old (first ++ next)
said_more old first next before after = after ∙ ap (λ outbox. delivered outbox next) before ∙ delivered-append old first next

-- two calls that were not refused
abbrev pub both_said : {T U E F : Type 0} {old middle new : List (List ℕ)} {first : T} {next : U} {IsFirst : T → List Delivery → Type 0} {IsNext : U → List Delivery → Type 0} → QueuesMessages {E = E} old middle (Ok first) IsFirst → QueuesMessages {E = F} middle new (Ok next) IsNext → QueuesMessages {E = F} old new (Ok next) (λ _ _. Unit {0})
both_said {old = old} one two = record { outgoing = one.outgoing ++ two.outgoing; beyond = said_more old one.outgoing two.outgoing one.beyond two.beyond; whole = tt }

-- after what was sent first, a call that was refused: the answer is a refusal
pub said_refused : {T U E F : Type 0} {old middle new : List (List ℕ)} {result : Result T E} {IsToSay : T → List Delivery → Type 0} (first : List Delivery) → middle ≡ delivered old first → QueuesMessages middle new result IsToSay → (refusal : Result U F) → IsErr refusal → (Both : U → List Delivery → Type 0) → QueuesMessages old new refusal Both
said_refused {old = old} first before says refusal is_err Both = record {
  outgoing = first ++ says.outgoing;
  beyond = said_more old first says.outgoing before says.beyond;
  whole = IfOk-from_err refusal (λ value. Both value (first ++ says.outgoing)) is_err;
}

-- a spelling put after what one seat has
pub one_said : {E : Type 0} (old : List (List ℕ)) (index : ℕ) (message : AbstractMessage) (bytes : List ℕ) (result : Result (Unit {0}) E) → index < length old → OnOk result (bytes ≡ get_or old index [] ++ spelling message) → OnErr result (bytes ≡ get_or old index []) → QueuesMessages old (set old index bytes) result (λ _ outgoing. outgoing ≡ to_seat (index + 1) message)
one_said old index message bytes (Ok done) within ok err = record {
  outgoing = to_seat (index + 1) message;
  beyond = ap (λ queue. set old index queue) ok ∙ sym (delivered-one old index message within);
  whole = refl;
}
one_said old index message bytes (Err e) within ok err = record {
  outgoing = [];
  beyond = ap (λ queue. set old index queue) err ∙ set-get_or old index [] ∙ sym (delivered-none old);
  whole = tt;
}

-- the same, of a list of vectors of bytes, of which one is written
pub queue_said : {E Z : Type 0} (queues : List (Vec ℕ Z)) (seat : ℕ) (message : AbstractMessage) (was is : Vec ℕ Z) (result : Result (Unit {0}) E) → 1 ≤ seat → seat ≤ length (map (λ queue. queue.items) queues) → was ≡ get_or queues (seat - 1) was → OnOk result (is.items ≡ was.items ++ spelling message) → OnErr result (is.items ≡ was.items) → QueuesMessages (map (λ queue. queue.items) queues) (map (λ queue. queue.items) (set queues (seat - 1) is)) result (λ _ outgoing. outgoing ≡ to_seat seat message)
queue_said {Z = Z} queues seat message was is result some most found ok err =
    let items : Vec ℕ Z → List ℕ = λ queue. queue.items in
    let within : seat - 1 < length (map items queues) = omega arith in
    let there : seat - 1 < length queues = rw (length-map queues items) at within in
    let had : get_or (map items queues) (seat - 1) [] ≡ was.items = get_or-map items queues (seat - 1) was [] there ∙ ap items (sym found) in
    let same : seat - 1 + 1 ≡ seat = omega arith in
    let told : QueuesMessages (map items queues) (set (map items queues) (seat - 1) is.items) result (λ _ outgoing. outgoing ≡ to_seat (seat - 1 + 1) message) =
    one_said (map items queues) (seat - 1) message is.items result within (rw had ok) (rw had err) in
    rw (map-set items queues (seat - 1) is) (subst (λ number. QueuesMessages (map items queues) (set (map items queues) (seat - 1) is.items) result (λ _ outgoing. outgoing ≡ to_seat number message)) same told)

-- nothing was sent, and the answer is a refusal
pub nothing_err : {T E : Type 0} (outbox : List (List ℕ)) (refusal : Result T E) → IsErr refusal → (IsToSay : T → List Delivery → Type 0) → QueuesMessages outbox outbox refusal IsToSay
nothing_err outbox refusal is_err IsToSay = record { outgoing = []; beyond = sym (delivered-none outbox); whole = IfOk-from_err refusal (λ value. IsToSay value []) is_err }

-- a call that sends something keeps the number of seats
pub length-says : {T E : Type 0} {old new : List (List ℕ)} {result : Result T E} {IsToSay : T → List Delivery → Type 0} → QueuesMessages old new result IsToSay → length new ≡ length old
length-says {old = old} says = ap length says.beyond ∙ length-delivered old says.outgoing
