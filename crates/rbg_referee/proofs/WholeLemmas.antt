-- The bytes that a match leaves for a seat are whole messages.
use Rattle.rbg_base.proofs.Common.{◌≡◌, ℕ, zero, suc, ◌+◌, ◌==◌, ◌∙◌, Bool, true, false, if◌then◌else◌, List, [], ◌∷◌, ◌++◌, get_or, ap, refl, sym, subst, append_assoc, flat_map, enumerate_from, range_with_len, All, IsTrue, All-nil, All-cons, All-append, All-head, All-tail, All-map}
use Rattle.rbg_base.specs.Names.{is_name}
use Rattle.rbg_referee.proofs.CallerLemmas.{names_in, no_zero_in}
use Rattle.rbg_match.specs.declared.config.Config.{Config}
use Rattle.rbg_match.proofs.Common.{Delivery, to_seat, to_each, to_others, bytes_for, AbstractInput, Refuses, Judges, HandlesInTime, Handles, TimedInput, AbstractPlay, PlaysOn, seats_of, HandlesAll, greeting, greetings}
use Rattle.rbg_script.specs.Events.{AbstractEvent}
use Rattle.rbg_match.specs.Handling.Refuses.{counted, spent}
use Rattle.rbg_match.specs.Handling.Judges.{heavy as hard, illegal, legal}
use Rattle.rbg_match.specs.Handling.HandlesInTime.{nothing, leaving, out_of_turn, unreadable, too_many, judged}
use Rattle.rbg_match.specs.Handling.Handles.{after_end, overdue, in_time}
use Rattle.rbg_match.specs.PlayingOn.PlaysOn.{endless, heavy, finished, keeper, turn}
use Rattle.rbg_referee.specs.Refereed.{IsRefereed}
use Rattle.rbg_match.specs.Transcript.HandlesAll.{none, more}
use Rattle.rbg_rules.specs.Meaning.{AbstractGame}
use Rattle.rbg_wire.proofs.ByteLemmas.{no_cut, same_cut}
use Rattle.rbg_wire.proofs.Common.{LacksByte, AbstractMessage, who_message, game_message, limits_message, move_message, refusal_message, end_message, message_text, spelling}
use Rattle.rbg_wire.specs.declared.message.Reason.{Reason}
use Rattle.rbg_wire.specs.declared.outcome.Outcome.TheVariants.{Refusals}
use Rattle.rbg_referee.specs.InputLaws.{AreWhole, OutboxesAreWhole}
use Rattle.rbg_referee.specs.Printed.{with_zero, AreMessages}
use Rattle.rbg_referee.proofs.SayableLemmas.{IsSayable, move_sayable, end_sayable, refusal_sayable, game_sayable, limits_sayable, who_sayable}

-- all that is sent can be sent on a stream
abbrev AreSayable : List Delivery → Type 0
AreSayable outgoing = All (λ delivery. IsSayable delivery.message) outgoing

none_said : AreSayable []
none_said = All-nil (λ delivery. IsSayable delivery.message)

both_said : (a b : List Delivery) → AreSayable a → AreSayable b → AreSayable (a ++ b)
both_said a b h k = All-append (λ delivery. IsSayable delivery.message) a b h k

one_said : (seat : ℕ) (message : AbstractMessage) → IsSayable message → AreSayable (to_seat seat message)
one_said seat message h = All-cons (λ delivery. IsSayable delivery.message) (record { seat = seat; message = message }) [] h none_said

each_said : (seats : ℕ) (message : AbstractMessage) → IsSayable message → AreSayable (to_each seats message)
each_said zero message h = none_said
each_said (suc seats) message h = both_said (to_each seats message) (to_seat (suc seats) message) (each_said seats message h) (one_said (suc seats) message h)

either_said : (test : Bool) (outgoing : List Delivery) → AreSayable outgoing → AreSayable (if test then [] else outgoing)
either_said true outgoing h = none_said
either_said false outgoing h = h

others_said : (seats one : ℕ) (message : AbstractMessage) → IsSayable message → AreSayable (to_others seats one message)
others_said zero one message h = none_said
others_said (suc seats) one message h =
    both_said (to_others seats one message) (if suc seats == one then [] else to_seat (suc seats) message) (others_said seats one message h)
    (either_said (suc seats == one) (to_seat (suc seats) message) (one_said (suc seats) message h))

plays_said : (game : AbstractGame) (moment : ℕ) {n : ℕ} {before after : AbstractPlay} {outgoing : List Delivery} → PlaysOn game moment n before after outgoing → AreSayable outgoing
plays_said game moment (endless mover many) = each_said (seats_of game) _ (end_sayable _)
plays_said game moment (heavy may is) = each_said (seats_of game) _ (end_sayable _)
plays_said game moment (finished may over) = each_said (seats_of game) _ (end_sayable _)
plays_said game moment (keeper {pairs = pairs} {more = told} mover few lawful short rest) =
    both_said (to_each (seats_of game) (move_message pairs)) told (each_said (seats_of game) (move_message pairs) (move_sayable pairs)) (plays_said game moment rest)
plays_said game moment (turn mover lawful) = none_said

refuses_said : (seats : ℕ) (config : Config) (play : AbstractPlay) (seat : ℕ) (reason : Reason) {after : AbstractPlay} {outgoing : List Delivery} → Refuses seats config play seat reason after outgoing → AreSayable outgoing
refuses_said seats config play seat reason (counted few) = one_said seat _ (refusal_sayable reason)
refuses_said seats config play seat reason (spent many) =
    both_said (to_seat seat (refusal_message reason)) (to_each seats (end_message (Refusals seat))) (one_said seat (refusal_message reason) (refusal_sayable reason))
    (each_said seats (end_message (Refusals seat)) (end_sayable (Refusals seat)))

judges_said : (game : AbstractGame) (config : Config) (play : AbstractPlay) (moment : ℕ) (pairs : List (ℕ × ℕ)) {after : AbstractPlay} {outgoing : List Delivery} → Judges game config play moment pairs after outgoing → AreSayable outgoing
judges_said game config play moment pairs (hard is) = each_said (seats_of game) _ (end_sayable _)
judges_said game config play moment pairs (illegal unlawful refuses) = refuses_said _ config play _ _ refuses
judges_said game config play moment pairs (legal {more = told} lawful plays) =
    both_said (to_each (seats_of game) (move_message pairs)) told (each_said (seats_of game) (move_message pairs) (move_sayable pairs)) (plays_said game moment plays)

in_time_said : (game : AbstractGame) (config : Config) (play : AbstractPlay) (moment : ℕ) {input : AbstractInput} {after : AbstractPlay} {outgoing : List Delivery} → HandlesInTime game config play moment input after outgoing → AreSayable outgoing
in_time_said game config play moment nothing = none_said
in_time_said game config play moment (leaving {seat = seat}) = others_said (seats_of game) seat _ (end_sayable _)
in_time_said game config play moment (out_of_turn other refuses) = refuses_said _ config play _ _ refuses
in_time_said game config play moment (unreadable mover unread refuses) = refuses_said _ config play _ _ refuses
in_time_said game config play moment (too_many mover spells many refuses) = refuses_said _ config play _ _ refuses
in_time_said game config play moment (judged mover spells few judges) = judges_said game config play moment _ judges

handles_said : (game : AbstractGame) (config : Config) (play : AbstractPlay) (moment : ℕ) (input : AbstractInput) {after : AbstractPlay} {outgoing : List Delivery} → Handles game config play moment input after outgoing → AreSayable outgoing
handles_said game config play moment input (after_end ended) = none_said
handles_said game config play moment input (overdue going late) = each_said (seats_of game) _ (end_sayable _)
handles_said game config play moment input (in_time going early handles) = in_time_said game config play moment handles

all_said : (game : AbstractGame) (config : Config) (play : AbstractPlay) {inputs : List TimedInput} {after : AbstractPlay} {outgoing : List Delivery} → HandlesAll game config play inputs after outgoing → AreSayable outgoing
all_said game config play none = none_said
all_said game config play (more {first = first} {next = next} all one) = both_said first next (all_said game config play all) (handles_said game config _ _ _ one)

greeting_said : (text : List ℕ) (config : Config) (seat : ℕ) (name : List ℕ) → LacksByte 0 text → IsTrue (is_name name) → AreSayable (greeting text config seat name)
greeting_said text config seat name lacks is =
    both_said (to_seat seat (who_message seat name) ++ to_seat seat (game_message text)) (to_seat seat (limits_message config.turn_ms config.refusals))
    (both_said (to_seat seat (who_message seat name)) (to_seat seat (game_message text)) (one_said seat _ (who_sayable seat name is)) (one_said seat _ (game_sayable text lacks)))
    (one_said seat _ (limits_sayable config.turn_ms config.refusals))

greetings_said : (text : List ℕ) (config : Config) (first : ℕ) (names : List (List ℕ)) → LacksByte 0 text → All (λ name. IsTrue (is_name name)) names → AreSayable (flat_map (λ (one : ℕ × List ℕ). greeting text config one.0 one.1) (enumerate_from first names))
greetings_said text config first [] lacks are = none_said
greetings_said text config first (name ∷ names) lacks are =
    both_said (greeting text config first name) (flat_map (λ (one : ℕ × List ℕ). greeting text config one.0 one.1) (enumerate_from (first + 1) names))
    (greeting_said text config first name lacks (All-head (λ name. IsTrue (is_name name)) name names are))
    (greetings_said text config (first + 1) names lacks (All-tail (λ name. IsTrue (is_name name)) name names are))

-- one more message to a seat, or to another
more_whole : (here : Bool) (message : AbstractMessage) (bytes : List ℕ) → IsSayable message → AreWhole bytes → AreWhole ((if here then spelling message else []) ++ bytes)
unfolding spelling
more_whole true message bytes sayable are = record {
  messages = message_text message ∷ are.messages;
  parts = ap (λ l. spelling message ++ l) are.parts;
  whole = All-cons (LacksByte 0) (message_text message) are.messages sayable are.whole;
}
more_whole false message bytes sayable are = are

seat_whole : (seat : ℕ) (outgoing : List Delivery) → AreSayable outgoing → AreWhole (bytes_for seat outgoing)
seat_whole seat [] all = record { messages = []; parts = refl; whole = All-nil (LacksByte 0) }
seat_whole seat (delivery ∷ outgoing) all =
    more_whole (delivery.seat == seat) delivery.message (bytes_for seat outgoing) (All-head (λ delivery. IsSayable delivery.message) delivery outgoing all)
    (seat_whole seat outgoing (All-tail (λ delivery. IsSayable delivery.message) delivery outgoing all))

seats_whole : (text : List ℕ) (config : Config) (now : ℕ) (events : List AbstractEvent) (outbox : List (List ℕ)) → IsRefereed text config now events outbox → All AreWhole outbox
seats_whole text config now events outbox is =
    let game = is.game in
    let told = is.transcript in
    let begun : AreSayable (greetings text config game.players) = greetings_said text config 1 game.players (no_zero_in text game is.loads) (names_in text game is.loads) in
    let opened : AreSayable told.opening = plays_said game _ told.opens in
    let replies : AreSayable told.replies = all_said game config _ told.goes_on in
    let all : AreSayable is.outgoing = subst AreSayable (sym told.whole) (both_said (greetings text config game.players ++ told.opening) told.replies (both_said (greetings text config game.players) told.opening begun opened) replies) in
    let seats : List ℕ = range_with_len 1 (seats_of game) in
    subst (All AreWhole) (sym is.bytes) (All-map AreWhole (λ seat. bytes_for seat is.outgoing) seats (λ i d below. seat_whole (get_or seats i d) is.outgoing all))

-- whole messages that are cut leave nothing
no_rest_in : (whole messages : List (List ℕ)) (rest : List ℕ) → All (LacksByte 0) whole → All (LacksByte 0) messages → LacksByte 0 rest → flat_map with_zero whole ≡ flat_map with_zero messages ++ rest → rest ≡ []
no_rest_in [] [] rest h k lacks same = sym same
no_rest_in [] (message ∷ messages) rest h k lacks same =
    let parts : [] ≡ message ++ 0 ∷ (flat_map with_zero messages ++ rest) = same ∙ split message (flat_map with_zero messages) rest in
    absurd (ends message (flat_map with_zero messages ++ rest) parts)
  where
    split : (a b c : List ℕ) → (with_zero a ++ b) ++ c ≡ a ++ 0 ∷ (b ++ c)
    split a b c = append_assoc (with_zero a) b c ∙ append_assoc a (0 ∷ []) (b ++ c)

    ends : (a b : List ℕ) → [] ≡ a ++ 0 ∷ b → ⊥
    ends [] b is = cc
    ends (x ∷ a) b is = cc
no_rest_in (one ∷ whole) [] rest h k lacks same =
    let parts : rest ≡ one ++ 0 ∷ flat_map with_zero whole = sym same ∙ append_assoc one (0 ∷ []) (flat_map with_zero whole) in
    absurd (no_cut 0 one (flat_map with_zero whole) (subst (LacksByte 0) parts lacks))
no_rest_in (one ∷ whole) (message ∷ messages) rest h k lacks same =
    let left : with_zero one ++ flat_map with_zero whole ≡ one ++ 0 ∷ flat_map with_zero whole = append_assoc one (0 ∷ []) (flat_map with_zero whole) in
    let right : (with_zero message ++ flat_map with_zero messages) ++ rest ≡ message ++ 0 ∷ (flat_map with_zero messages ++ rest) =
    append_assoc (with_zero message) (flat_map with_zero messages) rest ∙ append_assoc message (0 ∷ []) (flat_map with_zero messages ++ rest) in
    let beyond = same_cut 0 one message (flat_map with_zero whole) (flat_map with_zero messages ++ rest)
    (All-head (LacksByte 0) one whole h) (All-head (LacksByte 0) message messages k) (sym left ∙ (same ∙ right)) in
    no_rest_in whole messages rest (All-tail (LacksByte 0) one whole h) (All-tail (LacksByte 0) message messages k) lacks beyond.1

rest_none : (bytes : List ℕ) (messages : List (List ℕ)) → AreWhole bytes → (are : AreMessages bytes messages) → are.rest ≡ []
rest_none bytes messages whole are = no_rest_in whole.messages messages are.rest whole.whole are.whole are.lacks (sym whole.parts ∙ are.parts)

pub outboxes_whole : OutboxesAreWhole
outboxes_whole = record { seats = seats_whole; no_rest = rest_none }
