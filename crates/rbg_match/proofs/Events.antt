-- The inputs that an event means are handled in turn.
use Rattle.std.proofs.Common.{◌≡◌, ℕ, ◌-◌, ◌<◌, Bool, true, false, List, [], ◌∷◌, ◌++◌, length, map, get_or, set, refl, sym, ap, ◌∙◌, subst, append_assoc, ◌&&◌, nat_le}
use Rattle.std.proofs.lemmas.List.{append-nil, get_or-map, map-set, length-map}
use Rattle.rbg_wire.specs.Streams.{Rest, Stream, incomplete, Cut, cut}
use Rattle.rbg_rules.specs.Meaning.{AbstractGame}
use Rattle.rbg_match.proofs.Common.{Config, message_limit, Delivery, AbstractPlay, AbstractInput, tick, gone, sent, Handles, TimedInput, AbstractEvent, piece, end_of_stream, has_seat, cut_of, inputs_in, inputs_at, rests_after, rests_of}
use Rattle.rbg_match.specs.Transcript.{HandlesAll, none, more}

-- one input is handled
pub one_handled : {game : AbstractGame} {config : Config} {play after : AbstractPlay} {moment : ℕ} {input : AbstractInput} {outgoing : List Delivery} → Handles game config play moment input after outgoing → HandlesAll game config play (inputs_at moment (input ∷ [])) after outgoing
one_handled handles = more none handles

-- inputs that are handled first, and inputs that are handled next
pub handles-append : {game : AbstractGame} {config : Config} {play middle after : AbstractPlay} {xs ys : List TimedInput} {a b : List Delivery} → HandlesAll game config play xs middle a → HandlesAll game config middle ys after b → HandlesAll game config play (xs ++ ys) after (a ++ b)
handles-append {xs = xs} {a = a} first none = rw (append-nil xs, append-nil a) first
handles-append {xs = xs} {a = a} first (more {inputs = hs} {first = b} {next = c} {input = h} second next) = rw (← append_assoc xs hs (h ∷ []), ← append_assoc a b c) (more (handles-append first second) next)

-- the test of a seat's number
pub seat_test : (inboxes : List Stream) (seat : ℕ) (result test : Bool) → result ≡ (nat_le 1 seat && nat_le seat (length inboxes)) → result ≡ test → has_seat (rests_of inboxes) seat ≡ test
seat_test inboxes seat result test value is = rw (length-map inboxes (λ (inbox : Stream). inbox.rest)) (sym value ∙ is)

-- what a piece is input as
pub inputs_of_piece : (rests : List Rest) (seat at : ℕ) (bytes : List ℕ) → has_seat rests seat ≡ true → inputs_in rests (piece seat at bytes) ≡ tick ∷ map (sent seat) (cut_of rests seat bytes).items
inputs_of_piece rests seat at bytes test = rw test refl

pub inputs_of_piece_of_none : (rests : List Rest) (seat at : ℕ) (bytes : List ℕ) → has_seat rests seat ≡ false → inputs_in rests (piece seat at bytes) ≡ tick ∷ []
inputs_of_piece_of_none rests seat at bytes test = rw test refl

-- what the end of a stream is input as
pub inputs_of_end : (rests : List Rest) (seat at : ℕ) → has_seat rests seat ≡ true → inputs_in rests (end_of_stream seat at) ≡ gone seat ∷ []
inputs_of_end rests seat at test = rw test refl

pub inputs_of_end_of_none : (rests : List Rest) (seat at : ℕ) → has_seat rests seat ≡ false → inputs_in rests (end_of_stream seat at) ≡ tick ∷ []
inputs_of_end_of_none rests seat at test = rw test refl

-- the rest of a seat's stream is that of its inbox
pub cut_of_inbox : (inboxes : List Stream) (seat : ℕ) (bytes : List ℕ) (inbox : Stream) → seat - 1 < length inboxes → cut_of (rests_of inboxes) seat bytes ≡ cut message_limit (get_or inboxes (seat - 1) inbox).rest bytes
cut_of_inbox inboxes seat bytes inbox within =
    let rest : Stream → Rest = λ one. one.rest in
    ap (λ one. cut message_limit one bytes) (get_or-map rest inboxes (seat - 1) inbox (incomplete []) within)

-- things are input as what they are
pub handles_as : {game : AbstractGame} {config : Config} {play after : AbstractPlay} {outgoing : List Delivery} (moment : ℕ) (input same : List AbstractInput) → input ≡ same → HandlesAll game config play (inputs_at moment same) after outgoing → HandlesAll game config play (inputs_at moment input) after outgoing
handles_as {game} {config} {play} {after} {outgoing} moment input same is handles = subst (λ one. HandlesAll game config play (inputs_at moment one) after outgoing) (sym is) handles

-- a piece of a seat is handled
pub handles_piece : {game : AbstractGame} {config : Config} {play middle after : AbstractPlay} {outgoing next : List Delivery} (moment : ℕ) (inboxes : List Stream) (event : AbstractEvent) (seat at : ℕ) (bytes : List ℕ) (inbox : Stream) → event ≡ piece seat at bytes → has_seat (rests_of inboxes) seat ≡ true → seat - 1 < length inboxes → Handles game config play moment tick middle outgoing → HandlesAll game config middle (inputs_at moment (map (sent seat) (cut message_limit (get_or inboxes (seat - 1) inbox).rest bytes).items)) after next → HandlesAll game config play (inputs_at moment (inputs_in (rests_of inboxes) event)) after (outgoing ++ next)
handles_piece moment inboxes event seat at bytes inbox is test there first handles =
    let same : inputs_in (rests_of inboxes) event ≡ tick ∷ map (sent seat) (cut message_limit (get_or inboxes (seat - 1) inbox).rest bytes).items =
    ap (inputs_in (rests_of inboxes)) is ∙ inputs_of_piece (rests_of inboxes) seat at bytes test ∙ ap (λ (c : Cut). tick ∷ map (sent seat) c.items) (cut_of_inbox inboxes seat bytes inbox there) in
    handles_as moment _ _ same (handles-append (one_handled first) handles)

-- what a piece leaves of the streams
pub left_of_piece : (rests : List Rest) (seat at : ℕ) (bytes : List ℕ) → has_seat rests seat ≡ true → rests_after rests (piece seat at bytes) ≡ set rests (seat - 1) (cut_of rests seat bytes).rest
left_of_piece rests seat at bytes test = rw test refl

-- what is left of the streams after a piece
pub rests_after_piece : (inboxes : List Stream) (event : AbstractEvent) (seat at : ℕ) (bytes : List ℕ) (inbox after : Stream) → event ≡ piece seat at bytes → has_seat (rests_of inboxes) seat ≡ true → seat - 1 < length inboxes → after.rest ≡ (cut message_limit (get_or inboxes (seat - 1) inbox).rest bytes).rest → rests_of (set inboxes (seat - 1) after) ≡ rests_after (rests_of inboxes) event
rests_after_piece inboxes event seat at bytes inbox after is test there rest =
    map-set (λ (one : Stream). one.rest) inboxes (seat - 1) after
    ∙ ap (λ one. set (rests_of inboxes) (seat - 1) one) (rest ∙ ap (λ (c : Cut). c.rest) (sym (cut_of_inbox inboxes seat bytes inbox there)))
    ∙ sym (ap (rests_after (rests_of inboxes)) is ∙ left_of_piece (rests_of inboxes) seat at bytes test)
