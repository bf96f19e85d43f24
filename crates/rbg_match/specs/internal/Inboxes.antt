-- The inboxes of a match, between events.
use Rattle.std.specs.Prelude.{◌≡◌, ◌<◌, ℕ, List, [], map, replicate, All, Result, IsOk}
use Rattle.rbg_wire.specs.Streams.{Stream, Rest, incomplete}
use Rattle.rbg_match.specs.Inputs.{IsTickAlone, rests_after}
use Rattle.rbg_script.specs.Events.{AbstractEvent}
use Rattle.rbg_match.specs.Limits.{message_limit}

-- The inbox has the limit of a seat's message, and no complete item is left in it.
pub record IsReady (inbox : Stream) : Type 0 where
  pub limit : inbox.limit ≡ message_limit
  pub empty : inbox.items ≡ []

abbrev pub AreReady : List Stream → Type 0
AreReady inboxes = All IsReady inboxes

abbrev pub rests_of : List Stream → List Rest
rests_of inboxes = map (λ inbox. inbox.rest) inboxes

-- what is left in the inboxes is what is left of their streams after an event
abbrev pub HaveTaken : List Stream → AbstractEvent → List Stream → Type 0
HaveTaken old event new = rests_of new ≡ rests_after (rests_of old) event

-- a tick alone that comes before the due moment is handled
abbrev pub IsQuiet : {E : Type 0} → List Stream → AbstractEvent → (moment due : ℕ) → Result (Unit {0}) E → Type 0
IsQuiet inboxes event moment due result = IsTickAlone (rests_of inboxes) event → moment < due → IsOk result

-- an empty inbox for each seat
abbrev pub AreNew : ℕ → List Stream → Type 0
AreNew seats inboxes = inboxes ≡ replicate seats (record { limit = message_limit; items = []; rest = incomplete [] })
