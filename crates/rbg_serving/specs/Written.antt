-- What is written of the events that come to a match.
use Rattle.std.specs.Prelude.{◌≡◌, ◌≤◌, nat_lt, ℕ, Bool, false, List, [], ◌∷◌, ◌++◌, Some, is_some, if◌then◌else◌}
use Rattle.rbg_wire.specs.declared.outcome.Outcome.{Outcome}
use Rattle.rbg_match.specs.Inputs.{counted}
use Rattle.rbg_script.specs.Events.{AbstractEvent, piece, end_of_stream, moment_alone, moment_of}
use Rattle.rbg_match.specs.Matches.{MatchState, Steps}
use Rattle.rbg_match.specs.Play.{due_of}

-- the same event at this moment
abbrev pub at_moment : (moment : ℕ) → AbstractEvent → AbstractEvent
at_moment moment (piece seat at bytes) = piece seat moment bytes
at_moment moment (end_of_stream seat at) = end_of_stream seat moment
at_moment moment (moment_alone at) = moment_alone moment

-- whether the event is a moment alone, before the mover's time is over
abbrev pub is_quiet : MatchState → AbstractEvent → Bool
is_quiet state (piece seat at bytes) = false
is_quiet state (end_of_stream seat at) = false
is_quiet state (moment_alone at) = nat_lt (counted state.streams at) (due_of state.config state.play)

-- What is written of an event that comes to a match in this state: the event, at its counted moment. Nothing is written
-- of a moment alone before the mover's time is over, and nothing once the match has ended.
abbrev pub written : MatchState → AbstractEvent → List AbstractEvent
written state event =
    if is_some state.play.outcome then []
    else if is_quiet state event then []
    else at_moment (counted state.streams (moment_of event)) event ∷ []

-- The first events come to a match in turn, and the second ones are written. The match and what is queued become these.
pub data Writes (old : MatchState) (before : List (List ℕ)) :
    (came lines : List AbstractEvent) → (new : MatchState) → (after : List (List ℕ)) → Type 0 where
  nothing :
      Writes old before [] [] old before
  more : {came lines : List AbstractEvent} {middle new : MatchState} {between after : List (List ℕ)} →
      Writes old before came lines middle between →
      (event : AbstractEvent) →
      Steps middle event new between after →
      Writes old before (came ++ event ∷ []) (lines ++ written middle event) new after

-- The first match stands where the other one does. Only its greatest moment may be an earlier one, and that only while
-- the match is in play.
pub record Replays (replayed state : MatchState) : Type 0 where
  pub same : replayed ≡ record state { streams = record state.streams { moment = replayed.streams.moment } }
  pub earlier : replayed.streams.moment ≤ state.streams.moment
  pub ended : (outcome : Outcome) → state.play.outcome ≡ Some outcome → replayed ≡ state
