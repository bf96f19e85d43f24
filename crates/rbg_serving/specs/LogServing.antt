-- A match with a log as a call of `serve` knows it.
use Rattle.std.specs.Prelude.{◌≡◌, ◌⊎◌, ◌≤◌, ℕ, List, [], ◌++◌, take, Option, Some, None, IsSome, IsErrOf, Result}
use Rattle.rbg_script.specs.Events.{AbstractEvent, moment_of}
use Rattle.rbg_match.specs.Matches.{MatchState, Steps}
use Rattle.rbg_serving.specs.declared.served.Served.{Served}
use Rattle.rbg_serving.specs.declared.served.ServeError.{ServeError}
use Rattle.rbg_serving.specs.declared.served.ServeError.TheVariants.{Memory}
use Rattle.rbg_serving.specs.Passing.{Behaviour}
use Rattle.rbg_serving.specs.declared.logged.LoggedMatch.{LoggedMatch}
use Rattle.rbg_serving.specs.declared.logged.StopReason.TheVariants.{Time}
use Rattle.rbg_serving.specs.Logs.{IsLog, Logs, LogsPart, event_lines}
use Rattle.rbg_serving.specs.Written.{written}

-- The time for a match ends at `until`, if that is given, and is over at this moment.
abbrev pub IsOverAt : (until : Option ℕ) → (moment : ℕ) → Type 0
IsOverAt (Some until) moment = until ≤ moment
IsOverAt None moment = ⊥

-- An event comes to a match with a log, while there is time: what is written of it is in the log, and the match has
-- handled it.
pub record LogSteps {W : Type 0} (told : W → List ℕ → Type 0) (old : LoggedMatch W) (event : AbstractEvent)
    (new : LoggedMatch W) (before after : List (List ℕ)) : Type 0 where
  pub timely : ¬ IsOverAt old.until (moment_of event)
  pub same_until : new.until ≡ old.until
  pub logs : Logs told old.log new.log (written old.played event)
  pub steps : Steps old.played event new.played before after

-- The time is said to have stopped the match only where it was said before, or is over when this event comes.
pub record IsTimed {W : Type 0} (old new : LoggedMatch W) (event : AbstractEvent) : Type 0 where
  pub timed : new.stopped ≡ Some Time → (old.stopped ≡ Some Time) ⊎ IsOverAt old.until (moment_of event)

-- An event isn't handled: there was no memory for it, the log failed, or the time for the match was over. No more than its
-- line may be in the log.
pub record LogLacks {W : Type 0} (told : W → List ℕ → Type 0) (old new : LoggedMatch W) : Type 0 where
  pub event : AbstractEvent
  pub part : LogsPart told old.log new.log (written old.played event)
  pub same_until : new.until ≡ old.until
  pub timed : IsTimed old new event

-- Like a match, it is over once it has ended, and hears each line until then.
abbrev pub of_log : {W : Type 0} → (told : W → List ℕ → Type 0) → Behaviour (LoggedMatch W)
of_log told = record {
  steps = LogSteps told;
  lacks = LogLacks told;
  listens = λ logged seat. ¬ IsSome logged.played.play.outcome;
  over = λ logged. IsSome logged.played.play.outcome;
}

-- The bytes are a front part of what is written of some event, which comes to the match in this state.
pub record IsPartOfLine (state : MatchState) (bytes : List ℕ) : Type 0 where
  pub event : AbstractEvent
  pub count : ℕ
  pub is : bytes ≡ take count (event_lines (written state event))

-- What a call leaves. The log is that of the match, with nothing after it. But where an event wasn't handled, the log is
-- that of the match before this event, and a front part of its line may stand after it.
pub record LeavesLog {W : Type 0} (told : W → List ℕ → Type 0) (text : List ℕ) (new : LoggedMatch W)
    (queued : List (List ℕ)) (result : Result Served ServeError) : Type 0 where
  pub held : List ℕ
  pub beyond : List ℕ
  pub tells : told new.log (held ++ beyond)
  pub handled : MatchState
  pub is_log : IsLog text held handled queued
  pub part : IsPartOfLine handled beyond
  pub all : (¬ IsErrOf result Memory) → (beyond ≡ []) × (handled ≡ new.played)
