-- What a hall hands to an archive: the record of each match, once it has ended.
use Rattle.std.specs.Prelude.{◌≡◌, ℕ, suc, Bool, true, false, List, [], ◌∷◌, ◌++◌, Option, Some, is_some, replicate}
use Rattle.rbg_script.specs.Events.{AbstractEvent}
use Rattle.rbg_hall.specs.Halls.{AbstractTable, HallState, begun_at, new_hall}
use Rattle.rbg_hall.specs.Hearing.{HallHears}
use Rattle.rbg_hall.specs.Serving.{has_ended}
use Rattle.rbg_hall.specs.TableLimits.{lines_in_all}
use Rattle.rbg_hall.specs.Tables.{TableState}
use Rattle.rbg_match.specs.Matches.{MatchState}
use Rattle.rbg_network.specs.Archives.{Handed, kept, lost}
use Rattle.rbg_hosting.specs.Records.{IsRecordOf}

-- What becomes of the record of a match with this number.
--   is_kept: the archive has kept these bytes, and they are the record.
--   is_lost: it has kept nothing, and this was reported.
pub data IsHandedFor (number : ℕ) (playing : MatchState) : Handed → Type 0 where
  is_kept : (bytes : List ℕ)
      → IsRecordOf playing.game playing bytes
      → IsHandedFor number playing (kept number bytes)
  is_lost : IsHandedFor number playing (lost number)

-- What is handed of one match after an event: of one that had ended before, or hasn't ended yet, nothing; of one that
-- has ended by this event, its record.
pub data IsHandedOver (number : ℕ) : (had_ended : Bool) → (begun : Option MatchState) → List Handed → Type 0 where
  had_ended : {begun : Option MatchState}
      → IsHandedOver number true begun []
  goes_on : {before : Bool} {begun : Option MatchState}
      → has_ended begun ≡ false
      → IsHandedOver number before begun []
  ends : (playing : MatchState) (one : Handed)
      → is_some playing.play.outcome ≡ true
      → IsHandedFor number playing one
      → IsHandedOver number false (Some playing) (one ∷ [])

-- What is handed of the first matches after an event that led from the first of these states of the tables to the other
-- one. Matches are numbered from 1.
pub data AreHandedOver (old new : List TableState) : (matches : ℕ) → List Handed → Type 0 where
  nothing : AreHandedOver old new 0 []
  one_more : {matches : ℕ} {handed more : List Handed}
      → AreHandedOver old new matches handed
      → IsHandedOver (suc matches) (has_ended (begun_at old (suc matches))) (begun_at new (suc matches)) more
      → AreHandedOver old new (suc matches) (handed ++ more)

-- A hall with these tables heard these events in turn, stands so, and these bytes are queued for its lines. Meanwhile this
-- was handed of its first matches: the record of each at the first event after which it had ended.
pub data IsArchivedRun (starts : List AbstractTable) (matches : ℕ) :
    List AbstractEvent → HallState → (queues : List (List ℕ)) → List Handed → Type 0 where
  begins : IsArchivedRun starts matches [] (new_hall starts) (replicate lines_in_all []) []
  hears : {events : List AbstractEvent} {event : AbstractEvent} {old new : HallState}
      {before after : List (List ℕ)} {handed more : List Handed}
      → IsArchivedRun starts matches events old before handed
      → HallHears old event new before after
      → AreHandedOver old.tables new.tables matches more
      → IsArchivedRun starts matches (events ++ event ∷ []) new after (handed ++ more)

-- how many of these matches' records are handed over, by whether records are wanted
abbrev pub wanted_of : (wants : Bool) → (matches : ℕ) → ℕ
wanted_of true matches = matches
wanted_of false matches = 0
