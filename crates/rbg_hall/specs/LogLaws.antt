-- Laws of a table with the log of its match.
use Rattle.std.specs.Prelude.{◌≡◌, ℕ, List, [], ◌∷◌, ◌++◌, Option, Some, slice_get, slice_index_or}
use Rattle.rbg_game.specs.Loading.{Loads}
use Rattle.rbg_rules.specs.Meaning.{AbstractGame}
use Rattle.rbg_match.specs.declared.config.Config.{Config}
use Rattle.rbg_match.specs.Matches.{MatchState}
use Rattle.rbg_hall.specs.TableLaws.{HoldsTranscript}
use Rattle.rbg_hall.specs.Tables.{OwnEvent, new_table}
use Rattle.rbg_hall.specs.Tellings.{Telling, bytes_to}
use Rattle.rbg_serving.specs.Logs.{IsLog}
use Rattle.rbg_hall.specs.Kept.{KeptHears, KeptState, given, no_log, told_log}

-- From a table where nobody sits, with no log, these events in turn lead here, and these bytes are queued for its lines.
-- In between the table may be given an empty log.
pub data KeptRun {W : Type 0} (told : W → List ℕ → Type 0) (game : AbstractGame) (text : List ℕ) (config : Config) :
    List OwnEvent → KeptState W → (outgoing : List Telling) → Type 0 where
  none :
      KeptRun told game text config [] (record { table = new_table game text config; ledger = no_log }) []
  keeps : {events : List OwnEvent} {state : KeptState W} {outgoing : List Telling} →
      KeptRun told game text config events state outgoing →
      (log : W) →
      told log [] →
      KeptRun told game text config events (record state { ledger = given state.table.begun state.ledger log }) outgoing
  more : {events : List OwnEvent} {event : OwnEvent} {middle new : KeptState W} {first next : List Telling} →
      KeptRun told game text config events middle first →
      KeptHears told middle event new next →
      KeptRun told game text config (events ++ event ∷ []) new (first ++ next)

-- The log of a match that has begun at a table, which heard these events and told its lines this. The match holds a
-- transcript of the events. The log is a script, and the match of that script stands where this match does. A line on a
-- seat is told what the table told it before the match began, and then what the script's match sends to its seat.
pub record SendsWhatIsTold {W : Type 0} (told : W → List ℕ → Type 0) (log : W) (game : AbstractGame) (text : List ℕ) (config : Config)
    (events : List OwnEvent) (seats : List (Option ℕ)) (playing : MatchState) (outgoing : List Telling) : Type 0 where
  pub holds : HoldsTranscript game text config events seats playing outgoing
  pub held : List ℕ
  pub sent : List (List ℕ)
  pub tells : told log held
  pub is : IsLog text held playing sent
  pub on_seats : (index line : ℕ) →
      slice_get seats index ≡ Some (Some line) →
      bytes_to line outgoing ≡ bytes_to line holds.beginning.early ++ slice_index_or sent index []

-- Whatever a table hears, the match of its log's script sends what the lines on its seats are told since its match began.
abbrev pub LogSendsWhatIsTold : {W : Type 0} → (told : W → List ℕ → Type 0) → Type 0
LogSendsWhatIsTold {W} told =
    (game : AbstractGame) (text : List ℕ) (config : Config) (events : List OwnEvent) (state : KeptState W) (outgoing : List Telling)
    (playing : MatchState) (log : W) →
    Loads text game →
    KeptRun told game text config events state outgoing →
    state.table.begun ≡ Some playing →
    told_log state.ledger ≡ Some log →
    SendsWhatIsTold told log game text config events state.table.seats playing outgoing
