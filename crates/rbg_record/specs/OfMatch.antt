-- The record of a match.
use Rattle.std.specs.Prelude.{ℕ, map, Result, IfOk}
use Rattle.std.specs.declared.alloc.Global.{Global}
use Rattle.std.specs.declared.vec.Vec.{Vec}
use Rattle.rbg_match.specs.declared.made.Made.{Made}
use Rattle.rbg_match.specs.Matches.{HasHistory, MatchState}
use Rattle.rbg_record.specs.Records.{AbstractRecord, PlainRecord, TimedRecord, PlainMove, Spells}
use Rattle.rbg_record.specs.Right.{IsRightRecord}

-- the record of version 2 of a match
abbrev pub record_of : MatchState → TimedRecord
record_of state = record {
  players = state.game.players;
  start = record { turn_ms = state.config.turn_ms; now = state.began };
  moves = state.play.made;
  moment = state.streams.moment;
  outcome = state.play.outcome;
}

-- a move without its moment
abbrev pub plain_move : Made → PlainMove
plain_move made = record { player = made.player; pairs = made.pairs }

-- the record of version 1 of a match
abbrev pub plain_record_of : MatchState → PlainRecord
plain_record_of state = record { moves = map plain_move state.play.made; outcome = state.play.outcome }

-- what a call returns that writes this record of a match: bytes that spell it, and that are those of a right record
pub record WritesRecord {E : Type 0} (state : MatchState) (told : AbstractRecord) (result : Result (Vec ℕ Global) E) :
    Type 0 where
  pub spelled : HasHistory state → IfOk result (λ bytes. Spells bytes.items told)
  pub right : HasHistory state → IfOk result (λ bytes. IsRightRecord state.game bytes.items)
