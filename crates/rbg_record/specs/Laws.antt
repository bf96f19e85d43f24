-- Laws of records.
use Rattle.std.specs.Prelude.{◌≡◌, ◌↔◌, ℕ, List, Result, Ok, Err}
use Rattle.rbg_rules.specs.Meaning.{IsNumbered, AbstractGame}
use Rattle.rbg_match.specs.Matches.{MatchState, HasHistory}
use Rattle.rbg_record.specs.declared.checked.Checked.{Checked}
use Rattle.rbg_record.specs.declared.error.RecordError.{RecordError}
use Rattle.rbg_record.specs.declared.error.RecordError.TheVariants.{Form, Over, Memory}
use Rattle.rbg_record.specs.Records.{PlainRecord, AbstractRecord, plain, timed, Spells}
use Rattle.rbg_record.specs.Right.{IsRight, IsRightRecord}
use Rattle.rbg_record.specs.Judged.{IsGoodByLines, IsJudged}
use Rattle.rbg_record.specs.Migration.{IsPlainFault}
use Rattle.rbg_record.specs.OfMatch.{record_of, plain_record_of}

-- Bytes are good line by line exactly if they are those of a record that is right.
abbrev pub GoodByLines : Type 0
GoodByLines = (game : AbstractGame) (bytes : List ℕ) → IsGoodByLines game bytes ↔ IsRightRecord game bytes

-- The answer is neither that a record is right nor what is wrong: a question was above the limits, or memory ran out.
abbrev pub IsUndecided : Result Checked RecordError → Type 0
IsUndecided (Ok _) = ⊥
IsUndecided (Err (Form line)) = ⊥
IsUndecided (Err (Over line)) = Unit {0}
IsUndecided (Err Memory) = Unit {0}

-- At most one answer about a record is true, apart from those two. (In an accepted game the positions are numbered.)
abbrev pub OneJudgement : Type 0
OneJudgement =
    (game : AbstractGame) → IsNumbered game.rules →
    (bytes : List ℕ) (one other : Result Checked RecordError) →
    IsJudged game bytes one →
    IsJudged game bytes other →
    ¬ IsUndecided one →
    ¬ IsUndecided other →
    one ≡ other

-- Bytes are those of one record at most.
abbrev pub OneRecord : Type 0
OneRecord = (bytes : List ℕ) (one other : AbstractRecord) → Spells bytes one → Spells bytes other → one ≡ other

-- Bytes have one fault at most against the form of version 1, and none if they are those of such a record.
pub record OnePlainFault : Type 0 where
  pub one : (bytes : List ℕ) (m n : ℕ) → IsPlainFault bytes m → IsPlainFault bytes n → m ≡ n
  pub none : (bytes : List ℕ) (told : PlainRecord) (n : ℕ) → Spells bytes (plain told) → ¬ IsPlainFault bytes n

-- The records of a match are right, in both versions.
pub record MatchesAreRight : Type 0 where
  pub two : (state : MatchState) → HasHistory state → IsRight state.game (timed (record_of state))
  pub one : (state : MatchState) → HasHistory state → IsRight state.game (plain (plain_record_of state))
