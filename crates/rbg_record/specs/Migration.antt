-- Version 2 of a record of version 1.
use Rattle.std.specs.Prelude.{◌≡◌, ◌↔◌, ℕ, List, [], ◌∷◌, ◌++◌, map, Option}
use Rattle.rbg_wire.specs.declared.outcome.Outcome.{Outcome}
use Rattle.rbg_rules.specs.Meaning.{AbstractGame}
use Rattle.rbg_record.specs.declared.entry.Entry.{Entry}
use Rattle.rbg_record.specs.declared.entry.Entry.TheVariants.{Move, End}
use Rattle.rbg_record.specs.declared.heading.Version.TheVariants.{One}
use Rattle.rbg_record.specs.Entries.{SpellsEntry, unwritten_moment}
use Rattle.rbg_record.specs.Heading.{version_text}
use Rattle.rbg_record.specs.Records.{PlainRecord, TimedRecord, plain, timed, Spells}
use Rattle.rbg_record.specs.Right.{made_at, IsRight}
use Rattle.rbg_record.specs.NextLine.{HasFormFault}

-- Version 2 of a record of version 1: with the game's players, a turn of one millisecond, and everything at moment 0,
-- except a time that is over, which ends at moment 1.
abbrev pub migrated : AbstractGame → PlainRecord → TimedRecord
migrated game told = record {
  players = game.players;
  start = record { turn_ms = 1; now = 0 };
  moves = map (made_at 0) told.moves;
  moment = unwritten_moment (End told.outcome);
  outcome = told.outcome;
}

-- The old bytes are a record of version 1, and the new ones are version 2 of it, which is right exactly if the old one
-- is.
pub record IsMigrated (game : AbstractGame) (old new : List ℕ) : Type 0 where
  pub told : PlainRecord
  pub before : Spells old (plain told)
  pub after : Spells new (timed (migrated game told))
  pub same : IsRight game (plain told) ↔ IsRight game (timed (migrated game told))

-- A point in a record of version 1: before its version, among its moves, or after its end.
pub data PlainPart : Type 0 where
  before_version : PlainPart
  among_moves : PlainPart
  beyond_end : PlainPart

-- the text is of the form that a line of version 1 may have there
abbrev pub HasPlainForm : PlainPart → List ℕ → Type 0
HasPlainForm before_version text = text ≡ version_text One
HasPlainForm among_moves text = (entry : Entry) × SpellsEntry text entry
HasPlainForm beyond_end text = ⊥

-- The first lines of a record have these texts, which are of the form of version 1, and lead there.
pub data IsPlainSoFar : (texts : List (List ℕ)) → PlainPart → Type 0 where
  none :
      IsPlainSoFar [] before_version
  begun :
      IsPlainSoFar (version_text One ∷ []) among_moves
  moved : {texts : List (List ℕ)} {text : List ℕ} {player : ℕ} {pairs : List (ℕ × ℕ)} →
      IsPlainSoFar texts among_moves →
      SpellsEntry text (Move player pairs) →
      IsPlainSoFar (texts ++ text ∷ []) among_moves
  ended : {texts : List (List ℕ)} {text : List ℕ} {outcome : Option Outcome} →
      IsPlainSoFar texts among_moves →
      SpellsEntry text (End outcome) →
      IsPlainSoFar (texts ++ text ∷ []) beyond_end

-- The lines before this one are of the form of version 1, but what follows them is not.
abbrev pub IsPlainFault : (bytes : List ℕ) → (line : ℕ) → Type 0
IsPlainFault bytes line = HasFormFault IsPlainSoFar beyond_end HasPlainForm bytes line
