-- What was migrated of a record so far.
use Rattle.std.specs.Prelude.{◌≡◌, ℕ, List, [], ◌∷◌, ◌++◌, map, All, Option}
use Rattle.rbg_wire.specs.declared.outcome.Outcome.{Outcome}
use Rattle.rbg_rules.specs.Meaning.{AbstractGame}
use Rattle.rbg_record.specs.declared.entry.Entry.TheVariants.{Move, End}
use Rattle.rbg_record.specs.declared.heading.Version.{Version}
use Rattle.rbg_record.specs.declared.heading.Version.TheVariants.{One, Two}
use Rattle.rbg_record.specs.declared.line.RecordLine.{RecordLine}
use Rattle.rbg_record.specs.declared.next.Next.{Next}
use Rattle.rbg_record.specs.declared.next.Next.TheVariants as nexts
use Rattle.rbg_record.specs.Entries.{entry_text, timed_text, with_moment, EntryHasSpelling, SpellsEntry}
use Rattle.rbg_record.specs.Heading.{version_text, players_text, start_text}
use Rattle.rbg_record.specs.Reading.{HasContent}
use Rattle.rbg_wire.specs.Lines.{line_of, lines_of}
use Rattle.rbg_record.specs.declared.error.RecordError.{RecordError}
use Rattle.rbg_record.specs.declared.error.RecordError.TheVariants as error
use Rattle.rbg_record.specs.Migration.{HasPlainForm, PlainPart, before_version, among_moves, beyond_end, IsPlainFault, IsPlainSoFar}
use Rattle.rbg_record.specs.Records.{PlainMove, plain_entry}

-- this may come next in a record of version 1
abbrev pub IsPlainNext : Next → Type 0
IsPlainNext nexts.Version = Unit {0}
IsPlainNext (nexts.Entry One) = Unit {0}
IsPlainNext nexts.Nothing = Unit {0}
IsPlainNext _ = ⊥

-- the point in a record of version 1 at which this comes next
abbrev pub part_of : Next → PlainPart
part_of nexts.Version = before_version
part_of nexts.Nothing = beyond_end
part_of _ = among_moves

-- the first texts of version 2
abbrev pub head_texts : AbstractGame → List (List ℕ)
head_texts game =
    version_text Two ∷ players_text game.players ∷ start_text (record { turn_ms = 1; now = 0 }) ∷ []

-- A line with this text is accepted, and this is what version 2 has after it.
pub data Migrates (game : AbstractGame) : PlainPart → (text : List ℕ) → PlainPart → (old new : List ℕ) → Type 0 where
  version : {text old new : List ℕ} →
      text ≡ version_text One →
      new ≡ old ++ lines_of (head_texts game) →
      Migrates game before_version text among_moves old new
  move : {text old new : List ℕ} {player : ℕ} {pairs : List (ℕ × ℕ)} →
      SpellsEntry text (Move player pairs) →
      new ≡ old ++ line_of (timed_text (with_moment (Move player pairs))) →
      Migrates game among_moves text among_moves old new
  end : {text old new : List ℕ} {outcome : Option Outcome} →
      SpellsEntry text (End outcome) →
      new ≡ old ++ line_of (timed_text (with_moment (End outcome))) →
      Migrates game among_moves text beyond_end old new

-- the texts of version 1 of these moves, and then this end
abbrev pub moves_texts : List PlainMove → List (List ℕ)
moves_texts moves = version_text One ∷ map entry_text (map plain_entry moves)

-- the same moves in version 2
abbrev pub timed_texts : AbstractGame → List PlainMove → List (List ℕ)
timed_texts game moves = head_texts game ++ map (λ move. timed_text (with_moment (plain_entry move))) moves

pub record TellsMoves (game : AbstractGame) (texts : List (List ℕ)) (out : List ℕ) : Type 0 where
  pub moves : List PlainMove
  pub has : All EntryHasSpelling (map plain_entry moves)
  pub are : texts ≡ moves_texts moves
  pub told : out ≡ lines_of (timed_texts game moves)

pub record TellsAll (game : AbstractGame) (texts : List (List ℕ)) (out : List ℕ) : Type 0 where
  pub moves : List PlainMove
  pub outcome : Option Outcome
  pub has : All EntryHasSpelling (map plain_entry moves)
  pub ends : EntryHasSpelling (End outcome)
  pub are : texts ≡ moves_texts moves ++ entry_text (End outcome) ∷ []
  pub told : out ≡ lines_of (timed_texts game moves ++ timed_text (with_moment (End outcome)) ∷ [])

-- what is in version 2 so far
abbrev pub IsWritten : AbstractGame → PlainPart → (texts : List (List ℕ)) → (out : List ℕ) → Type 0
IsWritten game before_version texts out = (texts ≡ []) × (out ≡ [])
IsWritten game among_moves texts out = TellsMoves game texts out
IsWritten game beyond_end texts out = TellsAll game texts out

-- Lines of these texts are migrated: this comes next, and this was written of them.
pub record AreMigrated (game : AbstractGame) (texts : List (List ℕ)) (so_far : Next × List ℕ) : Type 0 where
  pub plain : IsPlainNext so_far.0
  pub lead : IsPlainSoFar texts (part_of so_far.0)
  pub told : IsWritten game (part_of so_far.0) texts so_far.1

-- A line is accepted at this point, and what it is in version 2 was written.
pub record MigratesLine (game : AbstractGame) (next : Next) (text : List ℕ) (to : Next) (old new : List ℕ) : Type 0 where
  pub migrates : Migrates game (part_of next) text (part_of to) old new
  pub plain : IsPlainNext to

-- why a line of version 1 isn't migrated: it isn't of the form, whatever comes next, or memory ran out
abbrev pub RefusesPlain : RecordLine → RecordError → Type 0
RefusesPlain line (error.Form number) =
    (number ≡ line.number)
    × ((next : Next) → IsPlainNext next → HasContent next line.text.now line.content → ¬ HasPlainForm (part_of next) line.text.now)
RefusesPlain line (error.Over number) = ⊥
RefusesPlain line error.Memory = Unit {0}

-- why a version is not migrated: it is version 2, or memory ran out
abbrev pub RefusesVersion : Version → (line : ℕ) → RecordError → Type 0
RefusesVersion read line (error.Form number) = (number ≡ line) × (read ≡ Two)
RefusesVersion read line (error.Over number) = ⊥
RefusesVersion read line error.Memory = Unit {0}

-- why a record isn't migrated
abbrev pub IsPlainRefusal : (bytes : List ℕ) → RecordError → Type 0
IsPlainRefusal bytes (error.Form line) = IsPlainFault bytes line
IsPlainRefusal bytes (error.Over line) = ⊥
IsPlainRefusal bytes error.Memory = Unit {0}
