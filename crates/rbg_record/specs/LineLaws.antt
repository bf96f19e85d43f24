-- Laws of the lines of a record.
use Rattle.std.specs.Prelude.{◌≡◌, ℕ, List, Option, All}
use Rattle.rbg_wire.specs.declared.outcome.Outcome.{Outcome}
use Rattle.rbg_wire.specs.Bytes.{LacksByte}
use Rattle.rbg_wire.specs.Lines.{line_feed, lines_of}
use Rattle.rbg_wire.specs.Reads.{SpellsOne}
use Rattle.rbg_record.specs.declared.entry.Entry.{Entry}
use Rattle.rbg_record.specs.declared.entry.Entry.TheVariants.{Move, End}
use Rattle.rbg_record.specs.declared.entry.Timed.{Timed}
use Rattle.rbg_record.specs.declared.heading.Start.{Start}
use Rattle.rbg_record.specs.declared.heading.Version.{Version}
use Rattle.rbg_record.specs.Entries.{SpellsEntry, SpellsTimed}
use Rattle.rbg_record.specs.Heading.{version_text, SpellsPlayers, SpellsStart}

-- A text spells at most one entry, and at most one with a moment. So no move's text is that of an end.
pub record EntriesAreApart : Type 0 where
  pub entries : SpellsOne SpellsEntry
  pub timed : SpellsOne SpellsTimed
  pub ends : (text : List ℕ) (player : ℕ) (pairs : List (ℕ × ℕ)) (outcome : Option Outcome)
      → SpellsEntry text (Move player pairs)
      → SpellsEntry text (End outcome)
      → ⊥

-- A text spells at most one version, one list of players and one start.
pub record HeadingsAreApart : Type 0 where
  pub versions : (a b : Version) → version_text a ≡ version_text b → a ≡ b
  pub players : SpellsOne SpellsPlayers
  pub starts : SpellsOne SpellsStart

-- No spelling has a line feed in it, so each is a line of its own.
pub record SpellingsAreLines : Type 0 where
  pub versions : (version : Version) → LacksByte line_feed (version_text version)
  pub players : (text : List ℕ) (names : List (List ℕ)) → SpellsPlayers text names → LacksByte line_feed text
  pub starts : (text : List ℕ) (start : Start) → SpellsStart text start → LacksByte line_feed text
  pub entries : (text : List ℕ) (entry : Entry) → SpellsEntry text entry → LacksByte line_feed text
  pub timed : (text : List ℕ) (timed : Timed) → SpellsTimed text timed → LacksByte line_feed text

-- Bytes are the lines of at most one list of texts without line feeds.
abbrev pub LinesAreApart : Type 0
LinesAreApart =
    (xs ys : List (List ℕ))
    → All (LacksByte line_feed) xs
    → All (LacksByte line_feed) ys
    → lines_of xs ≡ lines_of ys
    → xs ≡ ys
