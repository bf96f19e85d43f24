-- The entries of a record: its moves, and how it ends. Each has one spelling.
use Rattle.std.specs.Prelude.{◌≡◌, ℕ, ◌<◌, ◌≤◌, ◌^◌, List, [], ◌++◌, length, Option, Some, None, codes, decimal}
use Rattle.rbg_base.specs.Move.{most_pairs}
use Rattle.rbg_wire.specs.declared.outcome.Outcome.TheVariants.{Time}
use Rattle.rbg_wire.specs.Messages.{ArePairs, pairs_text, OutcomeHasSpelling, outcome_text}
use Rattle.rbg_wire.specs.Reads.{IsSpelling}
use Rattle.rbg_record.specs.declared.entry.Entry.{Entry}
use Rattle.rbg_record.specs.declared.entry.Entry.TheVariants.{Move, End}
use Rattle.rbg_record.specs.declared.entry.Timed.{Timed}
use Rattle.rbg_record.specs.declared.heading.Version.{Version}
use Rattle.rbg_record.specs.declared.heading.Version.TheVariants.{One, Two}

-- A move is its player and its pairs. The end is the outcome, or `-` if the match is still in play.
unfoldable pub entry_text : Entry → List ℕ
entry_text (Move player pairs) = decimal player ++ codes " " ++ pairs_text pairs
entry_text (End None) = codes "-"
entry_text (End (Some outcome)) = outcome_text outcome

-- an entry that has a spelling: numbers below 2 ^ 64, and as many pairs as a move may have
abbrev pub EntryHasSpelling : Entry → Type 0
EntryHasSpelling (Move player pairs) = (player < 2 ^ 64) × ArePairs pairs × (length pairs ≤ most_pairs)
EntryHasSpelling (End None) = Unit {0}
EntryHasSpelling (End (Some outcome)) = OutcomeHasSpelling outcome

-- what comes before an entry: its moment and a space, or nothing
abbrev pub moment_text : Option ℕ → List ℕ
moment_text None = []
moment_text (Some at) = decimal at ++ codes " "

-- an entry with its moment before it
abbrev pub timed_text : Timed → List ℕ
timed_text timed = moment_text (Some timed.at) ++ entry_text timed.entry

abbrev pub TimedHasSpelling : Timed → Type 0
TimedHasSpelling timed = (timed.at < 2 ^ 64) × EntryHasSpelling timed.entry

-- the text is that of this entry
abbrev pub SpellsEntry : List ℕ → Entry → Type 0
SpellsEntry = IsSpelling EntryHasSpelling entry_text

-- the text is that of this entry with its moment
abbrev pub SpellsTimed : List ℕ → Timed → Type 0
SpellsTimed = IsSpelling TimedHasSpelling timed_text

-- The moment that version 1 leaves out. Everything happens at moment 0, except that a time that is over ends at moment
-- 1: a turn lasts for one millisecond there.
abbrev pub unwritten_moment : Entry → ℕ
unwritten_moment (End (Some (Time player))) = 1
unwritten_moment _ = 0

-- the entry with that moment
abbrev pub with_moment : Entry → Timed
with_moment entry = record { at = unwritten_moment entry; entry = entry }

-- the text is that of this entry in a record of that version
abbrev pub SpellsIn : Version → List ℕ → Timed → Type 0
SpellsIn One text timed = SpellsEntry text timed.entry × (timed.at ≡ unwritten_moment timed.entry)
SpellsIn Two text timed = SpellsTimed text timed
