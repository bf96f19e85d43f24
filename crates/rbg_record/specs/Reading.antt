-- Reading a record line by line: the forms that each line may have, its contents, and where reading stops.
use Rattle.std.specs.Prelude.{◌≡◌, ℕ, ◌+◌, List}
use Rattle.rbg_wire.specs.Words.{words_of}
use Rattle.rbg_record.specs.declared.entry.Entry.{Entry}
use Rattle.rbg_record.specs.declared.entry.Entry.TheVariants.{Move, End}
use Rattle.rbg_record.specs.declared.entry.Timed.{Timed}
use Rattle.rbg_record.specs.declared.form_error.FormError.{FormError}
use Rattle.rbg_record.specs.declared.heading.Start.{Start}
use Rattle.rbg_record.specs.declared.heading.Version.{Version}
use Rattle.rbg_record.specs.declared.line.Content.{Content}
use Rattle.rbg_record.specs.declared.line.Content.TheVariants as contents
use Rattle.rbg_record.specs.declared.line.RecordLine.{RecordLine}
use Rattle.rbg_record.specs.declared.next.Next.{Next}
use Rattle.rbg_record.specs.declared.next.Next.TheVariants as nexts
use Rattle.rbg_record.specs.Entries.{SpellsIn}
use Rattle.rbg_record.specs.Heading.{version_text, SpellsPlayers, SpellsStart}
use Rattle.rbg_record.specs.NextLine.{GoesOn, IsFirstLine, Left}

-- the text is of the form that a line may have there
abbrev pub HasForm : Next → List ℕ → Type 0
HasForm nexts.Version text = (version : Version) × (text ≡ version_text version)
HasForm nexts.Players text = (names : List (List ℕ)) × SpellsPlayers text names
HasForm nexts.Start text = (start : Start) × SpellsStart text start
HasForm (nexts.Entry version) text = (timed : Timed) × SpellsIn version text timed
HasForm nexts.Nothing text = ⊥

-- a line with this text has these contents there
abbrev pub HasContent : Next → List ℕ → Content → Type 0
HasContent nexts.Version text (contents.Version version) = text ≡ version_text version
HasContent nexts.Players text (contents.Players names) = SpellsPlayers text (words_of names.now)
HasContent nexts.Start text (contents.Start start) = SpellsStart text start
HasContent (nexts.Entry version) text (contents.Entry timed) = SpellsIn version text timed
HasContent _ text _ = ⊥

-- what comes after an entry that was read when `next` was next
abbrev pub next_after : Next → Entry → Next
next_after next (Move player pairs) = next
next_after next (End outcome) = nexts.Nothing

-- The line is the first one of what is left, and has the contents of its text there.
pub record TakesLine (next : Next) (old new : Left) (line : RecordLine) : Type 0 where
  pub first : IsFirstLine old.rest line.text.now new.rest
  pub number : line.number ≡ old.number
  pub later : new.number ≡ old.number + 1
  pub says : HasContent next line.text.now line.content

-- What is left is not of the form: its first line, which has this number, isn't, or is missing, or is one too many.
pub record Misreads (next : Next) (left : Left) (error : FormError) : Type 0 where
  pub number : error.line ≡ left.number
  pub stops : ¬ GoesOn (next ≡ nexts.Nothing) (HasForm next) left.rest
