-- How far the calls that read line by line have read.
use Rattle.std.specs.Prelude.{◌≡◌, ◌≢◌, ℕ, ◌+◌, Bool, true, false, List, [], ◌∷◌, ◌++◌, length, All}
use Rattle.std.specs.List.{AllZip}
use Rattle.rbg_wire.specs.Bytes.{LacksByte}
use Rattle.rbg_wire.specs.Lines.{line_feed}
use Rattle.rbg_script.specs.declared.error.ScriptError.{ScriptError}
use Rattle.rbg_script.specs.declared.error.ScriptError.TheVariants.{Line, Memory}
use Rattle.rbg_script.specs.Events.{AbstractEvent, AreNumbers, SpellsEvent, end_text}
use Rattle.rbg_script.specs.Inputs.{mark}
use Rattle.rbg_script.specs.Lines.{HasLines}
use Rattle.rbg_script.specs.Scripts.{IsNoEvent}
use Rattle.rbg_script.specs.internal.Whole.{WholeSoFar}

-- the text begins with the line, and the rest is after it
pub data BeginsWith (text line rest : List ℕ) : Type 0 where
  ended : LacksByte line_feed line → text ≡ line ++ line_feed ∷ rest → BeginsWith text line rest
  alone : LacksByte line_feed line → text ≡ line → rest ≡ [] → BeginsWith text line rest

-- the text is the line of no end of a stream
abbrev pub IsNoEnd : List ℕ → Type 0
IsNoEnd text = (seat at : ℕ) → AreNumbers seat at → text ≡ end_text seat at → ⊥

-- a line spells the event that is added, or it spells none and nothing is added
pub data TakesLine (line : List ℕ) (old new : List AbstractEvent) : Bool → Type 0 where
  taken : (event : AbstractEvent) → SpellsEvent line event → new ≡ old ++ event ∷ [] → TakesLine line old new true
  not_taken : IsNoEvent line → new ≡ old → TakesLine line old new false

-- what is left of a text after lines that spell these events
pub record ReadSoFar (text left : List ℕ) (events : List AbstractEvent) : Type 0 where
  pub lines : List (List ℕ)
  pub spelled : AllZip SpellsEvent lines events
  pub onward : (more : List (List ℕ)) → HasLines left more → HasLines text (lines ++ more)

-- the lines of the text spell these events
pub record SpellsEvents (text : List ℕ) (events : List AbstractEvent) : Type 0 where
  pub lines : List (List ℕ)
  pub has : HasLines text lines
  pub spelled : AllZip SpellsEvent lines events

-- why the lines below the first are not read as events
pub data IsEventReason (text : List ℕ) : ScriptError → Type 0 where
  bad_line : (line : List ℕ) (before after : List (List ℕ)) (events : List AbstractEvent)
      → HasLines text (before ++ line ∷ after)
      → AllZip SpellsEvent before events
      → IsNoEvent line
      → IsEventReason text (Line (length before + 2))
  out_of_memory : IsEventReason text Memory

-- what is left of an input after whole lines that are not the mark
pub record Unmarked (input left : List ℕ) : Type 0 where
  pub far : WholeSoFar input left
  pub unmarked : All (λ line. line ≢ mark) far.lines
