-- What the reading of one line means: what it leads to, or why it leads to nothing.
use Rattle.std.specs.Prelude.{◌≡◌, ℕ, ◌≤◌, List, Result, IfOk, IfErr}
use Rattle.rbg_rules.specs.Meaning.{AbstractGame, IsPlaceOf}
use Rattle.rbg_match.specs.Limits.{latest_moment}
use Rattle.rbg_record.specs.declared.entry.Timed.{Timed}
use Rattle.rbg_record.specs.declared.line.RecordLine.{RecordLine}
use Rattle.rbg_record.specs.Entries.{SpellsIn}
use Rattle.rbg_record.specs.declared.fault.LineFault.{LineFault}
use Rattle.rbg_record.specs.declared.fault.LineFault.TheVariants.{Form, Bad, Over, Memory}
use Rattle.rbg_record.specs.declared.fault.Misfit.{Misfit}
use Rattle.rbg_record.specs.declared.reached.Reached.{Reached as CodeReached}
use Rattle.rbg_record.specs.declared.reached.Reached.TheVariants as code
use Rattle.rbg_record.specs.Judged.{FitsUnasked, AsksHeavy}
use Rattle.rbg_record.specs.Lines.{MatchSoFar, Reached, version_next, players_next, start_next, entry_next, nothing_next, HasForm, EntryLeads, Leads}

-- what the code's value means: the point to which the lines so far lead
abbrev pub reached_of : CodeReached → Reached
reached_of code.Version = version_next
reached_of code.Players = players_next
reached_of code.Start = start_next
reached_of (code.Entry match_so_far) = entry_next match_so_far
reached_of code.Nothing = nothing_next

-- the place that is reached is one of the game
abbrev pub IsReachedIn : AbstractGame → Reached → Type 0
IsReachedIn game (entry_next match_so_far) = IsPlaceOf game match_so_far.place
IsReachedIn game _ = Unit {0}

-- everything about an entry that needs no question is right, but its question is above the limits
pub record IsHeavyEntry (game : AbstractGame) (match_so_far : MatchSoFar) (told : Timed) : Type 0 where
  pub counted : told.at ≤ latest_moment
  pub fits : FitsUnasked game match_so_far told.at told.entry
  pub asks : AsksHeavy game match_so_far told.entry

-- why an entry is refused
abbrev pub RefusesEntry : AbstractGame → MatchSoFar → Timed → LineFault → Type 0
RefusesEntry game match_so_far told Form = ⊥
RefusesEntry game match_so_far told Bad = (to : Reached) → ¬ EntryLeads game match_so_far told to
RefusesEntry game match_so_far told Over = IsHeavyEntry game match_so_far told
RefusesEntry game match_so_far told Memory = Unit {0}

-- the text is that of an entry whose question is above the limits
pub record IsHeavyText (game : AbstractGame) (reached : Reached) (text : List ℕ) : Type 0 where
  pub match_so_far : MatchSoFar
  pub here : reached ≡ entry_next match_so_far
  pub told : Timed
  pub form : SpellsIn match_so_far.version text told
  pub heavy : IsHeavyEntry game match_so_far told

-- why a line with this text is refused
abbrev pub Refuses : AbstractGame → Reached → (text : List ℕ) → LineFault → Type 0
Refuses game reached text Form = ¬ HasForm reached text
Refuses game reached text Bad = HasForm reached text × ((to : Reached) → ¬ Leads game reached text to)
Refuses game reached text Over = IsHeavyText game reached text
Refuses game reached text Memory = Unit {0}

-- what a call returns that judges a line with this text: the point to which it leads, at a place of the game, or why it
-- leads to none
pub record ReadsLine (game : AbstractGame) (reached : Reached) (text : List ℕ) (result : Result CodeReached LineFault) :
    Type 0 where
  pub leads : IfOk result (λ to. Leads game reached text (reached_of to))
  pub in_game : IfOk result (λ to. IsReachedIn game (reached_of to))
  pub refused : IfErr result (Refuses game reached text)

-- the same of a line that was read, whose number is the misfit's
pub record JudgesLine (game : AbstractGame) (reached : Reached) (line : RecordLine) (result : Result CodeReached Misfit) :
    Type 0 where
  pub leads : IfOk result (λ to. Leads game reached line.text.now (reached_of to))
  pub in_game : IfOk result (λ to. IsReachedIn game (reached_of to))
  pub refused : IfErr result (λ misfit.
      (misfit.line ≡ line.number) × Refuses game reached line.text.now misfit.fault)
