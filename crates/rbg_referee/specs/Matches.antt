-- The printed lines of the match of a description and a script, and why there are none.
use Rattle.std.specs.Prelude.{◌≡◌, ℕ, List}
use Rattle.rbg_game.specs.Loading.{Loads, IsRefused, IsMemory}
use Rattle.rbg_match.specs.Matches.{MatchState}
use Rattle.rbg_referee.specs.Played.{IsMatchOf}
use Rattle.rbg_referee.specs.Refereed.{IsRefereed}
use Rattle.rbg_rules.specs.Meaning.{AbstractGame}
use Rattle.rbg_script.specs.Inputs.{IsInput}
use Rattle.rbg_script.specs.Scripts.{AbstractScript, SpellsScript, HasMisfit}
use Rattle.rbg_referee.specs.declared.input_error.RefereeingError.{RefereeingError}
use Rattle.rbg_referee.specs.declared.input_error.RefereeingError.TheVariants.{Load, Script, Memory}
use Rattle.rbg_referee.specs.Printed.{IsPrinted}
use Rattle.rbg_referee.specs.Scripts.{config_for}

-- The seats have these bytes in the match of the description and the script.
abbrev pub IsScriptRefereed : (description : List ℕ) → AbstractScript → (outbox : List (List ℕ)) → Type 0
IsScriptRefereed description script outbox =
    IsRefereed description (config_for script.config) script.config.now script.events outbox

-- The events of the script lead to this match of the description's game, and these bytes are queued for the seats.
abbrev pub IsScriptPlayed : (description : List ℕ) → AbstractScript → MatchState → (queued : List (List ℕ)) → Type 0
IsScriptPlayed description script state queued =
    IsMatchOf description (config_for script.config) script.config.now script.events state queued

-- The match of the description and the script is refereed, and these are the lines of its outbox.
pub record IsPrintedMatch (description : List ℕ) (script : AbstractScript) (lines : List ℕ) : Type 0 where
  pub outbox : List (List ℕ)
  pub refereed : IsScriptRefereed description script outbox
  pub printed : IsPrinted outbox lines

-- The text is that of a script, and these are the lines of its match.
pub record IsScriptsMatch (description text lines : List ℕ) : Type 0 where
  pub script : AbstractScript
  pub spells : SpellsScript text script
  pub played : IsPrintedMatch description script lines

-- Why a match has no lines.
--   Load: the description is no game's, and has the fault that is named.
--   Script: the description is a game's, and the text is no script; its first line that is not of its form is named.
--   Memory: memory ran out.
abbrev pub IsNoMatch : (description text : List ℕ) → RefereeingError → Type 0
IsNoMatch description text (Load error) = IsRefused description error × ¬ IsMemory error
IsNoMatch description text (Script number) = (game : AbstractGame) × Loads description game × HasMisfit text number
IsNoMatch description text Memory = Unit {0}

-- The input is a description, the mark and a script, and these are the lines of their match.
pub record IsInputsMatch (input lines : List ℕ) : Type 0 where
  pub description : List ℕ
  pub text : List ℕ
  pub parts : IsInput input description text
  pub played : IsScriptsMatch description text lines

-- Why an input has no lines: it has no mark, or its match has none.
pub data IsNoInput (input : List ℕ) (error : RefereeingError) : Type 0 where
  no_mark : ((description text : List ℕ) → IsInput input description text → ⊥) → error ≡ Script 0 → IsNoInput input error
  no_match : (description text : List ℕ)
      → IsInput input description text
      → IsNoMatch description text error
      → IsNoInput input error
