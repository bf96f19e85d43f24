-- Lemmas on why a match has no lines.
use Rattle.std.proofs.Common.{ℕ, List, sym, subst}
use Rattle.rbg_game.specs.Loading.{Loads}
use Rattle.rbg_rules.specs.Meaning.{AbstractGame}
use Rattle.rbg_script.specs.declared.error.ScriptError.{ScriptError}
use Rattle.rbg_script.specs.declared.error.ScriptError.TheVariants.{Line, Memory as NoMemory}
use Rattle.rbg_script.specs.Scripts.{HasMisfit, IsReason, misfit}
use Rattle.rbg_referee.specs.declared.input_error.RefereeingError.{RefereeingError}
use Rattle.rbg_referee.specs.Errors.{IsOfScript}
use Rattle.rbg_referee.specs.Matches.{IsNoMatch}

reason_has : (text : List ℕ) (number : ℕ) → IsReason text (Line number) → HasMisfit text number
reason_has text _ (misfit number has) = has

-- a text that is no script, if the description is a game's
pub script_is_no_match : (description : List ℕ) (game : AbstractGame) → Loads description game → (reason : ScriptError) (error : RefereeingError) → IsOfScript reason error → (text : List ℕ) → IsReason text reason → IsNoMatch description text error
script_is_no_match description game loads (Line number) error is text reason =
    subst (λ e. IsNoMatch description text e) (sym is) (game, loads, reason_has text number reason)
script_is_no_match description game loads NoMemory error is text reason =
    subst (λ e. IsNoMatch description text e) (sym is) (tt {0})
