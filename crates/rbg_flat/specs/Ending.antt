-- Places from which nothing goes on.
use Rattle.std.specs.Prelude.{◌↔◌, ◌≤◌, ℕ, Bool, IsTrue}
use Rattle.rbg_rules.specs.Meaning.{IsModifierAt, IsPatternAt, AbstractGame, AbstractState, Start}
use Rattle.rbg_flat.specs.Candidates.{IsCandidate, MayEnd}
use Rattle.rbg_flat.specs.Found.{HasCandidates, most_candidates}

-- No modifier and no pattern may come next, whether it holds or not. There are `many` candidates, and `ends` tells whether
-- a word may end.
pub record IsDeadEnd (game : AbstractGame) (s : AbstractState) (f : Start) (many : ℕ) (ends : Bool) : Type 0 where
  pub candidates : HasCandidates game s f many
  pub few : many ≤ most_candidates game
  pub no_modifier : (v p : ℕ) → IsCandidate game s f v p → ¬ IsModifierAt game.rules p
  pub no_pattern : (v p : ℕ) → IsCandidate game s f v p → ¬ IsPatternAt game.rules p
  pub may_end : IsTrue ends ↔ MayEnd game s f
