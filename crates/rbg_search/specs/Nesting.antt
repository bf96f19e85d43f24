-- How deep patterns may still nest from where one stands.
use Rattle.std.specs.Prelude.{◌≡◌, ℕ}
use Rattle.rbg_rules.specs.Meaning.{AbstractAction, Expression, HasOwnAction, Level, IsLevel, Start, beginning, after, NestsWithin}

-- One stands in the level, whose expression is x.
abbrev pub StandsIn : Start → Level → Expression → Type 0
StandsIn (beginning level) level' x = level' ≡ level
StandsIn (after i) level' x = (a : AbstractAction) × HasOwnAction x i a

-- In the level where one stands patterns stand one inside the other at most `limit` deep.
pub record NestsFrom (rules : Expression) (limit : ℕ) (f : Start) : Type 0 where
  pub within : (level : Level) (x : Expression) → IsLevel rules level x → StandsIn f level x → NestsWithin limit x
