-- More definitions for the reading of one line.
use Rattle.std.specs.Prelude.{◌≡◌, ℕ, Bool, true, false, List, length, take, Option, Some, None}
use Rattle.rbg_wire.specs.declared.outcome.Outcome.{Outcome}
use Rattle.rbg_wire.specs.declared.outcome.Outcome.TheVariants.{Finished, Time, Refusals, Gone, Heavy}
use Rattle.rbg_rules.specs.Meaning.{AbstractGame, AbstractPlace, IsLegal}

-- some move is legal at the place
abbrev pub SomeIsLegal : AbstractGame → AbstractPlace → Type 0
SomeIsLegal game place = (pairs : List (ℕ × ℕ)) × IsLegal game place pairs

-- The match could end with this outcome at the place, whether play is finished there or not. After a question that was
-- above the limits it could at any place.
abbrev pub EndsSo : AbstractGame → AbstractPlace → (finished : Bool) → Option Outcome → Type 0
EndsSo game place finished None = finished ≡ false
EndsSo game place finished (Some (Finished scores)) =
    (finished ≡ true) × (scores ≡ take (length game.players) place.state.values)
EndsSo game place finished (Some (Time player)) = finished ≡ false
EndsSo game place finished (Some (Refusals player)) = finished ≡ false
EndsSo game place finished (Some (Gone player)) = finished ≡ false
EndsSo game place finished (Some Heavy) = Unit {0}
