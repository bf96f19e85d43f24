-- Why the rest of a list isn't shown, from why moves aren't made.
use Rattle.std.specs.Prelude.{ℕ, List}
use Rattle.rbg_moves.specs.declared.unsettled.Unsettled.{Unsettled}
use Rattle.rbg_moves.specs.declared.unsettled.Unsettled.TheVariants.{Heavy as HeavyQuestion, Endless, Memory as NoMemory}
use Rattle.rbg_view.specs.declared.stop.Stop.{Stop}
use Rattle.rbg_view.specs.declared.stop.Stop.TheVariants.{NotLegal, NoMove, Mark, AfterEnd, Heavy, Keeper, Memory}
use Rattle.rbg_view.specs.Following.{BeginsWithMark}

abbrev pub stop_of_unsettled : Unsettled → Stop
stop_of_unsettled HeavyQuestion = Heavy
stop_of_unsettled Endless = Keeper
stop_of_unsettled NoMemory = Memory

-- a line that is no move stops for a mark before it, or without one
abbrev pub IsNoMove : List ℕ → Stop → Type 0
IsNoMove line Mark = BeginsWithMark line
IsNoMove line NoMove = ¬ BeginsWithMark line
IsNoMove line NotLegal = ⊥
IsNoMove line AfterEnd = ⊥
IsNoMove line Heavy = ⊥
IsNoMove line Keeper = ⊥
IsNoMove line Memory = ⊥
