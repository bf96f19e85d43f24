-- What a line holds that is an event of a script, and what is added to the moves that a line may mean.
use Rattle.std.specs.Prelude.{◌≡◌, ℕ, List, [], ◌∷◌, ◌++◌}
use Rattle.rbg_script.specs.Events.{AbstractEvent, piece}
use Rattle.rbg_view.specs.declared.move_readings.Lead.{Lead}
use Rattle.rbg_view.specs.declared.move_readings.Reading.{Reading}
use Rattle.rbg_view.specs.Readings.{Means}
use Rattle.rbg_view.specs.declared.line.ListLine.{ListLine}
use Rattle.rbg_view.specs.declared.line.ListLine.TheVariants.{Silent, Head, End, Said, Sent, Other}

-- A message, if the event is a piece whose last byte is zero; else nothing of moves.
abbrev pub HoldsEvent : AbstractEvent → ListLine → Type 0
HoldsEvent event Silent = (seat at : ℕ) (text : List ℕ) → event ≡ piece seat at (text ++ 0 ∷ []) → ⊥
HoldsEvent event (Sent seat text) = (at : ℕ) × (event ≡ piece seat at (text.items ++ 0 ∷ []))
HoldsEvent event (Said seat text) = ⊥
HoldsEvent event (Head version) = ⊥
HoldsEvent event (End end) = ⊥
HoldsEvent event (Other text) = ⊥

-- What the text means after this lead was added to the moves.
pub record AddsMeaning (text : List ℕ) (lead : Lead) (old new : List Reading) : Type 0 where
  pub meant : List Reading
  pub means : Means text lead meant
  pub is : new ≡ old ++ meant
