-- What a hall hears, and what is queued for the lines then.
use Rattle.std.specs.Prelude.{◌≡◌, ℕ, List}
use Rattle.rbg_hall.specs.Tellings.{Telling, told_to}
use Rattle.rbg_script.specs.Events.{AbstractEvent}
use Rattle.rbg_hall.specs.Halls.{HallState, HallSteps}

-- A hall hears an event, and what the lines are told follows what each had.
pub record HallHears (old : HallState) (event : AbstractEvent) (new : HallState) (before after : List (List ℕ)) : Type 0 where
  pub told : List Telling
  pub steps : HallSteps old event new told
  pub queued : after ≡ told_to before told
