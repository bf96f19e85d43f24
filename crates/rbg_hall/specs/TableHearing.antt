-- What a table hears, and what is queued for the lines then.
use Rattle.std.specs.Prelude.{◌≡◌, ℕ, List, Option, Some, None}
use Rattle.rbg_wire.specs.Inboxes.{item_of}
use Rattle.rbg_wire.specs.Whole.{IsCutAlone}
use Rattle.rbg_match.specs.Limits.{message_limit}
use Rattle.rbg_hall.specs.declared.input.TableInput.{TableInput}
use Rattle.rbg_hall.specs.declared.input.TableInput.TheVariants.{Clock, Joins, Arrives, Says, Leaves}
use Rattle.rbg_hall.specs.Tables.{TableState, Hears, OwnEvent, clock, joins, arrives, says, leaves}
use Rattle.rbg_hall.specs.Tellings.{Telling, told_to}

-- what an event of the code stands for
abbrev pub input_of : TableInput → OwnEvent
input_of (Clock at) = clock at
input_of (Joins line at) = joins line at
input_of (Arrives line at) = arrives line at
input_of (Says line at took) = says line at (item_of took)
input_of (Leaves line at) = leaves line at

-- the line from which an event comes; none if it is of the clock
abbrev pub line_in : OwnEvent → Option ℕ
line_in (clock at) = None
line_in (joins line at) = Some line
line_in (arrives line at) = Some line
line_in (says line at item) = Some line
line_in (leaves line at) = Some line

-- an item that is said is one of a stream
abbrev pub SaysWhole : OwnEvent → Type 0
SaysWhole (clock at) = Unit {0}
SaysWhole (joins line at) = Unit {0}
SaysWhole (arrives line at) = Unit {0}
SaysWhole (says line at item) = IsCutAlone message_limit item
SaysWhole (leaves line at) = Unit {0}

-- A table hears an event, and what it tells its lines follows what each line had.
pub record HearsFor (old : TableState) (event : OwnEvent) (new : TableState) (before after : List (List ℕ)) : Type 0 where
  pub told : List Telling
  pub hears : Hears old event new told
  pub queued : after ≡ told_to before told
