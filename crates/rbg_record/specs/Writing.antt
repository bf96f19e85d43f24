-- The lines of events.
use Rattle.std.specs.Prelude.{ℕ, List, map}
use Rattle.std.specs.Global.{Vec}
use Rattle.rbg_script.specs.declared.event.Event.{Event}
use Rattle.rbg_script.specs.Events.{event_text, owned_event_of}
use Rattle.rbg_wire.specs.Lines.{lines_of}

-- the lines of these events, one after the other
abbrev pub texts_of : List (Event (Vec ℕ)) → List ℕ
texts_of events = lines_of (map event_text (map owned_event_of events))
