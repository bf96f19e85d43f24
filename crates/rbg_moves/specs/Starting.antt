-- The place where play begins.
use Rattle.std.specs.Prelude.{None}
use Rattle.rbg_rules.specs.Meaning.{AbstractGame, AbstractPlace, start_of}

-- the beginning of play: the first semi-state, and no action yet
abbrev pub start_place : AbstractGame → AbstractPlace
start_place game = record { state = start_of game; last = None }
