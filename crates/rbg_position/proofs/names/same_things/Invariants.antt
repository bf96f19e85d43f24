-- So far all is the same.
use Rattle.std.proofs.Common.{◌≡◌, take}
use Rattle.rbg_position.specs.internal.Parts.{names_of}
use Rattle.rbg_position.proofs.names.same_things.Given as goal

abbrev pub invariant-loop-index : goal.invariant-loop-index
invariant-loop-index l = take l.index (names_of l.things l.old) ≡ take l.index (names_of l.things l.new)
