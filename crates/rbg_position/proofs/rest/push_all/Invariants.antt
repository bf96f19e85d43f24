-- The parts so far are appended.
use Rattle.std.proofs.Common.{◌≡◌, ◌++◌, map, take}
use Rattle.rbg_rules.specs.Meaning.{expression_of}
use Rattle.rbg_position.specs.internal.RestParts.{parts_of}
use Rattle.rbg_position.proofs.rest.push_all.Given as goal

abbrev pub invariant-loop-part : goal.invariant-loop-part
invariant-loop-part l =
    parts_of l.actions l.parts.items ≡ parts_of l.actions l.fn.parts.items ++ map (expression_of l.actions) (take l.part-index l.inner)
