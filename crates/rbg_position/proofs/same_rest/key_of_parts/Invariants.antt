-- The key is that of the parts so far.
use Rattle.std.proofs.Common.{◌≡◌, take}
use Rattle.rbg_rules.specs.Meaning.{sequence_of}
use Rattle.rbg_position.specs.internal.Marks.{rules_key}
use Rattle.rbg_position.specs.internal.RestParts.{parts_of}
use Rattle.rbg_position.proofs.same_rest.key_of_parts.Given as goal

abbrev pub invariant-loop-part : goal.invariant-loop-part
invariant-loop-part l = l.key.items ≡ rules_key (sequence_of (parts_of l.actions (take l.part-index l.parts)))
