-- The key of what the operations so far make.
use Rattle.std.proofs.Common.{◌≡◌, List, ◌++◌, map, take}
use Rattle.rbg_rules.specs.Meaning.{AbstractArithmetic, changed, operation_of}
use Rattle.rbg_position.specs.declared.key_mark.KeyMark.{KeyMark}
use Rattle.rbg_position.specs.internal.Marks.{arithmetic_key}
use Rattle.rbg_position.proofs.action_keys.+arithmetic.Given as goal

abbrev pub invariant-put_operations-loop-operation : goal.invariant-put_operations-loop-operation
invariant-put_operations-loop-operation l =
    (before : List KeyMark) (first : AbstractArithmetic) →
    l.fn.key.items ≡ before ++ arithmetic_key first →
    l.key.items ≡ before ++ arithmetic_key (changed first (map operation_of (take l.operation-index l.operations)))
