-- The key of what the parts so far make.
use Rattle.std.proofs.Common.{◌≡◌, List, ◌++◌, fold, map, take}
use Rattle.rbg_rules.specs.Meaning.{Expression, expression_of}
use Rattle.rbg_position.specs.declared.key_mark.KeyMark.{KeyMark}
use Rattle.rbg_position.specs.internal.Marks.{Marks, rules_key}
use Rattle.rbg_position.proofs.rule_keys.+rules.Given as goal

abbrev pub invariant-put_parts-loop-part : goal.invariant-put_parts-loop-part
invariant-put_parts-loop-part l =
    (before : List KeyMark) (first : Expression) (join : Expression → Expression → Expression) → Marks l.mark join →
    l.fn.key.items ≡ before ++ rules_key first →
    l.key.items ≡ before ++ rules_key (fold join first (map (expression_of l.actions) (take l.part-index l.parts)))
