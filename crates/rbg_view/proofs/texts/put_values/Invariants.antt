-- The text so far is that of the values so far.
use Rattle.std.proofs.Common.{◌≡◌, ◌++◌, take}
use Rattle.rbg_view.specs.Texts.{values_text}
use Rattle.rbg_view.proofs.texts.put_values.Given as goal

abbrev pub invariant-loop-value : goal.invariant-loop-value
invariant-loop-value l = l.out.items ≡ l.fn.out.items ++ values_text (take l.value-index l.values)
