-- The text so far is that of the bytes so far.
use Rattle.std.proofs.Common.{◌≡◌, ◌++◌, take}
use Rattle.rbg_view.specs.Texts.{escaped}
use Rattle.rbg_view.proofs.texts.put_escaped.Given as goal

abbrev pub invariant-loop-byte : goal.invariant-loop-byte
invariant-loop-byte l = l.out.items ≡ l.fn.out.items ++ escaped (take l.byte-index l.text)
