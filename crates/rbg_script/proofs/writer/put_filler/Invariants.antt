-- The digits so far are those of so many filling bytes.
use Rattle.std.proofs.Common.{◌≡◌, ◌++◌, flat_map, replicate}
use Rattle.rbg_wire.specs.Whole.{filler}
use Rattle.rbg_script.specs.Events.{byte_text}
use Rattle.rbg_script.proofs.writer.put_filler.Given as goal

abbrev pub invariant-loop : goal.invariant-loop
invariant-loop l = l.out.items ≡ l.fn.out.items ++ flat_map byte_text (replicate l.counter filler)
