use Rattle.std.proofs.Common.{◌≡◌, length}
use Rattle.rbg_cli.proofs.connecting.connect_lines.Given as goal

abbrev pub invariant-loop-index : goal.invariant-loop-index
invariant-loop-index g l = length l.lines.items ≡ l.index
