-- One more line is printed.
use Rattle.std.proofs.Common.{[], sym, subst, rules}
use Rattle.rbg_hosting.specs.Printed.{IsPrintedHall}
use Rattle.rbg_hosting.specs.Printed.IsPrintedHall.{no_line}
use Rattle.rbg_hosting.proofs.PrintedLemmas.{printed_more}
use Rattle.rbg_hosting.proofs.printed.hall_lines.Goals as goal

pub loop-line-init : goal.loop-line-init
loop-line-init c = subst (λ printed. IsPrintedHall [] printed) (sym c.new-lines.ensures.items) no_line

pub loop-line-preserved : goal.loop-line-preserved
loop-line-preserved c =
    let printed = c.in_ok-push_seat.ensures in
    printed_more c.args.out.now c.loop-line.line c.bytes.result.now c.loop-line.lines.items c.push_seat.new.lines.items printed.0
    (search rules) c.bytes.ensures c.loop-line.invariant printed.1 printed.2
