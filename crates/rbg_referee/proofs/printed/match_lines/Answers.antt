-- One more seat is printed.
use Rattle.std.proofs.Common.{◌≡◌, ◌+◌, ◌-◌, ◌∙◌, [], ap, get_or, sym, subst, refl, arith}
use Rattle.rbg_referee.specs.Printed.{IsPrinted}
use Rattle.rbg_referee.specs.Printed.IsPrinted.{no_seat}
use Rattle.rbg_referee.proofs.PrintedLemmas.{printed_more}
use Rattle.rbg_referee.proofs.printed.match_lines.Goals as goal

pub loop-index-init : goal.loop-index-init
loop-index-init c = subst (λ lines. IsPrinted [] lines) (sym c.new-lines.ensures.items) no_seat

pub loop-index-preserved : goal.loop-index-preserved
loop-index-preserved c =
    let printed = c.in_ok-push_seat.ensures in
    let same : c.loop-index.index + 1 - 1 ≡ c.loop-index.index = omega arith in
    let bytes : c.bytes.result.now ≡ get_or c.args.outbox.now c.loop-index.index [] =
    c.bytes.ensures ∙ ap (λ k. get_or c.args.outbox.now k []) same in
    printed_more c.args.outbox.now c.loop-index.index (c.loop-index.index + 1) c.bytes.result.now
    c.loop-index.lines.items c.push_seat.new.lines.items printed.0
    (omega arith) refl bytes c.loop-index.invariant printed.1 printed.2
