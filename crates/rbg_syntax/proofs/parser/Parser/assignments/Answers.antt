use Rattle.std.proofs.Common.{sym}
use Rattle.rbg_macro.specs.declared.token.Symbol.TheVariants as symbols
use Rattle.rbg_grammar.proofs.Common.{separated_at, assignment_at, sum_at, rule_of}
use Rattle.rbg_grammar.proofs.PhraseLaws.{assignment_takes_some}
use Rattle.rbg_grammar.proofs.Turns.{map-push, prepend-nil, taken, left}
use Rattle.rbg_syntax.proofs.Exits.{GivesWithin-from_err}
use Rattle.rbg_syntax.proofs.Separated.{part_fails, part_ends, part_goes_on, part_smaller}
use Rattle.rbg_syntax.proofs.parser.Parser.assignments.Goals as goal

pub loop-parts-init : goal.loop-parts-init
loop-parts-init c = rw c.new-parts.ensures.items (sym (prepend-nil (separated_at symbols.Comma (assignment_at (sum_at c.args.brackets)) c.args.self.now)))

pub returns-in_err-assignment : goal.returns-in_err-assignment
returns-in_err-assignment c =
    GivesWithin-from_err _ _ _ _ _ c.from_residual.ensures.1 (part_fails (assignment_at (sum_at c.args.brackets)) (assignment_takes_some c.args.brackets) symbols.Comma _ _ c.loop-parts.self c.loop-parts.invariant) c.in_err-assignment.ensures

pub returns-then-not-takes : goal.returns-then-not-takes
returns-then-not-takes c =
    let (stops, kept) = left c.takes.ensures c.if-not-takes.true in
    rw (kept, map-push rule_of c.loop-parts.parts.items _ c.in_ok-assignment.field-0 c.in_ok-push.ensures.items)
    (part_ends (assignment_at (sum_at c.args.brackets)) (assignment_takes_some c.args.brackets) symbols.Comma _ _ c.loop-parts.self c.loop-parts.invariant (rule_of c.in_ok-assignment.field-0) c.assignment.new.self c.in_ok-assignment.ensures stops)

pub loop-parts-smaller : goal.loop-parts-smaller
loop-parts-smaller c =
    let (goes_on, passed) = taken c.takes.ensures c.if-not-takes.false in
    rw passed (part_smaller (assignment_at (sum_at c.args.brackets)) (assignment_takes_some c.args.brackets) symbols.Comma c.loop-parts.self c.assignment.new.self _ c.in_ok-assignment.ensures)

pub loop-parts-preserved : goal.loop-parts-preserved
loop-parts-preserved c =
    let (goes_on, passed) = taken c.takes.ensures c.if-not-takes.false in
    rw (passed, map-push rule_of c.loop-parts.parts.items _ c.in_ok-assignment.field-0 c.in_ok-push.ensures.items)
    (part_goes_on (assignment_at (sum_at c.args.brackets)) (assignment_takes_some c.args.brackets) symbols.Comma _ _ c.loop-parts.self c.loop-parts.invariant (rule_of c.in_ok-assignment.field-0) c.assignment.new.self c.in_ok-assignment.ensures goes_on)
