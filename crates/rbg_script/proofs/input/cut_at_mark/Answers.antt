-- The first line that is the mark ends the description.
use Rattle.rbg_wire.proofs.ByteLemmas.{same_bytes, other_bytes}
use Rattle.rbg_script.proofs.Marks.{found_mark, found_last, not_marked, nothing_passed, passed_more}
use Rattle.rbg_script.proofs.input.cut_at_mark.Goals as goal

pub loop-line-init : goal.loop-line-init
loop-line-init c = nothing_passed _

pub returns-then-eq-clause-found : goal.returns-then-eq-clause-found
returns-then-eq-clause-found c =
    found_mark _ _ _ _ _ _ c.loop-line.invariant c.in-Some.ensures.found.0 (same_bytes _ _ c.if-eq.ensures) c.before-then-eq.ensures.description c.before-then-eq.ensures.script

pub loop-line-preserved : goal.loop-line-preserved
loop-line-preserved c = passed_more _ _ _ _ c.loop-line.invariant c.in-Some.ensures.found.0 c.in-Some.ensures.found.1 (other_bytes _ _ c.if-eq.ensures)

pub returns-then-eq-2-clause-found : goal.returns-then-eq-2-clause-found
returns-then-eq-2-clause-found c =
    found_last _ _ _ _ c.loop-line.invariant (same_bytes _ _ c.if-eq-2.ensures) c.before-then-eq-2.ensures.description c.before-then-eq-2.ensures.script

pub returns-else-eq-2-clause-none : goal.returns-else-eq-2-clause-none
returns-else-eq-2-clause-none c = not_marked _ _ c.loop-line.invariant c.in_default.ensures.none (other_bytes _ _ c.if-eq-2.ensures)
