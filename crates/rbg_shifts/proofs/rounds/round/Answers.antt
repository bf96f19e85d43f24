use Rattle.std.proofs.Common.{◌≡◌, ◌-◌, ◌∙◌, length, sym, arith}
use Rattle.rbg_shifts.proofs.Cases.{not_both}
use Rattle.rbg_shifts.proofs.Tabling.{one_more_node}
use Rattle.rbg_shifts.proofs.rounds.round.Goals as goal
use Rattle.rbg_shifts.proofs.rounds.round.Goals.{then-branch, else-branch}

pub loop-done-preserved : goal.loop-done-preserved
loop-done-preserved c =
    let size : c.len-nodes.result ≡ length c.args.lists.now.interner.nodes.items = c.len-nodes.ensures ∙ c.args.lists.now.interner.nodes.ok.0 in
    record {
      sound = c.in_ok-mend.ensures.fills.sound;
      closed = elim c.if-branch.branch [
        | then-branch w ↦ λ none. absurd (not_both w.missing-is none)
        | else-branch w ↦ λ none.
            one_more_node c.args.ground.now c.args.lists.now c.loop-done.table c.mend.new.table c.loop-done.done (c.len-nodes.result - 1 - c.loop-done.done)
            (omega (arith, size, c.loop-done-test.true)) (c.loop-done.invariant.closed (sym w.missing-is ∙ none)) (c.in_ok-mend.ensures.closed w.if-branch.false)
      ];
    }
