use Rattle.std.proofs.Common.{◌≡◌, ◌+◌, ◌-◌, ℕ, [], ap, get_or, sym, ◌∙◌, subst, arith, set}
use Rattle.rbg_serving.specs.internal.Lines.{ArePassed, live_lines}
use Rattle.rbg_serving.proofs.PassingLemmas.{one_failed, one_left, one_passed, same_live, live_at}
use Rattle.rbg_serving.proofs.passing.pass_to_each.Goals as goal
use Rattle.rbg_serving.proofs.passing.pass_to_each.Goals.{then-states-index+else-not-states-index, else-states-index}

the_index : (n : ℕ) → n + 1 - 1 ≡ n
the_index n = omega arith

pub returns-then-not-states-index-clause-served :
    goal.returns-then-not-states-index-clause-served
returns-then-not-states-index-clause-served g c =
    let is = c.bytes.ensures ∙ ap (λ k. get_or (g.E.Engine.queued c.args.outbox.now) k []) (the_index c.loop-index.index) in
    λ before heard since are.
    one_failed g.L.Line.told g.L.Line.failure_count before heard (g.E.Engine.queued c.args.outbox.now) c.loop-index.lines c.loop-index.states since
    c.loop-index.index c.index-lines-index.result c.pass_to.new.line c.pass_to.new.state c.bytes.result.now
    (omega arith) is c.if-states-index.true c.pass_to.ensures.told c.pass_to.ensures.within c.pass_to.ensures.more
    (c.loop-index.invariant.0 before heard since are)
    (live_at c.loop-index.states c.loop-index.index c.pass_to.new.state _ (omega arith) c.if-not-states-index.true)

pub loop-index-preserved : goal.loop-index-preserved
loop-index-preserved g c =
    elim c.if-states-index.branch [
      | then-states-index+else-not-states-index w ↦
          let is = w.bytes.ensures ∙ ap (λ k. get_or (g.E.Engine.queued c.args.outbox.now) k []) (the_index c.loop-index.index) in
          let live = live_at c.loop-index.states c.loop-index.index w.pass_to.new.state _ (omega arith) w.if-not-states-index.false in (
            (λ before heard since are.
                subst (λ lines. ArePassed g.L.Line.told g.L.Line.failure_count before heard (g.E.Engine.queued c.args.outbox.now) lines c.if-states-index.states since (c.loop-index.index + 1)) (sym w.lines-is)
                (subst (λ states. ArePassed g.L.Line.told g.L.Line.failure_count before heard (g.E.Engine.queued c.args.outbox.now) (set c.loop-index.lines c.loop-index.index w.pass_to.new.line) states since (c.loop-index.index + 1)) (sym w.states-is)
                (one_passed g.L.Line.told g.L.Line.failure_count before heard (g.E.Engine.queued c.args.outbox.now) c.loop-index.lines c.loop-index.states since
                c.loop-index.index w.index-lines-index.result w.pass_to.new.line w.pass_to.new.state w.bytes.result.now
                (omega arith) is w.if-states-index.true w.pass_to.ensures.told w.pass_to.ensures.within w.pass_to.ensures.more
                (c.loop-index.invariant.0 before heard since are) live))),
            same_live c.loop-index.states _ c.loop-index.index w.pass_to.new.state _ (omega arith) w.if-states-index.true live w.states-is c.loop-index.invariant.1,
          )
      | else-states-index w ↦ (
        (λ before heard since are.
            subst (λ lines. ArePassed g.L.Line.told g.L.Line.failure_count before heard (g.E.Engine.queued c.args.outbox.now) lines c.if-states-index.states since (c.loop-index.index + 1)) (sym w.lines-is)
            (subst (λ states. ArePassed g.L.Line.told g.L.Line.failure_count before heard (g.E.Engine.queued c.args.outbox.now) c.loop-index.lines states since (c.loop-index.index + 1)) (sym w.states-is)
            (one_left g.L.Line.told g.L.Line.failure_count before heard (g.E.Engine.queued c.args.outbox.now) c.loop-index.lines c.loop-index.states since
            c.loop-index.index (omega arith) w.if-states-index.false
            (c.loop-index.invariant.0 before heard since are)))),
        ap live_lines w.states-is ∙ c.loop-index.invariant.1,
      )
    ]

pub returns-clause-served : goal.returns-clause-served
returns-clause-served g c = λ before heard since are.
    subst (λ first. ArePassed g.L.Line.told g.L.Line.failure_count before heard (g.E.Engine.queued c.args.outbox.now) c.loop-index.lines c.loop-index.states since first)
    (omega (arith, c.loop-index-test.false, c.loop-index.auto.index-end, c.loop-index.auto.lines))
    (c.loop-index.invariant.0 before heard since are)
