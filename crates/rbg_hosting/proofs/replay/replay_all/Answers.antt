-- One more log is heard, or the hall stops there.
use Rattle.std.proofs.Common.{arith, ◌+◌, ap, drop, length, refl, subst, sym}
use Rattle.rbg_hosting.specs.Pasts.{past_from}
use Rattle.rbg_hosting.specs.internal.Resuming.{pasts_in}
use Rattle.rbg_hosting.proofs.PastLemmas.{HasHeardPart, all_heard, none_heard, part_heard, part_stopped, past_last, past_next, rest_stopped}
use Rattle.rbg_hosting.proofs.replay.replay_all.Goals as goal

pub loop-index-init : goal.loop-index-init
loop-index-init g c = record {
  heard = λ starts matches earlier so_far. none_heard _ so_far;
  nothing = λ none. (refl, refl);
}

pub loop-index-preserved : goal.loop-index-preserved
loop-index-preserved g c = record {
  heard = λ starts matches earlier so_far.
      subst (λ n. HasHeardPart g.A.Archive.handed starts matches c.replay.new.recorded.recorder earlier (past_from 1 0 c.args.players.now (pasts_in c.args.pasts.now))
      (past_from (c.loop-index.index + 1 + 1) n (drop (c.loop-index.index + 1) c.args.players.now) (pasts_in (drop (c.loop-index.index + 1) c.args.pasts.now))) c.replay.new.recorded.hall.state c.replay.new.out) (sym c.in-Some.ensures.value)
      (part_heard
      (past_next (c.loop-index.index + 1) c.loop-index.line c.count_at-many.result c.args.players.now c.args.pasts.now c.loop-index.index c.index-pasts-index.result
      (omega (arith, c.requires, c.loop-index-test.true)) c.loop-index-test.true c.count_at-many.ensures c.index-pasts-index.is)
      (c.loop-index.invariant.heard starts matches earlier so_far) (c.in-Ok.ensures starts matches));
  nothing = λ none. let no_more = ap length none in absurd (omega (arith, no_more, c.loop-index-test.true));
}

pub returns-in_default-clause-hears : goal.returns-in_default-clause-hears
returns-in_default-clause-hears g c starts matches earlier so_far = rest_stopped (c.loop-index.invariant.heard starts matches earlier so_far)

pub returns-in_default-clause-nothing : goal.returns-in_default-clause-nothing
returns-in_default-clause-nothing g c = c.loop-index.invariant.nothing

pub returns-in-Err-clause-hears : goal.returns-in-Err-clause-hears
returns-in-Err-clause-hears g c starts matches earlier so_far =
    part_stopped _
    (past_next (c.loop-index.index + 1) c.loop-index.line c.count_at-many.result c.args.players.now c.args.pasts.now c.loop-index.index c.index-pasts-index.result
    (omega (arith, c.requires, c.loop-index-test.true)) c.loop-index-test.true c.count_at-many.ensures c.index-pasts-index.is)
    (c.loop-index.invariant.heard starts matches earlier so_far) (c.in-Err.ensures starts matches)

pub returns-in-Err-clause-nothing : goal.returns-in-Err-clause-nothing
returns-in-Err-clause-nothing g c none = let no_more = ap length none in absurd (omega (arith, no_more, c.loop-index-test.true))

pub returns-clause-hears : goal.returns-clause-hears
returns-clause-hears g c starts matches earlier so_far =
    all_heard (past_last (c.loop-index.index + 1) c.loop-index.line c.args.players.now c.args.pasts.now c.loop-index.index (omega (arith, c.loop-index-test.false))) (c.loop-index.invariant.heard starts matches earlier so_far)

pub returns-clause-nothing : goal.returns-clause-nothing
returns-clause-nothing g c = c.loop-index.invariant.nothing
