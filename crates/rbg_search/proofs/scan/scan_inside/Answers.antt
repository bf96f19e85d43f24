use Rattle.rbg_base.proofs.Common.{◌≡◌, ℕ, ◌*◌, ◌<◌, ◌≤◌, length, arith, sym, ◌∙◌, mul-le}
use Rattle.rbg_rules.specs.Meaning.{positions_of}
use Rattle.rbg_search.specs.Start.{IsPositionOf}
use Rattle.rbg_state.specs.declared.state.trials.Trial.TheVariants.{Invalid, LeadsTo}
use Rattle.rbg_search.proofs.Straights.{one_within, is_empty_list, trial_there, begin_scan, not_done, told_up_to, told_through, scanned_on}
use Rattle.rbg_search.proofs.scan.scan_inside.Goals as goal

pub loop-to-init : goal.loop-to-init
loop-to-init g c =
    let position : IsPositionOf c.args.rules.now.rules c.in_ok-position.position = one_within (IsPositionOf c.args.rules.now.rules) _ c.in_ok-position.position c.in_ok-position.ensures c.following.ensures.within in
    record {
      scanning = begin_scan c.args.shifts c.following.result.now c.in_ok-position.position c.may_end-ends.result c.in_ok-position.ensures c.following.ensures.follow c.may_end-ends.ensures;
      there = c.requires.there;
      position = position;
      few = position.from_one;
    }

-- There are at least as many pairs as positions.
few_scanned : (a b n v : ℕ) → n ≤ a → v < b → n ≤ a * b
few_scanned a b n v under there =
    let one : a * 1 ≤ a * b = mul-le a 1 a b (omega arith) (omega (arith, there)) in
    let same : a * 1 ≡ a = omega arith in
    omega (arith, under, one, same)

pub returns-in-Invalid : goal.returns-in-Invalid
returns-in-Invalid g c =
    let is = c.loop-to.invariant.scanning in
    told_up_to is c.in_ok-tried.ensures.plain c.following.ensures.lawful.numbered c.one_more-pairs.result (c.one_more-pairs.ensures.count is.done c.loop-to.vertex is.plain (not_done is c.in_ok-tried.ensures.plain))
    (few_scanned (length (positions_of c.args.rules.now.rules)) (length c.args.rules.now.board.first) c.one_more-pairs.result c.loop-to.vertex (omega (arith, c.loop-to.invariant.few, c.one_more-pairs.ensures.few, c.loop-to.invariant.position.there)) c.loop-to.invariant.there)
    (trial_there c.args.rules.now c.args.state.now.state c.args.vertex c.loop-to.vertex c.loop-to.position _ Invalid c.in-Invalid.is c.in_ok-tried.ensures.trial)

pub returns-then-is_empty : goal.returns-then-is_empty
returns-then-is_empty g c =
    let is = c.loop-to.invariant.scanning in
    told_through is c.in_ok-tried.ensures.plain c.following.ensures.lawful.numbered c.one_more-pairs.result (c.one_more-pairs.ensures.count is.done c.loop-to.vertex is.plain (not_done is c.in_ok-tried.ensures.plain))
    (few_scanned (length (positions_of c.args.rules.now.rules)) (length c.args.rules.now.board.first) c.one_more-pairs.result c.loop-to.vertex (omega (arith, c.loop-to.invariant.few, c.one_more-pairs.ensures.few, c.loop-to.invariant.position.there)) c.loop-to.invariant.there)
    c.in-LeadsTo.to c.following-following.result.now c.may_end-ends-in-LeadsTo.result
    (trial_there c.args.rules.now c.args.state.now.state c.args.vertex c.loop-to.vertex c.loop-to.position _ (LeadsTo c.in-LeadsTo.to) c.in-LeadsTo.is c.in_ok-tried.ensures.trial)
    (is_empty_list c.following-following.result.now (sym c.is_empty.ensures ∙ c.if-is_empty.true)) c.following-following.ensures.follow c.may_end-ends-in-LeadsTo.ensures

pub loop-to-preserved : goal.loop-to-preserved
loop-to-preserved g c =
    let is = c.loop-to.invariant.scanning in
    let q : ℕ = c.in_ok-next-in-LeadsTo.next in
    let position : IsPositionOf c.args.rules.now.rules q = one_within (IsPositionOf c.args.rules.now.rules) _ q c.in_ok-next-in-LeadsTo.ensures c.following-following.ensures.within in
    record {
      scanning =
          scanned_on is c.in_ok-tried.ensures.plain c.one_more-pairs.result (c.one_more-pairs.ensures.count is.done c.loop-to.vertex is.plain (not_done is c.in_ok-tried.ensures.plain)) c.in-LeadsTo.to q c.following-following.result.now c.may_end-ends-in-LeadsTo.result
          (trial_there c.args.rules.now c.args.state.now.state c.args.vertex c.loop-to.vertex c.loop-to.position _ (LeadsTo c.in-LeadsTo.to) c.in-LeadsTo.is c.in_ok-tried.ensures.trial)
          c.in_ok-next-in-LeadsTo.ensures c.following-following.ensures.follow c.may_end-ends-in-LeadsTo.ensures (omega (arith, c.if-next-position.false));
      there = c.in_ok-tried.ensures.there c.in-LeadsTo.to c.in-LeadsTo.is;
      position = position;
      few = omega (arith, c.loop-to.invariant.few, c.one_more-pairs.ensures.few, c.if-next-position.false);
    }
