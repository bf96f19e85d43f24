use Rattle.rbg_base.proofs.Common.{◌≡◌, ℕ, List, Some, length, take, slice_get, sym, ap, subst, ◌∙◌, arith, length_push}
use Rattle.rbg_rules.specs.Meaning.{AbstractState}
use Rattle.rbg_state.specs.History.{states_of}
use Rattle.rbg_state.proofs.Histories.{after_undo, after_both, marked_state, marked_past, given_back}
use Rattle.rbg_state.proofs.state.SemiState.undo_to.Goals as goal

pub loop-mark-preserved : goal.loop-mark-preserved
loop-mark-preserved c =
    let new = c.undo.new.self in
    let old = c.loop-mark.self in
    let one_less = ap (λ (xs : List AbstractState). length xs) c.undo.ensures.states in
    record {
      after = after_both new old c.args.self.now (after_undo old new c.undo.ensures.states) c.loop-mark.invariant.after;
      capacity = c.undo.ensures.capacity ∙ c.loop-mark.invariant.capacity;
      within = omega (arith, one_less, length_push new.past new.state, c.loop-mark-test.true, c.changes.ensures, c.changes-in-loop-mark.ensures, c.mark.ensures);
    }

pub returns-clause-state : goal.returns-clause-state
returns-clause-state c =
    let size : length c.loop-mark.self.past ≡ c.args.mark = omega (arith, c.loop-mark-test.false, c.changes.ensures, c.changes-in-loop-mark.ensures, c.mark.ensures, c.loop-mark.invariant.within) in
    subst (λ (n : ℕ). slice_get (states_of c.args.self.now) n ≡ Some c.loop-mark.self.state) size (marked_state c.loop-mark.self c.args.self.now c.loop-mark.invariant.after)

pub returns-clause-past : goal.returns-clause-past
returns-clause-past c =
    let size : length c.loop-mark.self.past ≡ c.args.mark = omega (arith, c.loop-mark-test.false, c.changes.ensures, c.changes-in-loop-mark.ensures, c.mark.ensures, c.loop-mark.invariant.within) in
    sym (subst (λ (n : ℕ). take n c.args.self.now.past ≡ c.loop-mark.self.past) size (marked_past c.loop-mark.self c.args.self.now c.loop-mark.invariant.after))

pub returns-clause-given_back : goal.returns-clause-given_back
returns-clause-given_back c =
    let size : length c.loop-mark.self.past ≡ c.args.mark = omega (arith, c.loop-mark-test.false, c.changes.ensures, c.changes-in-loop-mark.ensures, c.mark.ensures, c.loop-mark.invariant.within) in
    λ marked is after. given_back marked c.loop-mark.self c.args.self.now (size ∙ is) after c.loop-mark.invariant.after
