use Rattle.std.proofs.Common.{◌<◌, ◌-◌, length, sym, ◌∙◌, arith, vec_len, vec_capacity}
use Rattle.rbg_state.specs.Changes.{past_of}
use Rattle.rbg_state.proofs.Pasts.{taken_back, rest_within, length-past_of, capacity_is}
use Rattle.rbg_state.proofs.state.SemiState.undo.Goals as goal

pub take_last-change-requires : goal.take_last-change-requires
take_last-change-requires c =
    let changes = c.self.inside.changes in
    let some : 0 < length (past_of changes.items c.self.inside.parts) = rw (← c.self.view_is) at c.requires in
    omega (arith, length-past_of changes.items c.self.inside.parts, changes.ok.0, some)

pub invariant_of-self : goal.invariant_of-self
invariant_of-self c = rest_within c.self.inside.parts c.set.new.self c.self.inside.changes.items c.take_last-change.new.self.items c.take_last-change.result c.take_last-change.ensures.items c.set.ensures.set c.self.invariant

pub returns-clause-states : goal.returns-clause-states
returns-clause-states c =
    let old = c.self.inside.changes in
    let new = c.take_last-change.new.self in
    rw (← c.self.view_is) (taken_back c.self.inside.parts c.set.new.self old.items new.items c.take_last-change.result (vec_capacity old - vec_len old) (vec_capacity new - vec_len new) c.take_last-change.ensures.items c.set.ensures.set)

pub returns-clause-capacity : goal.returns-clause-capacity
returns-clause-capacity c =
    rw (← c.self.view_is)
    (capacity_is c.set.new.self c.take_last-change.new.self ∙ c.take_last-change.ensures.capacity ∙ sym (capacity_is c.self.inside.parts c.self.inside.changes))
