use Rattle.std.proofs.Common.{◌≡◌, ap, ◌∙◌, ◌-◌, arith, vec_len, vec_capacity}
use Rattle.rbg_state.specs.Changes.{history_of}
use Rattle.rbg_state.specs.History.{changed_to}
use Rattle.rbg_state.proofs.Pasts.{written}
use Rattle.rbg_state.proofs.state.SemiState.change.Goals as goal

pub returns : goal.returns
returns c =
    let s = c.self.inside.parts in
    let old = c.self.inside.changes in
    let new = c.push_reserved.new.self in
    let room = vec_capacity old - vec_len old in
    let one_less : vec_capacity new - vec_len new ≡ room - 1 = omega (arith, c.push_reserved.ensures.len, c.push_reserved.ensures.capacity) in
    let wrote = written s c.set-back.new.self old.items new.items c.set-back.result room (vec_capacity new - vec_len new) c.push_reserved.ensures.items c.set-back.ensures.back one_less in
    rw (← c.self.view_is) (wrote ∙ ap (changed_to (history_of s old.items room)) c.set-back.ensures.set)
