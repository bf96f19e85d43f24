use Rattle.rbg_base.proofs.Common.{◌<◌, ◌-◌, ap, arith, get_or, length, sym, subst, ◌∙◌, unwrap_or, unwrap_or-slice_get}
use Rattle.rbg_serving.specs.ListClocks.{last_moment}
use Rattle.rbg_serving.proofs.ClockLemmas.{told_next, told_again}
use Rattle.rbg_serving.proofs.list_clock.ListClockClock.now.Goals as goal

pub returns-in-Some-clause-told : goal.returns-in-Some-clause-told
returns-in-Some-clause-told c =
    let found = c.in-Some.ensures.lookup.3 in
    let list = c.as_slice.ensures.value in
    let told = c.args.self.now.told in
    λ so_far has.
    told_next c.args.self.now.moments.items told so_far c.in-Some.moment.now
    (subst (λ items. told < length items) list found.0)
    (sym (found.1 0 ∙ ap (λ items. get_or items told 0) list))
    has

pub returns-clause-told : goal.returns-clause-told
returns-clause-told c =
    let none = c.in_default.ensures.lookup.3 in
    let list = c.as_slice.ensures.value in
    λ so_far has.
    told_again c.args.self.now.moments.items c.args.self.now.told so_far c.unwrap_or.result
    (omega (arith, none, c.as_slice.ensures.len, c.args.self.now.of_list, ap length list))
    (c.unwrap_or.ensures
    ∙ ap (λ found. unwrap_or found 0) (c.copied.ensures ∙ c.last.ensures.value)
    ∙ unwrap_or-slice_get c.as_slice-2.result.now (length c.as_slice-2.result.now - 1) 0
    ∙ ap last_moment c.as_slice-2.ensures.value)
    has
