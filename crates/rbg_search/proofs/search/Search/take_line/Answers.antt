use Rattle.rbg_base.proofs.Common.{rules, ◌≡◌, ◌^◌, ◌+◌, ◌<◌, arith, ap}
use Rattle.rbg_search.proofs.Common.{Searching}
use Rattle.rbg_search.proofs.search.Search.take_line.Goals as goal

pub overflow_add-self : goal.overflow_add-self
overflow_add-self g c =
    let opened : c.self.inside.opened ≡ c.args.self.now.opened = ap (λ (x : Searching). x.opened) c.self.view_is in
    let openings : c.self.inside.budget.openings ≡ c.args.self.now.openings = ap (λ (x : Searching). x.openings) c.self.view_is in
    let small : c.self.inside.budget.openings < 2 ^ 32 = search rules in
    let left = c.requires.left in
    let sum : c.self.inside.opened + c.args.modifiers < 2 ^ 32 = omega (arith, opened, openings, small, left) in
    search rules
