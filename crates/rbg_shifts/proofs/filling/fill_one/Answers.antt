use Rattle.std.proofs.Common.{◌≡◌, ◌∙◌, ◌-◌, ℕ, length, refl, subst}
use Rattle.rbg_shifts.specs.internal.Tables.{Shares}
use Rattle.rbg_shifts.proofs.Fillings.{one_filled}
use Rattle.rbg_shifts.proofs.filling.fill_one.Goals as goal

pub returns : goal.returns
returns c =
    let old = c.args.table.now in
    let middle = c.gather.new.table in
    let new = c.put.new.self in
    let n : ℕ = c.args.spot.node in
    let v : ℕ = c.args.spot.vertex in
    let ends = c.in_ok-ends.ends in
    let at_end : c.len-start.result ≡ length old.targets.items = c.len-start.ensures ∙ old.targets.ok.0 in
    one_filled c.args.setting.now.ground.now c.args.setting.now.lists.now old middle new (length old.targets.items) n v ends
    refl c.requires.vertex c.requires.at.right.sound c.in_ok-ends.ensures.grows
    (subst (λ (k : ℕ). Shares middle new n v (record { start = k; many = length middle.targets.items - k; ends = ends })) at_end c.in_ok-put.ensures)
    c.in_ok-ends.ensures.gathered c.in_ok-ends.ensures.ends c.in_ok-ends.ensures.whole
