use Rattle.std.proofs.Common.{◌≡◌, ◌*◌, ◌∙◌, ℕ, length, sym, ap, rules}
use Rattle.rbg_shifts.proofs.Tabling.{blank_table}
use Rattle.rbg_shifts.proofs.rounds.blank.Goals as goal

pub returns : goal.returns
returns c =
    let t = c.in_ok-table.table in
    let n : ℕ = c.vertices-vertices.result in
    let nodes : c.len-nodes.result ≡ length c.args.lists.now.interner.nodes.items = c.len-nodes.ensures ∙ c.args.lists.now.interner.nodes.ok.0 in
    let many : c.in-Some.places ≡ c.len-nodes.result * n = search rules in
    blank_table c.args.ground.now c.args.lists.now t c.in-Some.places
    (c.in_ok-table.ensures.vertices ∙ c.vertices-vertices.ensures.count)
    (many ∙ ap (λ (k : ℕ). k * n) nodes ∙ ap (λ (k : ℕ). length c.args.lists.now.interner.nodes.items * k) (sym c.in_ok-table.ensures.vertices))
    c.in_ok-table.ensures.entries
