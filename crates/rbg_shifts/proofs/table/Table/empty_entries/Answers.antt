use Rattle.rbg_base.proofs.Common.{◌≡◌, ◌+◌, ◌*◌, ◌∙◌, ◌++◌, ℕ, List, ap, arith, rules, replicate, replicate-append-replicate}
use Rattle.rbg_shifts.proofs.Common.{Entry, no_entry}
use Rattle.rbg_shifts.proofs.table.Table.empty_entries.Goals as goal

one_node_more : (k n : ℕ) → replicate (k * n) no_entry ++ replicate n no_entry ≡ replicate ((k + 1) * n) no_entry
one_node_more k n = replicate-append-replicate (k * n) n no_entry ∙ ap (λ (i : ℕ). replicate i no_entry) (omega arith)

pub loop-preserved : goal.loop-preserved
loop-preserved c =
    let k : ℕ = c.loop.counter in
    let n : ℕ = c.args.vertices in
    let one : c.in_ok-one_node.one_node.items ≡ replicate n no_entry = search rules in
    c.in_ok-extend_from_slice.ensures.items
    ∙ ap (λ (xs : List Entry). xs ++ c.deref.result.now) c.loop.invariant
    ∙ ap (λ (ys : List Entry). replicate (k * n) no_entry ++ ys) (c.deref.ensures.value ∙ one)
    ∙ one_node_more k n
