use Rattle.std.proofs.Common.{ℕ, List, length, ap, ◌∙◌, sym}
use Rattle.rbg_base.proofs.Lists.{lists_count}
use Rattle.rbg_base.proofs.list.MoveList.len.Goals as goal

pub returns-clause-count : goal.returns-clause-count
returns-clause-count c =
    c.len.ensures ∙ c.self.inside.spans.ok.0
    ∙ sym (lists_count c.self.inside.pairs.items c.self.inside.spans.items)
    ∙ ap (λ (ls : List (List (ℕ × ℕ))). length ls) c.self.view_is
