use Rattle.std.proofs.Common.{ℕ, ◌+◌, ◌*◌, ◌/◌, sym, ap, ◌∙◌}
use Rattle.rbg_flat.proofs.PlaceLemmas.{first_there, parts_of, bit_column}
use Rattle.rbg_flat.proofs.sets.Sets.first_open.Goals as goal

pub returns-clause-open : goal.returns-clause-open
returns-clause-open c = (first_there c.self.view_is c.args.place c.column_at.result c.column_at.ensures.is c.column_at.ensures.below c.self.invariant c.word.result c.lowest.result c.lowest.ensures.small c.lowest.ensures.set c.word.ensures).0

pub returns-clause-marked : goal.returns-clause-marked
returns-clause-marked c = (first_there c.self.view_is c.args.place c.column_at.result c.column_at.ensures.is c.column_at.ensures.below c.self.invariant c.word.result c.lowest.result c.lowest.ensures.small c.lowest.ensures.set c.word.ensures).1

pub returns-clause-column : goal.returns-clause-column
returns-clause-column c = bit_column c.column_at.result c.lowest.result c.lowest.ensures.small ∙ c.column_at.ensures.is

pub returns-clause-at : goal.returns-clause-at
returns-clause-at c =
    let columns : ℕ = c.args.self.now.columns in
    parts_of columns c.args.place c.column_at.result c.column_at.ensures.is
    ∙ ap (λ (k : ℕ). c.args.place / columns * columns + k) (sym (bit_column c.column_at.result c.lowest.result c.lowest.ensures.small))
