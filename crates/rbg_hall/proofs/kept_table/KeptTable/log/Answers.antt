use Rattle.std.proofs.Common.{ap, subst, sym, ◌∙◌}
use Rattle.rbg_hall.specs.Tables.{TableState}
use Rattle.rbg_hall.specs.Kept.{KeptState}
use Rattle.rbg_hall.specs.internal.LogParts.{IsKept}
use Rattle.rbg_hall.proofs.Keeping.{lent_log, works_so}
use Rattle.rbg_hall.proofs.kept_table.KeptTable.log.Goals as goal

pub returns-clause-has : goal.returns-clause-has
returns-clause-has g c =
    let worked = works_so c.args.self.now.ledger.standing (sym c.works.ensures ∙ c.if-not-works.false) in
    lent_log g.W.Log.told c.args.self.now.table c.self.inside.log c.as_ref.result c.as_ref.ensures.value
    (subst (λ (table : TableState). IsKept g.W.Log.told table c.self.inside.log) (ap (λ (one : KeptState _). one.table) c.self.view_is)
    (c.self.invariant (ap (λ (one : KeptState _). one.ledger.standing) c.self.view_is ∙ worked)))
