-- The log of one more table has not failed, that of one has, or none has.
use Rattle.std.proofs.Common.{◌≡◌, ◌∙◌, refl, sym}
use Rattle.std.proofs.lemmas.Bool.{true≢false}
use Rattle.rbg_hall.specs.declared.standing.Standing.{Standing}
use Rattle.rbg_hall.specs.declared.standing.Standing.TheVariants.{LogFailed}
use Rattle.rbg_hall.specs.Kept.{KeptState}
use Rattle.rbg_hall.proofs.Logs.{failed_there, none_failed, one_more_holds}
use Rattle.rbg_hall.proofs.ending.has_log_failed.Goals as goal

pub loop-table-preserved : goal.loop-table-preserved
loop-table-preserved g c =
    one_more_holds (λ (one : KeptState _). one.ledger.standing) (λ (standing : Standing). ¬ (standing ≡ LogFailed)) c.args.tables.now c.loop-table.table-index c.table-item.result c.table-item.is c.loop-table-test.true
    (λ failed. true≢false (sym (c.has_log_failed.ensures.1 failed) ∙ c.if-has_log_failed.false)) c.loop-table.invariant

pub returns-then-has_log_failed : goal.returns-then-has_log_failed
returns-then-has_log_failed g c = (
  λ _. failed_there c.args.tables.now c.loop-table.table-index c.table-item.result c.loop-table-test.true c.table-item.is (c.has_log_failed.ensures.0 c.if-has_log_failed.true),
  λ _. refl,
)

pub returns : goal.returns
returns g c = (
  λ no. absurd (true≢false (sym no)),
  λ failed. absurd (none_failed c.args.tables.now c.loop-table.table-index c.loop-table-test.false c.loop-table.invariant failed),
)
