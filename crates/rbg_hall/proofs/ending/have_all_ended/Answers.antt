-- One more match has ended, one has not, or all have.
use Rattle.std.proofs.Common.{◌≡◌, ◌∙◌, refl, sym, true}
use Rattle.std.proofs.lemmas.Bool.{true≢false}
use Rattle.rbg_hall.specs.Tables.{TableState}
use Rattle.rbg_hall.specs.Kept.{KeptState}
use Rattle.rbg_hall.specs.Serving.{has_ended}
use Rattle.rbg_hall.proofs.Logs.{all_hold, one_fails, one_more_holds}
use Rattle.rbg_hall.proofs.ending.have_all_ended.Goals as goal

pub loop-table-preserved : goal.loop-table-preserved
loop-table-preserved g c =
    one_more_holds (λ (one : KeptState _). one.table) (λ (table : TableState). has_ended table.begun ≡ true) c.args.tables.now c.loop-table.table-index c.table-item.result c.table-item.is c.loop-table-test.true
    (sym c.has_ended.ensures ∙ c.if-not-has_ended.false) c.loop-table.invariant

pub returns-then-not-has_ended : goal.returns-then-not-has_ended
returns-then-not-has_ended g c = (
  λ no. absurd (true≢false (sym no)),
  λ all. absurd (one_fails (λ (one : KeptState _). one.table) (λ (table : TableState). has_ended table.begun ≡ true) c.args.tables.now c.loop-table.table-index c.table-item.result c.table-item.is c.loop-table-test.true
      (λ ended. true≢false (sym ended ∙ sym c.has_ended.ensures ∙ c.if-not-has_ended.true)) all),
)

pub returns : goal.returns
returns g c = (
  λ _. all_hold (λ (one : KeptState _). one.table) (λ (table : TableState). has_ended table.begun ≡ true) c.args.tables.now c.loop-table.table-index c.loop-table-test.false c.loop-table.invariant,
  λ _. refl,
)
