-- A table with a log hears something, or one with none.
use Rattle.rbg_base.proofs.Common.{Some, subst, sym, IfErr-weaker, on_ok_weaker, IfErr, OnOk}
use Rattle.rbg_hall.specs.TableHearing.{input_of}
use Rattle.rbg_serving.specs.declared.keeping.WriteError.TheVariants.{Memory}
use Rattle.rbg_hall.specs.Kept.{Changes, FailsSo, IsWritten, no_memory, with_log, without}
use Rattle.rbg_hall.specs.internal.LogParts.{IsKept, LeavesIn}
use Rattle.rbg_hall.proofs.Failing.{fails_with, no_log_on, passed_on}
use Rattle.rbg_hall.proofs.noting.hear_kept.Goals as goal

pub returns-in_err-hear-in-None-clause-fails : goal.returns-in_err-hear-in-None-clause-fails
returns-in_err-hear-in-None-clause-fails g c =
    let event = input_of c.args.input in
    passed_on c.from_residual.result (λ error. FailsSo g.W.Log.told c.args.table.now event error c.args.log.now c.args.log.now) Memory c.from_residual.ensures.1
    (subst (λ log. FailsSo g.W.Log.told c.args.table.now event Memory log log) (sym c.in-None.is) (no_memory without))

pub returns-in-Some-clause-writes : goal.returns-in-Some-clause-writes
returns-in-Some-clause-writes g c =
    subst (λ log. OnOk c.hear_noted.result (Changes (λ first last. IsWritten g.W.Log.told first last c.args.table.now (input_of c.args.input) c.hear_noted.new.table) log (Some c.hear_noted.new.log))) (sym c.in-Some.is)
    (on_ok_weaker c.hear_noted.result with_log c.hear_noted.ensures.writes)

pub returns-in-Some-clause-fails : goal.returns-in-Some-clause-fails
returns-in-Some-clause-fails g c =
    let event = input_of c.args.input in
    subst (λ log. IfErr c.hear_noted.result (λ error. FailsSo g.W.Log.told c.args.table.now event error log (Some c.hear_noted.new.log))) (sym c.in-Some.is)
    (IfErr-weaker c.hear_noted.result (LeavesIn g.W.Log.told c.in-Some.log c.hear_noted.new.log c.args.table.now event) (λ error. FailsSo g.W.Log.told c.args.table.now event error (Some c.in-Some.log) (Some c.hear_noted.new.log))
    (fails_with g.W.Log.told c.in-Some.log c.hear_noted.new.log c.args.table.now event) c.hear_noted.ensures.fails)

pub returns-in_ok-hear-in-None-clause-keeps : goal.returns-in_ok-hear-in-None-clause-keeps
returns-in_ok-hear-in-None-clause-keeps g c =
    subst (λ log. IsKept g.W.Log.told c.args.table.now log → IsKept g.W.Log.told c.hear.new.self log) (sym c.in-None.is) (no_log_on c.in_ok-hear-in-None.ensures.hears.hears)

pub returns-in_ok-hear-in-None-clause-writes : goal.returns-in_ok-hear-in-None-clause-writes
returns-in_ok-hear-in-None-clause-writes g c =
    subst (λ log. Changes (λ first last. IsWritten g.W.Log.told first last c.args.table.now (input_of c.args.input) c.hear.new.self) log log) (sym c.in-None.is) without
