-- What was read of a record is whole, or it is too long.
use Rattle.std.proofs.Common.{subst, sym, IfOk}
use Rattle.rbg_operations.specs.internal.Parts.{OpensTexts}
use Rattle.rbg_operations.proofs.opening.open_texts.Goals as goal

pub returns-in-Some : goal.returns-in-Some
returns-in-Some c = subst (λ told. IfOk c.open_whole.result (OpensTexts c.args.texts.description told)) (sym c.in-Some.is) c.open_whole.ensures

pub returns : goal.returns
returns c = subst (λ told. IfOk c.open_long.result (OpensTexts c.args.texts.description told)) (sym c.in-None.is) c.open_long.ensures
