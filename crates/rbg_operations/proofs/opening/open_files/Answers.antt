-- What was read is opened.
use Rattle.std.proofs.lemmas.Result.{IfOk-weaker}
use Rattle.rbg_operations.specs.internal.Parts.{OpensFiles, OpensNone, OpensTexts}
use Rattle.rbg_operations.proofs.OpeningLemmas.{files_opened, none_opened}
use Rattle.rbg_operations.proofs.opening.open_files.Goals as goal

pub returns-in-Ok : goal.returns-in-Ok
returns-in-Ok g c =
    let known = g.F.Files.told c.args.files.now in
    let file = c.args.file.now in
    let other = c.args.other.now in
    let texts = c.in-Ok.texts in
    IfOk-weaker c.open_texts.result (OpensTexts texts.description texts.told) (OpensFiles known file other)
    (λ opened is. files_opened known file other texts.description texts.told opened c.in-Ok.ensures.description c.in-Ok.ensures.told is) c.open_texts.ensures

pub returns-in-Err : goal.returns-in-Err
returns-in-Err g c =
    let known = g.F.Files.told c.args.files.now in
    let file = c.args.file.now in
    let other = c.args.other.now in
    IfOk-weaker c.open_none.result OpensNone (OpensFiles known file other) (λ opened is. none_opened known file other opened is) c.open_none.ensures
