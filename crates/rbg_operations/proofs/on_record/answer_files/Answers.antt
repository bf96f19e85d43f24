-- What is answered about the game and the record is the answer.
use Rattle.std.proofs.Common.{ℕ, List, subst}
use Rattle.std.proofs.lemmas.Result.{IfOk-weaker}
use Rattle.rbg_operations.specs.Answers.{IsGamesAnswer}
use Rattle.rbg_operations.specs.internal.Parts.{OpensFiles}
use Rattle.rbg_operations.specs.internal.RecordCommands.{command_of}
use Rattle.rbg_operations.proofs.OpeningLemmas.{is_on_record, opened_answer}
use Rattle.rbg_operations.proofs.on_record.answer_files.Goals as goal

pub returns-in-Both : goal.returns-in-Both
returns-in-Both g c =
    let known = g.F.Files.told c.args.files.now in
    let file = c.args.task.file.now in
    let other = c.args.task.record_file.now in
    let command = command_of c.args.task.command in
    let opened = subst (OpensFiles known file other) c.in-Both.is c.in_ok-game.ensures in
    IfOk-weaker c.answer_opened.result _ _
    (λ answer says. opened_answer known file other c.in-Both.game c.in-Both.told.items command answer.text.items answer.status (is_on_record c.args.task.command) opened
    (subst (λ bytes. (d : List ℕ) → IsGamesAnswer c.in-Both.game d bytes command answer.text.items answer.status) c.as_slice.ensures.value says)) c.answer_opened.ensures

pub returns-in-Answered : goal.returns-in-Answered
returns-in-Answered g c =
    let known = g.F.Files.told c.args.files.now in
    (subst (OpensFiles known c.args.task.file.now c.args.task.record_file.now) c.in-Answered.is c.in_ok-game.ensures) (command_of c.args.task.command) (is_on_record c.args.task.command)
