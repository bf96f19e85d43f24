-- The texts are where the words have them: what was read of them is answered.
use Rattle.std.proofs.Common.{refl, subst}
use Rattle.std.proofs.lemmas.Result.{IfOk-weaker}
use Rattle.rbg_referee.proofs.RunCallerLemmas.{both}
use Rattle.rbg_console.specs.Inputs.{most_input, IsAll, IsAbove, IsReading}
use Rattle.rbg_operations.specs.Tasks.FileCommand.{Referee}
use Rattle.rbg_operations.specs.internal.Parts.{task_of}
use Rattle.rbg_operations.specs.internal.RecordParts.{RecordsInput}
use Rattle.rbg_operations.proofs.RecordRunLemmas.{input_answer, long_input_answer, task_answer}
use Rattle.rbg_operations.proofs.record_run.answer_recorded.Goals as goal

pub returns-in-Ok : goal.returns-in-Ok
returns-in-Ok g c =
    let told = g.F.Files.told in
    let unread = g.R.Read.remaining c.args.input.now in
    let left = g.R.Read.remaining c.read_match.new.input in
    let file = c.in-Some.file.now in
    let target = c.args.named.target.now in
    let d = c.in-Ok.ensures.description in
    let t = c.in-Ok.ensures.told in
    rw c.in-Some.is (IfOk-weaker c.record_read.result _ _
    (λ answer is. task_answer g.F.Files.knows_new (told c.args.files.now) (told c.read_match.new.files) (told c.record_read.new.files) unread left file target (task_of Referee d.bytes t.bytes) answer.text.items answer.status
    (record { command = refl; description = d.may; told = t.input }) (c.read_match.ensures.kept target) (is d.bytes t.bytes d.reads t.reads)) c.record_read.ensures)

pub returns-in-Whole : goal.returns-in-Whole
returns-in-Whole g c =
    let told = g.F.Files.told in
    let unread = g.R.Read.remaining c.args.input.now in
    let left = g.R.Read.remaining c.read_input.new.reader in
    let target = c.args.named.target.now in
    let all : IsAll most_input unread left c.in-Whole.bytes.items = subst (IsReading most_input unread left) c.in-Whole.is c.in_ok-bytes-in-None.ensures in
    rw c.in-None.is (IfOk-weaker c.record_marked.result _ _
    (λ answer is. input_answer g.F.Files.knows_new (told c.args.files.now) (told c.record_marked.new.files) unread left target c.in-Whole.bytes.items answer.text.items answer.status all
    (subst (λ input. RecordsInput g.F.Files.knows_new (told c.args.files.now target) (told c.record_marked.new.files target) input answer.text.items answer.status) c.as_slice.ensures.value is)) c.record_marked.ensures)

pub returns-in-TooLong : goal.returns-in-TooLong
returns-in-TooLong g c =
    let unread = g.R.Read.remaining c.args.input.now in
    let left = g.R.Read.remaining c.read_input.new.reader in
    let above : IsAbove most_input unread left = subst (IsReading most_input unread left) c.in-TooLong.is c.in_ok-bytes-in-None.ensures in
    rw c.in-None.is (both c.answer_script.result _ _ _
    (λ answer is was. long_input_answer g.F.Files.knows_new _ _ unread left c.args.named.target.now answer.text.items answer.status above is was)
    c.answer_script.ensures.text c.answer_script.ensures.status)
