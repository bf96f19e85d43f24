-- What the reading gives is what standard input had.
use Rattle.std.proofs.lemmas.Result.{IfOk-weaker}
use Rattle.rbg_operations.specs.internal.Parts.{Gives, IsReadInput}
use Rattle.rbg_operations.proofs.ReadingLemmas.{input_given}
use Rattle.rbg_operations.proofs.reading.read_script.Goals as goal

pub returns : goal.returns
returns g c =
    let unread = g.R.Read.remaining c.args.input.now in
    let left = g.R.Read.remaining c.read_input.new.reader in
    let input = c.in_ok-read_input.field-0 in
    IfOk-weaker c.given.result (Gives input) (IsReadInput unread left)
    (λ read gives. input_given unread left input read c.in_ok-read_input.ensures gives) c.given.ensures
