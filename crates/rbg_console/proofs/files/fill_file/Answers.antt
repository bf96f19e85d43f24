-- The file is closed with what was written to it.
use Rattle.std.proofs.lemmas.Result.{on_ok_weaker}
use Rattle.rbg_console.proofs.OutputLemmas.{filled_file}
use Rattle.rbg_console.proofs.files.fill_file.Goals as goal

pub returns-clause-filled : goal.returns-clause-filled
returns-clause-filled g c =
    let after = g.F.Files.told c.close_file.new.self c.args.name.now in
    on_ok_weaker c.close_file.result (λ closed. filled_file g.F.Files.knows_new _ _ after c.args.bytes.now c.requires c.in_ok-write_and_flush.ensures.ok closed) c.close_file.ensures.closed
