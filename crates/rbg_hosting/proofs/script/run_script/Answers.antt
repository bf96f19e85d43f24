-- The answer is written.
use Rattle.std.proofs.Common.{subst}
use Rattle.rbg_console.specs.Outputs.{IsWritten}
use Rattle.rbg_hosting.specs.Runs.IsScriptRun.{answered}
use Rattle.rbg_hosting.proofs.script.run_script.Goals as goal

pub returns-in-Ok : goal.returns-in-Ok
returns-in-Ok g c =
    let held = g.W.Write.contents c.args.output.now in
    let holds = g.W.Write.contents c.write_text.new.output in
    let wanted = c.in-Ok.answer.status in
    answered c.in-Ok.answer.text.items wanted c.in-Ok.ensures
    (subst (λ text. IsWritten held holds text wanted c.write_text.result) c.as_slice.ensures.value c.write_text.ensures)
