-- The whole lines of what was read are refereed.
use Rattle.std.proofs.Common.{subst}
use Rattle.rbg_console.specs.Inputs.{IsReading, most_input}
use Rattle.rbg_serving.specs.Cutting.{AreWholeLines}
use Rattle.rbg_hosting.specs.Runs.IsCutRun.{refereed}
use Rattle.rbg_hosting.proofs.cut.run_read.Goals as goal

pub returns-in-Whole : goal.returns-in-Whole
returns-in-Whole g c = λ unread left reading.
    refereed c.in-Whole.bytes.items c.whole_lines.result.now
    (subst (IsReading most_input unread left) c.in-Whole.is reading)
    (subst (λ text. AreWholeLines text c.whole_lines.result.now) c.as_slice.ensures.value c.whole_lines.ensures)
    c.run_bytes.ensures
