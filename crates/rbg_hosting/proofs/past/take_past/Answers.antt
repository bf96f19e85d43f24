-- The bytes of the log are read.
use Rattle.std.proofs.Common.{option_map, subst, sym}
use Rattle.rbg_console.specs.Files.{IsFileReading, MayBe}
use Rattle.rbg_script.specs.Scripts.{script_of}
use Rattle.rbg_hosting.specs.Pasts.{IsLogOf}
use Rattle.rbg_hosting.proofs.past.take_past.Goals as goal

pub returns-in_ok-script-in-Whole-clause-log : goal.returns-in_ok-script-in-Whole-clause-log
returns-in_ok-script-in-Whole-clause-log g c =
    subst (λ name. IsLogOf (g.F.Files.told c.args.files.now name) (option_map script_of c.in_ok-script-in-Whole.script)) c.as_str-2.ensures.value
    (c.in_ok-script-in-Whole.ensures _ (subst (MayBe (g.F.Files.told c.args.files.now c.as_str-2.result.now)) (sym c.as_slice.ensures.value) (subst (IsFileReading _ _) c.in-Whole.is c.in_ok-bytes.ensures.read).1))
