-- The log has no whole line, or those of a script.
use Rattle.std.proofs.Common.{◌≡◌, ◌∙◌, [], length, rules, sym}
use Rattle.rbg_base.proofs.Common.{nil_from_length}
use Rattle.rbg_script.specs.Scripts.{script_of}
use Rattle.rbg_hosting.specs.Pasts.IsLogOf.{begun}
use Rattle.rbg_hosting.proofs.PastLemmas.{empty_log}
use Rattle.rbg_hosting.proofs.past.script_in.Goals as goal

pub returns-then-is_empty : goal.returns-then-is_empty
returns-then-is_empty c known may =
    let none : length c.whole_lines-lines.result.now ≡ 0 = search rules in
    empty_log known c.args.bytes.now c.whole_lines-lines.result.now may c.whole_lines-lines.ensures (nil_from_length c.whole_lines-lines.result.now none)

pub returns : goal.returns
returns c known may = begun c.args.bytes.now c.whole_lines-lines.result.now (script_of c.in_ok-script.script) may c.whole_lines-lines.ensures c.in_ok-script.ensures.found
