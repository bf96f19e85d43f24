use Rattle.std.proofs.Common.{refl}
use Rattle.rbg_base.proofs.Errors.{passed_on}
use Rattle.rbg_record.specs.declared.next.Next.TheVariants as nexts
use Rattle.rbg_record.proofs.Stopping.{read_more, read_none}
use Rattle.rbg_record.specs.declared.script_error.ScriptingError.TheVariants.{Form}
use Rattle.rbg_record.specs.Scripting as scripting
use Rattle.rbg_record.proofs.TellingLemmas.{tell_one, telling_refused, telling_stops, told_whole}
use Rattle.rbg_record.proofs.making.write_lines.Goals as goal

pub loop-out-init : goal.loop-out-init
loop-out-init c = read_none c.args.bytes.now (nexts.Version, c.new-out.result.items) _ c.new-reader.ensures (scripting.none, (refl, c.new-out.ensures.items))

pub returns-in_err-line-clause-refused : goal.returns-in_err-line-clause-refused
returns-in_err-line-clause-refused c =
    passed_on c.from_residual.result (Form c.in_err-line.field-0.0.line) _ c.from_residual.ensures.1
    (telling_stops c.loop-out.invariant c.in_err-line.field-0.0 _ refl c.in_err-line.ensures.fault)

pub write_line-requires : goal.write_line-requires
write_line-requires c =
    let takes = rw c.in-Some.is at c.in_ok-line.ensures.line in
    takes.says

pub returns-in_err-next-clause-refused : goal.returns-in_err-next-clause-refused
returns-in_err-next-clause-refused c =
    let takes = rw c.in-Some.is at c.in_ok-line.ensures.line in
    passed_on c.from_residual-in_err-next.result c.in_err-next.field-0.0 _ c.from_residual-in_err-next.ensures.1
    (telling_refused c.loop-out.invariant c.in-Some.line c.in_err-next.field-0.0 takes c.in_err-next.ensures.refused)

pub loop-out-preserved : goal.loop-out-preserved
loop-out-preserved c =
    let takes = rw c.in-Some.is at c.in_ok-line.ensures.line in
    read_more c.loop-out.invariant takes.first takes.later
    (λ texts told. tell_one texts c.in-Some.line.text.now c.loop-out.next c.in_ok-next.next c.loop-out.out.items c.write_line.new.out.items c.in_ok-next.ensures.leads told)

pub returns-clause-made : goal.returns-clause-made
returns-clause-made c = told_whole c.args.bytes.now c.loop-out.next c.loop-out.out.items _ c.loop-out.invariant (rw c.in_default.is at c.in_ok-line.ensures.over)
