use Rattle.std.proofs.Common.{refl, subst}
use Rattle.rbg_base.proofs.Errors.{passed_on}
use Rattle.rbg_record.specs.declared.next.Next.{Next}
use Rattle.rbg_record.proofs.LineCommon.{HasContent}
use Rattle.rbg_record.proofs.Stopping.{read_more, read_none}
use Rattle.rbg_record.specs.declared.fault.LineFault.TheVariants.{Form}
use Rattle.rbg_record.specs.Lines as lines
use Rattle.rbg_record.proofs.SoFarLemmas.{judged_whole, misjudged, misread}
use Rattle.rbg_record.proofs.checking.judge_lines.Goals as goal

pub loop-reached-init : goal.loop-reached-init
loop-reached-init c = (read_none c.args.bytes.now lines.version_next _ c.new-reader.ensures lines.none, tt)

pub returns-in_err-line-clause-misfit : goal.returns-in_err-line-clause-misfit
returns-in_err-line-clause-misfit c =
    passed_on c.from_residual.result (record { line = c.in_err-line.field-0.0.line; fault = Form }) _ c.from_residual.ensures.1
    (misread c.loop-reached.invariant.0 c.in_err-line.field-0.0 _ refl c.next.ensures c.in_err-line.ensures.fault)

pub judge_line-requires-clause-says : goal.judge_line-requires-clause-says
judge_line-requires-clause-says c =
    let takes = rw c.in-Some.is at c.in_ok-line.ensures.line in
    subst (λ (next : Next). HasContent next c.in-Some.line.text.now c.in-Some.line.content) c.next.ensures takes.says

pub returns-in_err-reached-clause-misfit : goal.returns-in_err-reached-clause-misfit
returns-in_err-reached-clause-misfit c =
    let takes = rw c.in-Some.is at c.in_ok-line.ensures.line in
    passed_on c.from_residual-in_err-reached.result c.in_err-reached.field-0.0 _ c.from_residual-in_err-reached.ensures.1
    (misjudged c.loop-reached.invariant.0 c.in-Some.line c.in_err-reached.field-0.0 takes c.in_err-reached.ensures.refused)

pub loop-reached-preserved : goal.loop-reached-preserved
loop-reached-preserved c =
    let takes = rw c.in-Some.is at c.in_ok-line.ensures.line in
    (read_more c.loop-reached.invariant.0 takes.first takes.later (λ texts led. lines.more led c.in_ok-reached.ensures.leads), c.in_ok-reached.ensures.in_game)

pub returns-clause-good : goal.returns-clause-good
returns-clause-good c = judged_whole c.loop-reached.invariant.0 c.next.ensures (rw c.in_default.is at c.in_ok-line.ensures.over)
