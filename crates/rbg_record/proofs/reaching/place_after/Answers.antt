use Rattle.std.proofs.Common.{refl, subst, sym}
use Rattle.rbg_base.proofs.Errors.{passed_on}
use Rattle.rbg_rules.specs.Meaning.{IsPlaceOf}
use Rattle.rbg_record.specs.declared.next.Next.{Next}
use Rattle.rbg_record.proofs.LineCommon.{HasContent}
use Rattle.rbg_record.proofs.Stopping.{read_more, read_none}
use Rattle.rbg_record.specs.declared.fault.LineFault.TheVariants.{Form}
use Rattle.rbg_record.specs.Lines as lines
use Rattle.rbg_record.proofs.Common.{reached_of}
use Rattle.rbg_record.proofs.Following.{follow_one, followed_whole, judged}
use Rattle.rbg_record.proofs.SoFarLemmas.{misjudged, misread, place_in_game}
use Rattle.rbg_record.proofs.reaching.place_after.Goals as goal

pub loop-reached-init : goal.loop-reached-init
loop-reached-init c = (read_none c.args.bytes.now (lines.version_next, c.in_ok-place.place) _ c.new-reader.ensures (lines.none, tt), tt, c.in_ok-place.ensures.in_game)

pub returns-in_err-line-clause-misfit : goal.returns-in_err-line-clause-misfit
returns-in_err-line-clause-misfit c =
    passed_on c.from_residual-in_err-line.result (record { line = c.in_err-line.field-0.0.line; fault = Form }) _ c.from_residual-in_err-line.ensures.1
    (misread (judged c.loop-reached.invariant.0) c.in_err-line.field-0.0 _ refl c.next.ensures c.in_err-line.ensures.fault)

pub judge_line-requires-clause-says : goal.judge_line-requires-clause-says
judge_line-requires-clause-says c =
    let takes = rw c.in-Some.is at c.in_ok-line.ensures.line in
    subst (λ (next : Next). HasContent next c.in-Some.line.text.now c.in-Some.line.content) c.next.ensures takes.says

pub returns-in_err-reached-clause-misfit : goal.returns-in_err-reached-clause-misfit
returns-in_err-reached-clause-misfit c =
    let takes = rw c.in-Some.is at c.in_ok-line.ensures.line in
    passed_on c.from_residual-in_err-reached.result c.in_err-reached.field-0.0 _ c.from_residual-in_err-reached.ensures.1
    (misjudged (judged c.loop-reached.invariant.0) c.in-Some.line c.in_err-reached.field-0.0 takes c.in_err-reached.ensures.refused)

pub loop-reached-preserved : goal.loop-reached-preserved
loop-reached-preserved c =
    let takes = rw c.in-Some.is at c.in_ok-line.ensures.line in
    let in_game = c.in_ok-reached.ensures.in_game in
    let game = c.args.game.now in (
      read_more c.loop-reached.invariant.0 takes.first takes.later
          (λ texts followed. follow_one game texts c.in-Some.line.text.now (reached_of c.loop-reached.reached) (reached_of c.in_ok-reached.reached) c.loop-reached.place c.in_ok-place-2.place c.in_ok-reached.ensures.leads c.in_ok-place-2.ensures followed),
      in_game,
      subst (IsPlaceOf game) (sym c.in_ok-place-2.ensures) (place_in_game game (reached_of c.in_ok-reached.reached) c.loop-reached.place in_game c.loop-reached.invariant.2),
    )

pub returns-clause-place : goal.returns-clause-place
returns-clause-place c = followed_whole c.loop-reached.invariant.0 c.next.ensures (rw c.in_default.is at c.in_ok-line.ensures.over)
