-- Each line is read, judged and followed after those before it.
use Rattle.rbg_base.proofs.Common.{◌≡◌, ap, refl, subst, sym, ◌∙◌, [], unwrap_or}
use Rattle.rbg_base.proofs.Errors.{passed_on}
use Rattle.rbg_rules.specs.Meaning.{AbstractPlace, IsPlaceOf}
use Rattle.rbg_wire.specs.Lines.{line_of}
use Rattle.rbg_record.specs.declared.next.Next.{Next}
use Rattle.rbg_record.proofs.LineCommon.{HasContent}
use Rattle.rbg_record.proofs.Stopping.{read_more, read_none}
use Rattle.rbg_record.specs.declared.fault.LineFault.TheVariants.{Form}
use Rattle.rbg_record.specs.Lines as lines
use Rattle.rbg_record.specs.ByLine.{reached_of}
use Rattle.rbg_record.proofs.SoFarLemmas.{misjudged, misread, place_in_game}
use Rattle.rbg_view.specs.Places.{whole_text}
use Rattle.rbg_view.specs.Telling.{Tells, Told, told_first}
use Rattle.rbg_view.specs.Telling as telling
use Rattle.rbg_view.proofs.PageReading.{judged, tell_one, told_whole}
use Rattle.rbg_view.proofs.followed_record.follow_record.Goals as goal

pub loop-reached-init : goal.loop-reached-init
loop-reached-init c =
    let first : record { lines = c.in_ok-lines.lines.items; place = c.in_ok-place.place; marked = [] } ≡ told_first c.args.game.now =
    λ i. record { lines = (c.in_ok-lines.ensures ∙ ap (λ (p : AbstractPlace). line_of (whole_text p)) c.in_ok-place.ensures.start) i; place = c.in_ok-place.ensures.start i; marked = [] } in (
      read_none c.args.bytes.now (lines.version_next, record { lines = c.in_ok-lines.lines.items; place = c.in_ok-place.place; marked = [] }) _ c.new-reader.ensures
          (subst (λ (one : Told). Tells c.args.game.now [] lines.version_next one) (sym first) telling.nothing),
      tt,
      c.in_ok-place.ensures.in_game,
    )

pub returns-in_err-line-clause-refused : goal.returns-in_err-line-clause-refused
returns-in_err-line-clause-refused c =
    passed_on c.from_residual-in_err-line.result (record { line = c.in_err-line.field-0.0.line; fault = Form }) _ c.from_residual-in_err-line.ensures.1
    (misread (judged c.loop-reached.invariant.0) c.in_err-line.field-0.0 _ refl c.next.ensures c.in_err-line.ensures.fault)

pub judge_line-requires-clause-says : goal.judge_line-requires-clause-says
judge_line-requires-clause-says c =
    let takes = rw c.in-Some.is at c.in_ok-line.ensures.line in
    subst (λ (next : Next). HasContent next c.in-Some.line.text.now c.in-Some.line.content) c.next.ensures takes.says

pub returns-in_err-reached-clause-refused : goal.returns-in_err-reached-clause-refused
returns-in_err-reached-clause-refused c =
    let takes = rw c.in-Some.is at c.in_ok-line.ensures.line in
    passed_on c.from_residual-in_err-reached.result c.in_err-reached.field-0.0 _ c.from_residual-in_err-reached.ensures.1
    (misjudged (judged c.loop-reached.invariant.0) c.in-Some.line c.in_err-reached.field-0.0 takes c.in_err-reached.ensures.refused)

pub loop-reached-preserved : goal.loop-reached-preserved
loop-reached-preserved c =
    let takes = rw c.in-Some.is at c.in_ok-line.ensures.line in
    let in_game = c.in_ok-reached.ensures.in_game in
    let game = c.args.game.now in
    let says = subst (λ (next : Next). HasContent next c.in-Some.line.text.now c.in-Some.line.content) c.next.ensures takes.says in (
      read_more c.loop-reached.invariant.0 takes.first takes.later
          (λ texts told. tell_one game texts c.in-Some.line.text.now (reached_of c.loop-reached.reached) (reached_of c.in_ok-reached.reached)
          (record { lines = c.loop-reached.lines.items; place = c.loop-reached.place; marked = unwrap_or c.loop-reached.last [] })
          _ c.move_in.result c.in_ok-reached.ensures.leads (c.move_in.ensures (reached_of c.loop-reached.reached) says)
          (λ i. record { lines = c.in_ok-put_line.ensures i; place = c.in_ok-place-2.ensures i; marked = c.later_of-last.ensures i }) told),
      in_game,
      subst (IsPlaceOf game) (sym c.in_ok-place-2.ensures) (place_in_game game (reached_of c.in_ok-reached.reached) c.loop-reached.place in_game c.loop-reached.invariant.2),
    )

pub returns-clause-followed : goal.returns-clause-followed
returns-clause-followed c = told_whole c.loop-reached.invariant.0 c.next.ensures (rw c.in_default.is at c.in_ok-line.ensures.over)
