-- The hall that is served is the one that was prepared, and its recorder has handed over nothing.
use Rattle.rbg_base.proofs.Common.{◌≡◌, ◌∙◌, [], ap, length, length-map, sym, refl, subst, Bool}
use Rattle.std.specs.Global.{Vec}
use Rattle.rbg_hall.proofs.Common.{AbstractTable, HeldHall, IsNewHall}
use Rattle.rbg_hall.proofs.Wholes.{new_run}
use Rattle.rbg_match.specs.PlayingOn.{seats_of}
use Rattle.rbg_hosting.specs.Archives.{wanted_of}
use Rattle.rbg_hosting.specs.Pasts.{past_from}
use Rattle.rbg_hosting.specs.Served.{HasOutcome}
use Rattle.rbg_hosting.specs.declared.recorder.Recorder.{Recorder}
use Rattle.rbg_hosting.specs.internal.Recorded.{RunEnds}
use Rattle.rbg_hosting.specs.internal.Resuming.{pasts_in}
use Rattle.rbg_hosting.proofs.AnswerLemmas.{fresh_recorder, on_ok, outcome_so, records_printed}
use Rattle.rbg_hosting.proofs.RecordedLemmas.{heard_first}
use Rattle.rbg_hosting.proofs.serving.play.Goals as goal

pub returns-clause-printed : goal.returns-clause-printed
returns-clause-printed g c none config descriptions wants prepared =
    let is_new = subst (λ (one : HeldHall _). IsNewHall prepared.tables one c.args.prepared.out) (sym c.new-recorded.ensures.hall) prepared.is in
    let as_many : length prepared.tables ≡ length c.args.prepared.players.items = sym (ap length prepared.players_are ∙ length-map prepared.tables (λ (table : AbstractTable). seats_of table.game)) in
    let counted = as_many ∙ sym (c.len-matches.ensures ∙ c.args.prepared.players.ok.0) in
    records_printed c.go_on-served.result c.answer_of-answer.result c.go_on-served.new.recorded config descriptions prepared.tables _
    prepared.are counted
    (on_ok c.go_on-served.result (λ over. over prepared.tables [] (new_run prepared.tables c.new-recorded.result.hall c.args.prepared.out is_new)) (c.go_on-served.ensures.new_ended (c.as_slice.ensures.value ∙ none)))
    c.answer_of-answer.ensures

pub returns-clause-archived : goal.returns-clause-archived
returns-clause-archived g c config descriptions wants prepared empty =
    let is_new = subst (λ (one : HeldHall _). IsNewHall prepared.tables one c.args.prepared.out) (sym c.new-recorded.ensures.hall) prepared.is in
    let as_many : length prepared.tables ≡ length c.args.prepared.players.items = sym (ap length prepared.players_are ∙ length-map prepared.tables (λ (table : AbstractTable). seats_of table.game)) in
    let counted = as_many ∙ sym (c.len-matches.ensures ∙ c.args.prepared.players.ok.0) in
    let same = c.new-recorded.ensures.recorder in
    let fresh = fresh_recorder g.A.Archive.handed c.new-recorded.result.recorder c.args.archive c.args.prepared.noted.items wants (length prepared.tables)
    (ap (λ (one : Recorder _). one.archive) same ∙ c.new-recorder.ensures.archive)
    (ap (λ (one : Recorder _). one.noted.items) same ∙ ap (λ (one : Vec Bool). one.items) c.new-recorder.ensures.noted)
    (ap (λ (one : Recorder _). one.lost) same ∙ c.new-recorder.ensures.lost)
    prepared.places empty in
    let first = heard_first c.new-recorded.result.recorder is_new fresh.0 in
    let run = c.go_on-served.ensures.archived prepared.tables _ (as_many ∙ ap length (sym c.as_slice-2.ensures.value)) first in
    subst (λ archive. HasOutcome g.A.Archive.handed g.N.Clock.Clock.told config descriptions (pasts_in c.args.prepared.pasts.items) wants archive c.answer_of-answer.result) (sym c.into_archive.ensures)
    (outcome_so g.A.Archive.handed g.N.Clock.Clock.told c.go_on-served.result c.answer_of-answer.result c.go_on-served.new.recorded config descriptions (pasts_in c.args.prepared.pasts.items) wants prepared.tables
    _ _ prepared.are counted
    (ap (λ them. past_from 1 0 c.as_slice-2.result.now (pasts_in them)) c.as_slice.ensures.value ∙ ap (λ them. past_from 1 0 them (pasts_in c.args.prepared.pasts.items)) (c.as_slice-2.ensures.value ∙ prepared.players_are))
    (on_ok c.go_on-served.result (λ over. over prepared.tables _ first) c.go_on-served.ensures.ended)
    (subst (λ n. RunEnds g.A.Archive.handed g.N.Clock.Clock.told prepared.tables n (past_from 1 0 c.as_slice-2.result.now (pasts_in c.as_slice.result.now)) c.go_on-served.new.recorded c.go_on-served.result) (fresh.1 ∙ ap (λ n. wanted_of wants n) counted) run)
    c.answer_of-answer.ensures)
