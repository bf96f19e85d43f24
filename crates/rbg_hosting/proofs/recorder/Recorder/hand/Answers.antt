-- The archive was handed the match's record, or there was no memory for it.
use Rattle.std.proofs.Common.{◌≡◌, ◌||◌, ◌∙◌, not, ap, refl, subst, sym}
use Rattle.rbg_hosting.specs.Records.{IsRecordOf}
use Rattle.rbg_hosting.proofs.HandingLemmas.{kept_next, lost_next}
use Rattle.rbg_hosting.proofs.recorder.Recorder.hand.Goals as goal
use Rattle.rbg_hosting.proofs.recorder.Recorder.hand.Goals.{else-self, then-self}

pub returns-after-self-clause-hands : goal.returns-after-self-clause-hands
returns-after-self-clause-hands g c history handed has =
    let lost : c.if-self.self ≡ (c.args.self.now.lost || not c.keep-kept.result) =
    elim c.if-self.branch [
      | then-self w ↦ w.self-is ∙ w.if-self.true ∙ sym (ap (λ b. b || not c.keep-kept.result) w.if-self.true)
      | else-self w ↦ w.self-is ∙ sym (ap (λ b. b || not c.keep-kept.result) w.if-self.false)
    ] in
    kept_next g.A.Archive.handed c.args.self.now _ c.args.number c.args.played.now c.as_slice.result.now c.keep-kept.result handed has
    (subst (IsRecordOf c.args.played.now.game c.args.played.now) (sym c.as_slice.ensures.value) (record { spells = c.in-Ok.ensures.spelled history; right = c.in-Ok.ensures.right history }))
    (c.keep-kept.ensures handed has.account)
    lost

pub returns-in-Err-clause-hands : goal.returns-in-Err-clause-hands
returns-in-Err-clause-hands g c history handed has =
    lost_next g.A.Archive.handed c.args.self.now _ c.args.number c.args.played.now handed has (c.lose.ensures handed has.account) refl
