-- The match is noted, or has ended, or neither.
use Rattle.std.proofs.Common.{◌≡◌, ℕ, suc, ◌+◌, true, ◌∙◌, Some, ap, refl, subst, sym, arith}
use Rattle.std.proofs.lemmas.List.{get_or_read}
use Rattle.rbg_hall.specs.Halls.{begun_at}
use Rattle.rbg_hall.specs.Serving.{has_ended}
use Rattle.std.specs.Vec.{with_item}
use Rattle.rbg_hosting.specs.declared.recorder.Recorder.{Recorder}
use Rattle.rbg_hosting.specs.internal.Recorded.{HandsAt, IsHandedNext, noted_at}
use Rattle.rbg_hosting.proofs.HandingLemmas.{marked, not_ended, noted_before}
use Rattle.rbg_hosting.proofs.recorder.Recorder.hand_over_at.Goals as goal

pub returns-then-index : goal.returns-then-index
returns-then-index g c =
    noted_before g.A.Archive.handed c.args.self.now c.args.index _
    (sym (get_or_read c.args.self.now.noted.items c.args.index c.index.result.now c.requires c.index.ensures true) ∙ c.if-index.true)

pub returns-in-Some : goal.returns-in-Some
returns-in-Some g c =
    let number : c.args.index + 1 ≡ suc c.args.index = omega arith in
    let tables = c.args.hall.now.state.tables in
    let is : begun_at tables (suc c.args.index) ≡ Some c.in-Some.played.now = ap (begun_at tables) (sym number) ∙ c.in-Some.ensures.ended.0 in
    let after : Recorder g.row.A.Denot = record { archive = c.hand.new.self.archive; noted = with_item c.hand.new.self.noted c.args.index true; lost = c.hand.new.self.lost } in
    subst (λ begun. HandsAt g.A.Archive.handed c.args.self.now after c.args.index begun) (sym is)
    (marked g.A.Archive.handed c.args.self.now c.hand.new.self after c.args.index c.in-Some.played.now c.hand.ensures.noted refl refl refl c.requires
    (sym (get_or_read c.args.self.now.noted.items c.args.index c.index.result.now c.requires c.index.ensures true) ∙ c.if-index.false)
    c.in-Some.ensures.ended.1
    (λ handed alive has. subst (λ n. IsHandedNext g.A.Archive.handed c.hand.new.self n c.in-Some.played.now handed) number (c.hand.ensures.hands (c.in-Some.ensures.history alive) handed has)))

pub returns-in-None : goal.returns-in-None
returns-in-None g c =
    let number : c.args.index + 1 ≡ suc c.args.index = omega arith in
    not_ended g.A.Archive.handed c.args.self.now c.args.index _
    (ap (λ n. has_ended (begun_at c.args.hall.now.state.tables n)) (sym number) ∙ c.in-None.ensures.ended)
