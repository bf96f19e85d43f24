use Rattle.std.proofs.lemmas.List.Elements.{Contains-get_or}
use Rattle.rbg_shifts.proofs.Common.{IsLeap, start_of}
use Rattle.rbg_flat.proofs.Common.{IsAmong}
use Rattle.rbg_flat.proofs.Endings.{filled_targets}
use Rattle.rbg_flat.proofs.Leaping.{among_leap, leap_among, leads_on_board, targets_for}
use Rattle.rbg_flat.proofs.Walkings.{goes_as}
use Rattle.rbg_flat.proofs.walk.Walk.lead.Goals as goal

pub meet_all-requires-clause-targets : goal.meet_all-requires-clause-targets
meet_all-requires-clause-targets c = λ k d under.
    let game = c.args.setting.now.game.now in
    let f = start_of c.args.origin in
    let targets = c.leads-ends.result.0.now in
    let are = c.leads-ends.ensures.from game (c.in-Some.ensures.some.1 game c.requires.set.paths) c.requires.vertex c.requires.stands in
    record {
      target = targets_for game c.requires.set.lawful.numbered f c.args.vertex targets are k d under;
      some = filled_targets game f c.args.vertex targets are _ (Contains-get_or targets k d under);
    }

pub meet_all-requires-clause-board : goal.meet_all-requires-clause-board
meet_all-requires-clause-board c = λ v p among.
    let game = c.args.setting.now.game.now in
    let f = start_of c.args.origin in
    let targets = c.leads-ends.result.0.now in
    let are = c.leads-ends.ensures.from game (c.in-Some.ensures.some.1 game c.requires.set.paths) c.requires.vertex c.requires.stands in
    let leap = among_leap game c.requires.set.lawful.numbered f c.args.vertex targets are v p among in
    leads_on_board game c.requires.set.lawful.board c.args.vertex leap.shifts v c.requires.vertex leap.leads

pub returns-then-meet_all-clause-goes : goal.returns-then-meet_all-clause-goes
returns-then-meet_all-clause-goes c = λ was.
    let game = c.args.setting.now.game.now in
    let f = start_of c.args.origin in
    let targets = c.leads-ends.result.0.now in
    let are = c.leads-ends.ensures.from game (c.in-Some.ensures.some.1 game c.requires.set.paths) c.requires.vertex c.requires.stands in
    goes_as game c.args.setting.now.state.now.state c.args.self.now c.meet_all.new.self was (IsAmong targets) (λ v p. IsLeap game f c.args.vertex p v)
    (c.meet_all.ensures c.if-meet_all.true was) (among_leap game c.requires.set.lawful.numbered f c.args.vertex targets are) (leap_among game c.requires.set.lawful.numbered f c.args.vertex targets are)

pub returns-then-meet_all-clause-ends : goal.returns-then-meet_all-clause-ends
returns-then-meet_all-clause-ends c = c.leads-ends.ensures.ends c.args.setting.now.game.now (c.in-Some.ensures.some.1 c.args.setting.now.game.now c.requires.set.paths) c.requires.vertex c.requires.stands

pub meet_all-requires-clause-walk : goal.meet_all-requires-clause-walk
meet_all-requires-clause-walk c = c.requires.walk
