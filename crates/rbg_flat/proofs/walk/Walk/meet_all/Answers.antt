use Rattle.std.proofs.Common.{List, [], subst}
use Rattle.std.proofs.lemmas.List.{take_all}
use Rattle.std.proofs.lemmas.List.Elements.{Contains-get_or}
use Rattle.rbg_shifts.specs.declared.target.Target.{Target}
use Rattle.rbg_flat.proofs.Common.{IsAmong}
use Rattle.rbg_flat.specs.internal.Walking.{GoesOn}
use Rattle.rbg_flat.proofs.Leadings.{among_apart, among_first, among_second, none_among}
use Rattle.rbg_flat.proofs.Onwards.{false_not_true}
use Rattle.rbg_flat.proofs.Walkings.{goes_both, goes_none}
use Rattle.rbg_flat.proofs.walk.Walk.meet_all.Goals as goal

pub loop-target-init : goal.loop-target-init
loop-target-init c = record {
  walk = c.requires.walk;
  goes = λ was. goes_none c.args.setting.now.game.now c.args.setting.now.state.now.state c.args.self.now was (IsAmong []) none_among;
}

pub meet-requires-clause-target : goal.meet-requires-clause-target
meet-requires-clause-target c = c.requires.targets c.loop-target.target-index (record { position = 0; column = 0; word = 0 }) c.loop-target-test.true

pub meet-requires-clause-board : goal.meet-requires-clause-board
meet-requires-clause-board c = λ v p there. c.requires.board v p (record { target = _; listed = Contains-get_or c.args.targets.now c.loop-target.target-index (record { position = 0; column = 0; word = 0 }) c.loop-target-test.true; there = there })

pub meet-requires-clause-walk : goal.meet-requires-clause-walk
meet-requires-clause-walk c = c.loop-target.invariant.walk

pub returns-then-not-meet : goal.returns-then-not-meet
returns-then-not-meet c = λ told. absurd (false_not_true told)

pub loop-target-preserved : goal.loop-target-preserved
loop-target-preserved c =
    let game = c.args.setting.now.game.now in
    let s = c.args.setting.now.state.now.state in
    let targets = c.args.targets.now in
    let i = c.loop-target.target-index in
    let d : Target = record { position = 0; column = 0; word = 0 } in
    let is = c.loop-target.invariant in
    record {
      walk = (c.meet.ensures c.if-not-meet.false is.walk).now;
      goes = λ was.
          goes_both game s c.args.self.now c.loop-target.self c.meet.new.self was (IsAmong (Rattle.std.proofs.Common.take i targets)) _ _
          (is.goes was) (c.meet.ensures c.if-not-meet.false (is.goes was).now)
          (among_apart targets i d c.loop-target-test.true) (among_first targets i d c.loop-target-test.true) (among_second targets i d c.loop-target-test.true);
    }

pub returns : goal.returns
returns c = λ told was.
    subst (λ (ts : List Target). GoesOn c.args.setting.now.game.now c.args.setting.now.state.now.state c.args.self.now was c.loop-target.self (IsAmong ts))
    (take_all c.loop-target.target-index c.args.targets.now c.loop-target-test.false) (c.loop-target.invariant.goes was)
