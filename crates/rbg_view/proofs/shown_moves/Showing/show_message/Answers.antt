-- A message is made or refused.
use Rattle.std.proofs.Common.{subst}
use Rattle.rbg_view.specs.internal.Trying.{TellsOne}
use Rattle.rbg_view.proofs.Following.{said_and_made, said_and_refused}
use Rattle.rbg_view.proofs.shown_moves.Showing.show_message.Goals as goal

pub returns-then-is_made-clause-follows : goal.returns-then-is_made-clause-follows
returns-then-is_made-clause-follows c =
    let made = subst (TellsOne c.as_slice.result.now c.args.self.now.scene.play c.make_one.new.self.play) c.if-is_made.true c.in_ok-is_made.ensures.made in
    said_and_made c.args.seat c.args.text.now _ c.as_slice.result.now c.args.self.now.scene.play c.make_one.new.self.play c.as_slice.ensures.value c.in_ok-said.ensures made

pub returns-clause-follows : goal.returns-clause-follows
returns-clause-follows c =
    let made = subst (TellsOne c.as_slice.result.now c.args.self.now.scene.play c.make_one.new.self.play) c.if-is_made.false c.in_ok-is_made.ensures.made in
    said_and_refused c.args.seat c.args.text.now _ c.as_slice.result.now c.args.self.now.scene.play c.make_one.new.self.play _ c.as_slice.ensures.value c.in_ok-said.ensures made c.refuse.ensures
