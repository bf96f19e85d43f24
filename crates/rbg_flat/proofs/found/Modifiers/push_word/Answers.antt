use Rattle.std.proofs.Common.{arith}
use Rattle.rbg_flat.proofs.Spellings.{column_filled, pushed_filled, pushed_word}
use Rattle.rbg_flat.proofs.found.Modifiers.push_word.Goals as goal

pub invariant_of-self : goal.invariant_of-self
invariant_of-self c =
    pushed_filled c.self.inside.words.items c.push.new.self.items _ c.in_ok-push.ensures.items c.self.invariant
    (column_filled c.args.column c.args.position c.args.word c.requires (let some = c.if-word-ne0.true in omega (arith, some)) c.ranges.word.fits)

pub returns-in_ok-push : goal.returns-in_ok-push
returns-in_ok-push c =
    pushed_word c.self.inside.words.items c.push.new.self.items c.args.self.now c.args.column c.args.position c.args.word c.in_ok-push.ensures.items c.self.view_is
