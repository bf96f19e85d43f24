-- A list is joined token by token, and chain by chain.
use Rattle.rbg_base.proofs.Common.{◌∙◌, sym, ◌+◌, ◌≤◌, length, map, arith, take_rest}
use Rattle.rbg_macro.specs.internal.Marks.{lexeme_in_word}
use Rattle.rbg_macro.proofs.JoinedLists.{single_joined, chain_added}
use Rattle.rbg_macro.proofs.Marks.{mark_added, word_added}
use Rattle.rbg_macro.proofs.joining.join.Goals as goal

pub loop-at-preserved-then-begins_with_tilde-2 : goal.loop-at-preserved-then-begins_with_tilde-2
loop-at-preserved-then-begins_with_tilde-2 c = (
  chain_added c.args.list.now _ c.loop-at.at c.in_ok-at.field-0 (map lexeme_in_word c.loop-at.joined) (map lexeme_in_word c.push_chain.new.self) c.loop-at.invariant.0
      (take_rest c.args.list.now c.loop-at.at) c.in_ok-at.ensures.ok,
  c.in_ok-at.ensures.marks c.loop-at.invariant.1,
)

pub loop-at-preserved : goal.loop-at-preserved
loop-at-preserved c =
    let within : c.loop-at.at + 1 ≤ length c.args.list.now = omega arith in (
      single_joined c.args.list.now _ c.loop-at.at _ (map lexeme_in_word c.loop-at.joined) (map lexeme_in_word c.push.new.self) c.loop-at.invariant.0 c.loop-at-test.true
          (take_rest c.args.list.now (c.loop-at.at + 1)) (sym c.begins_with_tilde-in-loop-at.ensures ∙ c.if-begins_with_tilde-2.false)
          (word_added c.loop-at.joined c.push.new.self _ c.in_ok-push.ensures),
      mark_added c.args.macros.now c.args.list.now c.loop-at.at _ c.loop-at.joined c.push.new.self c.loop-at-test.true c.requires c.loop-at.invariant.1 c.in_ok-push.ensures,
    )
