-- What is written is what the two kinds ask for.
use Rattle.std.proofs.Common.{true, false, refl, sym, ◌∙◌}
use Rattle.rbg_position.specs.internal.Walking.{is_spaced}
use Rattle.rbg_position.proofs.Spaces.{spaced_as}
use Rattle.rbg_position.proofs.board.space_between.Goals as goal

pub returns-then-begins_line : goal.returns-then-begins_line
returns-then-begins_line c =
    spaced_as c.args.last c.args.next true (is_spaced c.args.last) (sym c.begins_line.ensures ∙ c.if-begins_line.true) refl

pub returns-then-is_spaced : goal.returns-then-is_spaced
returns-then-is_spaced c =
    spaced_as c.args.last c.args.next false true (sym c.begins_line.ensures ∙ c.if-begins_line.false) (sym c.is_spaced.ensures ∙ c.if-is_spaced.true)

pub returns-else-is_spaced : goal.returns-else-is_spaced
returns-else-is_spaced c =
    spaced_as c.args.last c.args.next false false (sym c.begins_line.ensures ∙ c.if-begins_line.false) (sym c.is_spaced.ensures ∙ c.if-is_spaced.false)
