-- Only the mark of a position has another number.
use Rattle.std.proofs.Common.{◌∙◌, sym, ap}
use Rattle.rbg_position.specs.declared.key_mark.KeyMark.TheVariants.{Act}
use Rattle.rbg_position.specs.Renumbering.{number_in}
use Rattle.rbg_position.specs.internal.Marks.{renumbered_mark}
use Rattle.rbg_position.proofs.RestKeys.{other_mark}
use Rattle.rbg_position.proofs.same_rest.renumbered_mark.Goals as goal

pub returns-in-Act : goal.returns-in-Act
returns-in-Act c = ap (λ p. Act p) c.number_of.ensures ∙ sym (ap (renumbered_mark (number_in c.args.numbers.now)) c.in-Act.is)

pub returns-in_default : goal.returns-in_default
returns-in_default c = other_mark (number_in c.args.numbers.now) c.args.mark c.in_default.not-Act
