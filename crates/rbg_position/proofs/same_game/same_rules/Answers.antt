-- Rules are the same if their keys are.
use Rattle.rbg_base.proofs.Common.{rules, ◌≡◌, Decides, ◌∙◌, slice_eq-Decides}
use Rattle.rbg_position.specs.contracts.key_mark.KeyMarkPartialEq.TheImpl as equality
use Rattle.rbg_position.specs.declared.key_mark.KeyMark.{KeyMark}
use Rattle.rbg_position.specs.declared.key_mark.KeyMark.TheVariants.{Number}
use Rattle.rbg_position.proofs.Texts.{alike}
use Rattle.rbg_position.proofs.same_game.same_rules.Goals as goal

decides : (a b : KeyMark) → Decides (equality.ghosts.eq a b) (a ≡ b)
decides (Number n) b = search rules
decides _ b = search rules

pub returns : goal.returns
returns c =
    alike _ _ _ _ _ (slice_eq-Decides decides _ _ _ c.eq.ensures) (c.as_slice.ensures.value ∙ c.in_ok-old.ensures) (c.as_slice-2.ensures.value ∙ c.in_ok-new.ensures)
